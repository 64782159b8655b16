use Rattle.std.proofs.Common.{refl}
use Rattle.std.proofs.lemmas.Result.{IfOk-weaker}
use Rattle.ba_cases.proofs.Answered.{stop_answers, stop_no_fault}
use Rattle.ba_steps.proofs.SinkLaws.{Outlasts-refl}
use Rattle.mode_repair.specs.Cases.{repair_answer}
use Rattle.mode_repair.specs.Searches.{at_once}
use Rattle.mode_repair.proofs.Searching.{answered_at_once}
use Rattle.mode_repair.proofs.search.repair_texts.Goals as goal

pub returns-in-Err : goal.returns-in-Err
returns-in-Err g c =
    let j = c.args.job.now in
    let x = c.args.texts.now in
    record {
      answer = IfOk-weaker c.answer.result _ _ (answered_at_once j x _)
          (stop_answers x.program (repair_answer j.bounds x) c.in-Err.stop c.answer.result
          c.in-Err.ensures.err
          c.answer.ensures);
      left = at_once (refl, refl);
      cause = λ failed. absurd (stop_no_fault c.in-Err.stop c.answer.result c.answer.ensures failed);
      outlasts = Outlasts-refl (g.D.StepSink.told c.args.steps.now);
    }
