use Rattle.std.proofs.Common.{refl}
use Rattle.std.proofs.lemmas.Result.{IfOk-weaker}
use Rattle.ba_cases.proofs.Answered.{stop_answers, stop_no_fault}
use Rattle.ba_steps.proofs.SinkLaws.{Outlasts-refl}
use Rattle.mode_rank.specs.Inputs.{rank_answer}
use Rattle.mode_rank.specs.Searches.{at_once}
use Rattle.mode_rank.proofs.Listing.{concludes_at_once}
use Rattle.mode_rank.proofs.Reading.{may_be_searched}
use Rattle.mode_rank.proofs.ranking.rank_texts.Goals as goal

pub rank_runs-requires-clause-runs : goal.rank_runs-requires-clause-runs
rank_runs-requires-clause-runs g c =
    may_be_searched c.args.job.now c.args.texts.now c.in-Ok.runs c.requires.job c.in-Ok.ensures.ok

pub returns : goal.returns
returns g c =
    let j = c.args.job.now in
    let x = c.args.texts.now in
    let t = g.D.StepSink.told c.args.steps.now in
    record {
      answer = IfOk-weaker c.answer.result _ _ (concludes_at_once j x t)
          (stop_answers x.program (rank_answer j.bounds x) c.in-Err.stop c.answer.result c.in-Err.ensures.err
          c.answer.ensures);
      left = at_once (refl, refl);
      cause = λ failed. absurd (stop_no_fault c.in-Err.stop c.answer.result c.answer.ensures failed);
      outlasts = Outlasts-refl t;
    }
