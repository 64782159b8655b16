use Rattle.ba_cases.proofs.Answered.{stop_answers, stop_errs}
use Rattle.mode_run.specs.Runs.{run_answer}
use Rattle.mode_run.proofs.running.run_texts.Goals as goal

pub returns-in-Err-clause-answer : goal.returns-in-Err-clause-answer
returns-in-Err-clause-answer c = stop_answers c.args.texts.now.program
    (run_answer c.args.job.now.bounds c.args.texts.now) c.in-Err.stop c.answer.result c.in-Err.ensures.err
    c.answer.ensures

pub returns-in-Err-clause-err : goal.returns-in-Err-clause-err
returns-in-Err-clause-err c = stop_errs c.in-Err.stop c.answer.result c.answer.ensures
