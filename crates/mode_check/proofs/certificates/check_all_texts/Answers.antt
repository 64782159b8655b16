use Rattle.mode_check.specs.Checks.{all_runs}
use Rattle.mode_check.proofs.Concluding.{stopped_ends}
use Rattle.mode_check.proofs.certificates.check_all_texts.Goals as goal

pub returns-in-Ok-clause-ends : goal.returns-in-Ok-clause-ends
returns-in-Ok-clause-ends g c = c.check_case_of_all.ensures.ends c.args.texts.now c.in-Ok.ensures.ok

pub returns-in-Err-clause-ends : goal.returns-in-Err-clause-ends
returns-in-Err-clause-ends g c = stopped_ends (all_runs c.args.job.now) c.args.job.now c.args.texts.now
    (g.W.World.outside c.args.world.now) (g.D.StepSink.told c.args.steps.now) c.in-Err.stop c.answer.result
    c.in-Err.ensures.err c.answer.ensures
