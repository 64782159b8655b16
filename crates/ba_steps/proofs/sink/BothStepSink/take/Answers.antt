use Rattle.std.proofs.lemmas.Result.{err_from_is_err_and}
use Rattle.ba_steps.proofs.SinkLaws.{takes_first, takes_second}
use Rattle.ba_steps.proofs.sink.BothStepSink.take.Goals as goal

pub returns-in_err-take-clause-takes : goal.returns-in_err-take-clause-takes
returns-in_err-take-clause-takes g c =
    let q = err_from_is_err_and c.from_residual.result c.from_residual.ensures.1 in
    rw (q.1, q.2) (takes_first c.args.step.now c.args.self.now.second.ghost_name c.in_err-take.field-0.0
    (g.A.StepSink.told c.args.self.now.first) (g.A.StepSink.told c.take.new.self)
    (g.D.StepSink.told c.args.self.now.second.now) c.in_err-take.ensures)

pub returns-clause-takes : goal.returns-clause-takes
returns-clause-takes g c = takes_second c.args.step.now c.args.self.now.second.ghost_name c.take-2.result
    (g.A.StepSink.told c.args.self.now.first) (g.A.StepSink.told c.take.new.self)
    (g.D.StepSink.told c.args.self.now.second.now) (g.D.StepSink.told c.take-2.new.self)
    c.in_ok-take.ensures c.take-2.ensures
