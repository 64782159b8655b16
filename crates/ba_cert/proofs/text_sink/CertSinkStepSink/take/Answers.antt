use Rattle.std.proofs.lemmas.Result.{err_from_is_err_and}
use Rattle.ba_cert.specs.Writing.{told_at}
use Rattle.ba_steps.proofs.SinkLaws.{takes_first, takes_second}
use Rattle.ba_cert.proofs.text_sink.CertSinkStepSink.take.Goals as goal

pub returns-in_err-take-clause-takes : goal.returns-in_err-take-clause-takes
returns-in_err-take-clause-takes g c =
    let old = c.args.self.now.text in
    let new = c.take.new.self in
    let q = err_from_is_err_and c.from_residual.result c.from_residual.ensures.1 in
    rw (q.1, q.2) (takes_first c.args.step.now c.args.self.now.next.ghost_name c.in_err-take.field-0.0
    (told_at old.head old.name.now (g.W.World.outside old.world.now) old.world.ghost_name)
    (told_at new.head new.name.now (g.W.World.outside new.world.now) new.world.ghost_name)
    (g.D.StepSink.told c.args.self.now.next.now) c.in_err-take.ensures.takes)

pub returns-clause-takes : goal.returns-clause-takes
returns-clause-takes g c =
    let old = c.args.self.now.text in
    let new = c.take.new.self in
    takes_second c.args.step.now c.args.self.now.next.ghost_name c.take-2.result
    (told_at old.head old.name.now (g.W.World.outside old.world.now) old.world.ghost_name)
    (told_at new.head new.name.now (g.W.World.outside new.world.now) new.world.ghost_name)
    (g.D.StepSink.told c.args.self.now.next.now) (g.D.StepSink.told c.take-2.new.self)
    c.in_ok-take.ensures.takes c.take-2.ensures
