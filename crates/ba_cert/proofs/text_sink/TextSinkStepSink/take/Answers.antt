use Rattle.std.proofs.lemmas.Result.{err_from_is_err_and}
use Rattle.ba_cert.proofs.text_sink.TextSinkStepSink.take.Goals as goal

pub returns-in_err-add_line-clause-takes : goal.returns-in_err-add_line-clause-takes
returns-in_err-add_line-clause-takes g c =
    let e = err_from_is_err_and c.from_residual.result c.from_residual.ensures.1 in
    rw (e.1, e.2) (c.in_err-add_line.ensures.takes c.args.self.now.world.ghost_name)

pub returns-clause-takes : goal.returns-clause-takes
returns-clause-takes g c = c.in_ok-add_line.ensures.takes c.args.self.now.world.ghost_name
