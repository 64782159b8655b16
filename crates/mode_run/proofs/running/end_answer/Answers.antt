use Rattle.std.proofs.lemmas.Result.{err_from_is_err_and}
use Rattle.mode_run.proofs.Ending.{end_told}
use Rattle.mode_run.proofs.running.end_answer.Goals as goal

pub returns-in_err-check_failing-clause-err : goal.returns-in_err-check_failing-clause-err
returns-in_err-check_failing-clause-err c =
    let q = err_from_is_err_and c.from_residual.result c.from_residual.ensures.1 in
    rw (q.1, q.2) (end_told c.args.program.now c.args.outcome c.in_err-check_failing.field-0.0
    c.in_err-check_failing.ensures.err)
