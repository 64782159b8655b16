use Rattle.std.proofs.Common.{◌-◌, arith}
use Rattle.mode_repair.proofs.Marking.{no_mark, one_mark, past_mark}
use Rattle.mode_repair.proofs.statements.mark_one.Goals as goal

pub returns-then-place-eq0-clause-each : goal.returns-then-place-eq0-clause-each
returns-then-place-eq0-clause-each c i within =
    no_mark c.args.marks.now c.args.number i c.if-place-eq0.true within

pub returns-then-place-marks-clause-each : goal.returns-then-place-marks-clause-each
returns-then-place-marks-clause-each c i within =
    past_mark c.args.marks.now c.args.number i c.if-place-marks.true within

pub returns-clause-each : goal.returns-clause-each
returns-clause-each c i within =
    one_mark c.args.marks.now c.args.number (c.args.number - 1) i (omega arith) (omega arith)
