use Rattle.std.proofs.Common.{arith}
use Rattle.ba_checker.proofs.SplitLaws.{and_end}
use Rattle.ba_checker.proofs.split.add_ands.Goals as goal

pub returns : goal.returns
returns c = and_end c.args.d c.args.e c.loop-place.place c.args.lits.now c.loop-place.clauses _
    (omega (arith, c.loop-place-test.false)) c.loop-place.invariant
