use Rattle.std.proofs.Common.{arith}
use Rattle.ba_checker.proofs.SplitLaws.{or_end}
use Rattle.ba_checker.proofs.split.add_ors.Goals as goal

pub returns : goal.returns
returns c = or_end c.args.d c.loop-place.place c.args.lits.now c.loop-place.clauses _
    (omega (arith, c.loop-place-test.false)) c.loop-place.invariant
