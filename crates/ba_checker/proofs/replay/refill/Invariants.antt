use Rattle.std.proofs.Common.{◌≡◌, take}
use Rattle.ba_checker.proofs.replay.refill.Given as goal

abbrev pub invariant-loop-lit : goal.invariant-loop-lit
invariant-loop-lit l = l.set ≡ take l.lit-index l.lits
