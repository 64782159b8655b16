use Rattle.std.proofs.Common.{◌≡◌, drop}
use Rattle.ba_lits.specs.Hints.{standing}
use Rattle.ba_checker.proofs.ReplayLaws.{joined}
use Rattle.ba_checker.proofs.replay.look_at.Given as goal

abbrev pub invariant-loop-lit : goal.invariant-loop-lit
invariant-loop-lit l = joined l.free (standing l.falses (drop l.lit-index l.lits)) ≡ standing l.falses l.lits
