use Rattle.std.proofs.Common.{length}
use Rattle.ba_watch.proofs.Backtracks.{IsFront}
use Rattle.ba_watch.proofs.trail.Trail.back_to.Given as goal

abbrev pub invariant-loop-self : goal.invariant-loop-self
invariant-loop-self l = IsFront l.level l.self l.initial.self

abbrev pub decreases-loop-self : goal.decreases-loop-self
decreases-loop-self l = length l.self.lits
