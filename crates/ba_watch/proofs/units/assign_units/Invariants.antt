use Rattle.std.proofs.Common.{◌≡◌, ◌<◌, [], vec_len}
use Rattle.ba_watch.specs.Trails.{decided}
use Rattle.ba_watch.specs.Propagation.{AreUnits, AssignsUnits, InRange}
use Rattle.ba_watch.proofs.units.assign_units.Given as goal

abbrev pub invariant-loop-waiting : goal.invariant-loop-waiting
invariant-loop-waiting l = record {
  range : InRange l.arena l.trail.variables;
  assigns : AssignsUnits l.arena l.initial.trail l.trail;
  units : AreUnits l.arena l.trail.lits l.trail.reasons l.waiting.items;
  raised : 0 < decided l.trail.reasons → l.waiting.items ≡ [];
}

abbrev pub decreases-loop-waiting : goal.decreases-loop-waiting
decreases-loop-waiting l = vec_len l.waiting
