use Rattle.std.proofs.Common.{◌≡◌, false, ◌+◌, ◌-◌, ◌*◌, length}
use Rattle.ba_learn.specs.Resolving.{is_seen, count_below, Resolves, KeepsWork, IsMinimised}
use Rattle.ba_learn.proofs.resolution.Resolution.close.Given as goal

abbrev pub invariant-loop-place : goal.invariant-loop-place
invariant-loop-place l = record {
  resolves : Resolves l.watch l.initial.self l.self;
  work : KeepsWork l.watch l.initial.self l.self;
  pending : l.self.pending ≡ l.initial.self.pending;
  short : l.initial.self.deep ≡ false → IsMinimised l.watch l.initial.self → IsMinimised l.watch l.self;
}

abbrev pub decreases-loop-place : goal.decreases-loop-place
decreases-loop-place l = 2 * (length l.watch.trail - count_below (is_seen l.self) (length l.watch.trail))
    + length l.self.waiting
