use Rattle.std.proofs.Common.{◌≡◌, ℕ, ◌+◌, ◌<◌, ◌≤◌, false}
use Rattle.ba_learn.specs.Resolving.{count_below, is_above, is_seen}
use Rattle.ba_learn.proofs.resolution.Resolution.next_pending.Given as goal

abbrev pub invariant-loop-self : goal.invariant-loop-self
invariant-loop-self l = record {
  below : l.place < l.end;
  some : 1 ≤ count_below (is_above l.self) (l.place + 1);
  latest : (p : ℕ) → l.place < p → p < l.end → is_seen l.self p ≡ false;
}

abbrev pub decreases-loop-self : goal.decreases-loop-self
decreases-loop-self l = l.place
