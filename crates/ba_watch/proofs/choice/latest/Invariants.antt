use Rattle.std.proofs.Common.{◌≢◌, ℕ, ◌<◌, ◌≤◌, length}
use Rattle.ba_lits.specs.Literals.{lit_at}
use Rattle.ba_watch.specs.Propagation.{rank_of}
use Rattle.ba_watch.proofs.choice.latest.Given as goal

abbrev pub invariant-loop-place : goal.invariant-loop-place
invariant-loop-place l = record {
  within : l.best < length l.lits;
  other : l.best ≢ l.skip;
  latest : (k : ℕ) → k < l.place → k ≢ l.skip →
      rank_of l.trail.lits (lit_at l.lits k) ≤ rank_of l.trail.lits (lit_at l.lits l.best);
}
