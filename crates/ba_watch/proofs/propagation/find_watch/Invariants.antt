use Rattle.std.proofs.Common.{◌≡◌, ℕ, ◌<◌, ◌≤◌, Some, false, length}
use Rattle.ba_lits.specs.Literals.{lit_at}
use Rattle.ba_arena.specs.Clauses.{lits_at}
use Rattle.ba_watch.specs.Trails.{value_of}
use Rattle.ba_watch.proofs.propagation.find_watch.Given as goal

abbrev pub invariant-loop-place : goal.invariant-loop-place
invariant-loop-place l = (k : ℕ) → 2 ≤ k → k < l.place → k < length (lits_at l.arena l.clause) →
    value_of l.trail.lits (lit_at (lits_at l.arena l.clause) k) ≡ Some false
