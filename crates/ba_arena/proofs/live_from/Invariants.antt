use Rattle.std.proofs.Common.{◌≡◌, ℕ, ◌-◌, ◌<◌, ◌≤◌, None, length}
use Rattle.ba_arena.specs.Clauses.{clause_at}
use Rattle.ba_arena.specs.Words.{clauses_of, IsCut}
use Rattle.ba_arena.proofs.live_from.Given as goal

abbrev pub invariant-loop-place : goal.invariant-loop-place
invariant-loop-place l = record {
  from : l.start ≤ l.place;
  cut : IsCut l.words l.place;
  none : (k : ℕ) → l.start ≤ k → k < l.place → clause_at (clauses_of 0 l.words) k ≡ None;
}

abbrev pub decreases-loop-place : goal.decreases-loop-place
decreases-loop-place l = length l.words - l.place
