use Rattle.std.proofs.Common.{◌≡◌, ◌≢◌, ℕ, ◌+◌, ◌%◌, ◌<◌, get_or}
use Rattle.ba_clauses.proofs.clauses.has_opposites.Given as goal

abbrev pub invariant-loop-place : goal.invariant-loop-place
invariant-loop-place l = (k : ℕ) → k + 1 < l.place → get_or l.codes k 0 % 2 ≡ 0 → get_or l.codes (k + 1) 0 ≢ get_or l.codes k 0 + 1
