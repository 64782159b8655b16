use Rattle.std.proofs.Common.{ℕ, ◌<◌, IsSome, None, length, get_or}
use Rattle.ba_learn.proofs.resolution.level_start.Given as goal

abbrev pub invariant-loop-reasons : goal.invariant-loop-reasons
invariant-loop-reasons l = record {
  within : l.place < length l.reasons;
  later : (p : ℕ) → l.place < p → p < length l.reasons → IsSome (get_or l.reasons p None);
}

abbrev pub decreases-loop-reasons : goal.decreases-loop-reasons
decreases-loop-reasons l = l.place
