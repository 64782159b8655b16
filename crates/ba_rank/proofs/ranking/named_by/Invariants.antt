use Rattle.std.proofs.Common.{◌≡◌, ℕ, take}
use Rattle.ba_rank.specs.Counts.{times_named}
use Rattle.ba_rank.specs.Ranking.{lists_with}
use Rattle.ba_rank.proofs.ranking.named_by.Given as goal

abbrev pub invariant-loop-sets : goal.invariant-loop-sets
invariant-loop-sets l =
    (n : ℕ) → times_named n l.numbers.items ≡ lists_with n (take l.sets-index l.lists)
