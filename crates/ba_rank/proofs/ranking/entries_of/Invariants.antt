use Rattle.std.proofs.Common.{◌≡◌, map, take}
use Rattle.ba_rank.specs.Counts.{entry_of}
use Rattle.ba_rank.proofs.ranking.entries_of.Given as goal

abbrev pub invariant-loop-number : goal.invariant-loop-number
invariant-loop-number l = l.entries.items ≡ map (entry_of l.named) (take l.number-index l.numbers)
