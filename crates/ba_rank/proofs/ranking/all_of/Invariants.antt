use Rattle.std.proofs.Common.{◌≡◌, take}
use Rattle.std.specs.Prelude.{flat_map}
use Rattle.ba_rank.proofs.ranking.all_of.Given as goal

abbrev pub invariant-loop-set : goal.invariant-loop-set
invariant-loop-set l = l.numbers.items ≡ flat_map (λ set. set) (take l.set-index l.sets)
