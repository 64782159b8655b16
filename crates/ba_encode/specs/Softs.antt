-- The soft literals of groups.

use Rattle.std.specs.Prelude.{ℕ, ◌+◌, ◌-◌, List, [], ◌∷◌, ◌++◌, replicate}
use Rattle.ba_encode.specs.declared.encoded.Group.{Group}
use Rattle.ba_lits.specs.Satisfaction.{Soft}

-- the soft literal of a group
abbrev pub soft_of : Group → Soft
soft_of group = (group.selector, group.weight)

-- Entry n - 1 is the selector of the group with the number n, with its weight. An entry of weight 0 fills
-- each gap. The groups come by ascending numbers, and the first entry is that of the number given.
abbrev pub softs_from : ℕ → List Group → List Soft
softs_from number [] = []
softs_from number (group ∷ groups) =
    replicate (group.number - number) (group.selector, 0) ++ soft_of group
    ∷ softs_from (group.number + 1) groups

-- the soft literals of groups
abbrev pub softs_of : List Group → List Soft
softs_of groups = softs_from 1 groups
