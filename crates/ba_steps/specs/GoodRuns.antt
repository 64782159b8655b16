-- Runs that are good because they are listed.

use Rattle.std.specs.Prelude.{ℕ, nat_eq, Bool, true, false, ◌&&◌, List, [], ◌∷◌}
use Rattle.std.specs.Ordering.{int_eq}
use Rattle.std.specs.List.{list_any}
use Rattle.std.specs.Cmp.Lexicographic.{pointwise}
use Rattle.ba_choices.specs.declared.Choice.{Choice}
use Rattle.ba_choices.specs.declared.Choice.TheVariants.{Keep, Take}
use Rattle.ba_steps.specs.declared.list_judge.GoodRun.{GoodRun}

-- the same choice
abbrev pub same_choice : Choice → Choice → Bool
same_choice Keep Keep = true
same_choice Keep (Take values) = false
same_choice (Take values) Keep = false
same_choice (Take values) (Take others) = pointwise int_eq values others

-- the same choices in the same order
abbrev pub same_run : List Choice → List Choice → Bool
same_run [] [] = true
same_run [] (c ∷ cs) = false
same_run (c ∷ cs) [] = false
same_run (c ∷ cs) (d ∷ ds) = same_choice c d && same_run cs ds

-- the run is listed for these groups
abbrev pub is_listed : List ℕ → List Choice → GoodRun → Bool
is_listed groups run good = pointwise nat_eq good.groups groups && same_run good.run run

-- the run was added as good for these groups
abbrev pub are_listed : List GoodRun → List ℕ → List Choice → Bool
are_listed runs groups run = list_any (is_listed groups run) runs
