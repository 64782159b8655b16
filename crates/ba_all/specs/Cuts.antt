-- CHOICES OF SEVERAL RUNS, one run's behind the other's.

use Rattle.std.specs.Prelude.{◌≡◌, Bool, true, false, ◌&&◌, ◌||◌, List, [], ◌∷◌, flat_map}
use Rattle.std.specs.List.{AllZip}
use Rattle.ba_choices.specs.declared.Choice.{Choice}

-- which choices make a run good
abbrev pub RunTest : Type 0
RunTest = List Choice → Bool

-- choices can be cut in two, here or further behind, so that both parts are good
abbrev pub can_be_cut : RunTest → RunTest → RunTest
can_be_cut front rest [] = front [] && rest []
can_be_cut front rest (c ∷ cs) =
    (front [] && rest (c ∷ cs)) || can_be_cut (λ others. front (c ∷ others)) rest cs

-- THEY ARE GOOD FOR ALL: they can be cut into one part for each run, in order, each good for its run
abbrev pub all_good : List RunTest → RunTest
all_good [] [] = true
all_good [] (c ∷ cs) = false
all_good (good ∷ others) choices = can_be_cut good (all_good others) choices

-- such a cut
pub record IsCut (tests : List RunTest) (choices : List Choice) (runs : List (List Choice)) : Type 0 where
  pub whole : flat_map (λ (run : List Choice). run) runs ≡ choices
  pub each : AllZip (λ (good : RunTest) (run : List Choice). good run ≡ true) tests runs
