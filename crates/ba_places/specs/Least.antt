-- SETS OF PLACES: which of them could repair a run, and which of those have the fewest members.

use Rattle.std.specs.Prelude.{◌≡◌, ℕ, ◌+◌, ◌≤◌, ◌↔◌, Bool, true, List, length, All, Contains, IsSome}
use Rattle.std.specs.Cmp.Lexicographic.{pointwise}
use Rattle.std.specs.List.{IsDistinct}
use Rattle.std.specs.List.Sorted.{IsStrictlySortedBy}
use Rattle.ba_choices.specs.declared.Choice.{Choice}
use Rattle.ba_places.specs.Order.{place_cmp, same_place, set_cmp}
use Rattle.ba_tree.specs.Least.{WeightList, weight_at}
use Rattle.ba_tree.specs.Run.{is_done, run_of}
use Rattle.ba_tree.specs.declared.run.Allowed.TheVariants.{Places}
use Rattle.ba_tree.specs.declared.run.Bounds.{Bounds}
use Rattle.ba_tree.specs.declared.run.Input.{Input}
use Rattle.ba_tree.specs.declared.run.Place.{Place}
use Rattle.ba_tree.specs.declared.tree.Program.{Program}

-- a set is a strictly ascending list of places whose statements have a weight
pub record IsPlaceSet (weights : WeightList) (set : List Place) : Type 0 where
  pub ascending : IsStrictlySortedBy place_cmp set
  pub relaxable : All (λ (place : Place). IsSome (weight_at weights place.stmt.0)) set

-- which choices make a good run where the executions at these places are relaxed
abbrev pub JudgeOfPlaces : Type 0
JudgeOfPlaces = List Place → List Choice → Bool

-- some choices do
pub record IsFeasiblePlaceSet (good : JudgeOfPlaces) (set : List Place) : Type 0 where
  pub choices : List Choice
  pub is_good : good set choices ≡ true

-- a set that could repair the run, where no feasible set has fewer members. All sets of places of statements
-- with a weight count, also of places that no run comes to
pub record IsLeastPlaceSet (weights : WeightList) (good : JudgeOfPlaces) (set : List Place) : Type 0 where
  pub is_set : IsPlaceSet weights set
  pub feasible : IsFeasiblePlaceSet good set
  pub least : (other : List Place) → IsPlaceSet weights other → IsFeasiblePlaceSet good other
      → length set ≤ length other

-- THE LIST OF ALL LEAST SETS, each once and in order
pub record AreLeastPlaces (weights : WeightList) (good : JudgeOfPlaces) (sets : List (List Place)) : Type 0
  where
    pub in_order : IsStrictlySortedBy set_cmp sets
    pub exactly : (set : List Place) → Contains sets set ↔ IsLeastPlaceSet weights good set

-- these sets are least, of so many members, differ, and are one more than may be listed
pub record AreTooManyPlaces (weights : WeightList) (good : JudgeOfPlaces) (members most : ℕ)
    (sets : List (List Place)) :
    Type 0 where
  pub each : (set : List Place) → Contains sets set → IsLeastPlaceSet weights good set
  pub each_has : (set : List Place) → Contains sets set → length set ≡ members
  pub differ : IsDistinct (pointwise same_place) sets
  pub count : length sets ≡ most + 1

-- THE JUDGE of a program on an input: a run is good where its outcome is Done
abbrev pub place_judge_of : Program → Input → Bounds → JudgeOfPlaces
place_judge_of p input b set choices = is_done (run_of p input b (Places set) choices)
