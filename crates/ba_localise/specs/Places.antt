-- What a search for the least sets of places comes to, and what it hands to a sink of steps.

use Rattle.std.specs.Prelude.{◌≡◌, ◌≢◌, ℕ, ◌≤◌, true, List, [], map, length, All, Contains}
use Rattle.ba_choices.specs.declared.Choice.{Choice}
use Rattle.ba_derivations.specs.Derivations.{sets_of}
use Rattle.ba_derivations.specs.declared.verdict.FoundSet.{FoundSet}
use Rattle.ba_derivations.specs.declared.verdict.Verdict.{Verdict}
use Rattle.ba_derivations.specs.declared.verdict.Verdict.TheVariants.{Located, NoRepair, TooMany, Spent}
use Rattle.ba_localise.specs.Verdicts.{Finds, LeavesDerivation}
use Rattle.ba_localise.specs.declared.verdict.PlaceVerdict.{PlaceVerdict}
use Rattle.ba_places.specs.Least.{AreLeastPlaces, AreTooManyPlaces, JudgeOfPlaces}
use Rattle.ba_places.specs.Numbers.{AreSuspects, judge_by, places_at, unit_weights_of}
use Rattle.ba_steps.specs.Sinks.{Told}
use Rattle.ba_tree.specs.Least.{WeightList}
use Rattle.ba_tree.specs.declared.run.Place.{Place}

-- SETS OF PLACES with runs

pub record FoundPlaces : Type 0 where
  pub places : List Place
  pub run : List Choice

-- that of a set of numbers in a list
abbrev pub found_at : List Place → FoundSet → FoundPlaces
found_at places found = record { places = places_at places found.groups; run = found.run }

abbrev pub place_sets_of : List FoundPlaces → List (List Place)
place_sets_of = map (λ (f : FoundPlaces). f.places)

-- its run is good for it
abbrev pub IsGoodFor : JudgeOfPlaces → FoundPlaces → Type 0
IsGoodFor good found = good found.places found.run ≡ true

-- these are all least sets of places, each once and in order. Each has so many members and a good run, and
-- they are no more than may be listed
pub record AreLocatedPlaces (weights : WeightList) (good : JudgeOfPlaces) (most members : ℕ)
    (sets : List FoundPlaces) : Type 0 where
  pub least : AreLeastPlaces weights good (place_sets_of sets)
  pub some : sets ≢ []
  pub each_has : (set : List Place) → Contains (place_sets_of sets) set → length set ≡ members
  pub runs : All (IsGoodFor good) sets
  pub few : length sets ≤ most

-- A VERDICT on numbers IS TRUE of their places; that conflicts are spent says nothing of them
abbrev pub IsPlaceVerdict : WeightList → JudgeOfPlaces → ℕ → List Place → Verdict → Type 0
IsPlaceVerdict weights good most places (Located members sets) =
    AreLocatedPlaces weights good most members (map (found_at places) sets)
IsPlaceVerdict weights good most places NoRepair = AreLeastPlaces weights good []
IsPlaceVerdict weights good most places (TooMany members sets) =
    AreTooManyPlaces weights good members most (map (places_at places) (sets_of sets))
IsPlaceVerdict weights good most places Spent = Unit {0}

-- A SEARCH FINDS A VERDICT on places: they are enough, and it is true of them. A derivation over their
-- numbers, which shows it, was handed to the sink
pub record FindsPlaces (weights : WeightList) (good : JudgeOfPlaces) (conflicts most : ℕ) (old new : Told)
    (found : PlaceVerdict) : Type 0 where
  pub suspects : AreSuspects weights good found.places
  pub finds : Finds (unit_weights_of found.places) (judge_by good found.places) conflicts most old new
      found.verdict
  pub is_verdict : IsPlaceVerdict weights good most found.places found.verdict

-- WHAT IS LEFT OF A DERIVATION, also after an error: nothing; or what is left of one over the numbers of
-- places that are enough
pub data LeavesPlaces (weights : WeightList) (good : JudgeOfPlaces) (conflicts most : ℕ) (old new : Told) :
    Type 0
  where
    no_formula : new.over ≡ old.over → new.logs ≡ old.logs → LeavesPlaces weights good conflicts most old new
    over_places : (places : List Place) → AreSuspects weights good places →
        LeavesDerivation (unit_weights_of places) (judge_by good places) conflicts most old new →
        LeavesPlaces weights good conflicts most old new
