-- PLACES BY NUMBERS. A list of places numbers them from 1, so that sets of places are sets of numbers, each
-- of which weighs 1.

use Rattle.std.specs.Prelude.{◌≡◌, ℕ, ◌-◌, ◌==◌, Bool, true, cond, Option, None, Some, List, length, replicate, filter, filter_map, map, slice_get}
use Rattle.std.specs.List.{list_any}
use Rattle.ba_choices.specs.Judges.{Judge}
use Rattle.ba_choices.specs.declared.Choice.{Choice}
use Rattle.ba_places.specs.Least.{IsPlaceSet, JudgeOfPlaces}
use Rattle.ba_places.specs.Order.{same_place}
use Rattle.ba_tree.specs.Least.{WeightList}
use Rattle.ba_tree.specs.declared.run.Place.{Place}
use Rattle.ba_wordlist.specs.declared.words.PlaceWords.{PlaceWords}
use Rattle.ba_wordlist.specs.declared.words.WordList.{WordList}

-- the place of a number, if there is one
abbrev pub place_at : List Place → ℕ → Option Place
place_at places n = cond (n == 0) None (slice_get places (n - 1))

-- the places of numbers: a number that has none names none
abbrev pub places_at : List Place → List ℕ → List Place
places_at places = filter_map (place_at places)

-- each place weighs 1
abbrev pub unit_weights_of : List Place → WeightList
unit_weights_of places = replicate (length places) (Some 1)

-- a run is good for numbers where it is for their places
abbrev pub judge_by : JudgeOfPlaces → List Place → Judge
judge_by good places numbers = good (places_at places numbers)

-- THE SUSPECTS: a list of places that is enough. A good run uses up its choices at places of the list alone.
-- So with the same choices it is good where only the members of its set in the list are relaxed.

abbrev pub is_among : List Place → Place → Bool
is_among places place = list_any (same_place place) places

pub record AreSuspects (weights : WeightList) (good : JudgeOfPlaces) (places : List Place) : Type 0 where
  pub is_set : IsPlaceSet weights places
  pub enough : (set : List Place) (choices : List Choice) → IsPlaceSet weights set
      → good set choices ≡ true → good (filter (is_among places) set) choices ≡ true

-- the places of a list of words, in the order of a run
abbrev pub places_of_words : WordList → List Place
places_of_words list = map (λ (p : PlaceWords). p.place) list.places
