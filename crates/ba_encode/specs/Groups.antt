-- Groups of executions that are relaxed together, and what is relaxed if some of them are.

use Rattle.std.specs.Prelude.{ℕ, ◌+◌, ◌==◌, Bool, true, false, not, ◌&&◌, ◌||◌, Option, None, Some, is_some, List, [], ◌∷◌, position, map}
use Rattle.std.specs.List.{list_any}
use Rattle.ba_code_laws.specs.Tracing.{Relaxes}
use Rattle.ba_encode.specs.declared.grouping.Grouping.{Grouping}
use Rattle.ba_encode.specs.declared.grouping.Grouping.TheVariants.{ByStatement, ByPlace}
use Rattle.ba_encode.specs.declared.grouping.Numbered.{Numbered}
use Rattle.ba_numbers.specs.declared.ids.StmtId.{StmtId}
use Rattle.ba_tree.specs.Choices.{is_there, same_path}
use Rattle.ba_tree.specs.Least.{stmt_of, weight_at}
use Rattle.ba_tree.specs.declared.run.Place.{Place}
use Rattle.ba_wordlist.specs.declared.words.PlaceWords.{PlaceWords}

-- a group of this number, statement and weight
abbrev pub numbered : ℕ → StmtId → ℕ → Numbered
numbered number stmt weight = record { number = number; statement = stmt; weight = weight }

-- the groups with that of a statement before them, if it has a weight
abbrev pub with_weight : ℕ → Option ℕ → List Numbered → List Numbered
with_weight number None groups = groups
with_weight number (Some weight) groups = numbered number (stmt_of number) weight ∷ groups

-- the statements that have a weight, by ascending numbers, where the first entry is that of the number
abbrev pub statements_from : ℕ → List (Option ℕ) → List Numbered
statements_from number [] = []
statements_from number (weight ∷ weights) =
    with_weight number weight (statements_from (number + 1) weights)

-- the places, which weigh 1 each
abbrev pub places_from : ℕ → List Place → List Numbered
places_from number [] = []
places_from number (place ∷ places) = numbered number place.stmt 1 ∷ places_from (number + 1) places

-- the groups, without selectors
abbrev pub groups_of : Grouping → List Numbered
groups_of (ByStatement weights) = statements_from 1 weights.of
groups_of (ByPlace places) = places_from 1 places

-- SETS OF GROUPS are tests of written numbers

-- one of the places, whose first has this number, is that of an execution and in the set
abbrev pub is_in_set : (ℕ → Bool) → ℕ → List Place → Relaxes
is_in_set set number [] path stmt = false
is_in_set set number (place ∷ places) path stmt =
    (set number && is_there path stmt place) || is_in_set set (number + 1) places path stmt

-- what may be relaxed if the groups of a set are: an execution that is in no group never is
abbrev pub relaxes_in : Grouping → (ℕ → Bool) → Relaxes
relaxes_in (ByStatement weights) set path stmt = set stmt.0 && is_some (weight_at weights.of stmt.0)
relaxes_in (ByPlace places) set path stmt = is_in_set set 1 places path stmt

-- the places are the same
abbrev pub is_place : Place → Place → Bool
is_place a b = (a.stmt.0 == b.stmt.0) && same_path a.path b.path

-- the position of an execution's group
abbrev pub group_at : Grouping → List Numbered → Place → Option ℕ
group_at (ByStatement weights) groups place =
    position (λ (group : Numbered). group.statement.0 == place.stmt.0) groups
group_at (ByPlace places) groups place = position (λ other. is_place other place) places

-- the index of the group of an execution, None if it is in no group
abbrev pub group_of : Grouping → List Numbered → PlaceWords → Option ℕ
group_of grouping groups p = group_at grouping groups p.place

-- the groups of executions
abbrev pub groups_along : Grouping → List Numbered → List PlaceWords → List (Option ℕ)
groups_along grouping groups places = map (group_of grouping groups) places

-- no place comes twice
abbrev pub are_different : List Place → Bool
are_different [] = true
are_different (place ∷ places) = not (list_any (is_place place) places) && are_different places

-- no execution is in two groups
abbrev pub are_apart : Grouping → Bool
are_apart (ByStatement weights) = true
are_apart (ByPlace places) = are_different places
