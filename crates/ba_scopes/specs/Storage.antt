-- How a scope is stored. For each name space a map leads from each name to the number of its newest entry.
-- Each entry has the number of the entry that it hides.

use Rattle.std.specs.Prelude.{◌≡◌, ℕ, ◌+◌, nat_eq, ◌&&◌, cond, is_some, Option, None, Some, List, [], ◌∷◌, map, length, take, slice_index_or, ◌<◌}
use Rattle.std.specs.Cmp.Lexicographic.{pointwise}
use Rattle.std.specs.Map.{lookup}
use Rattle.ba_typing.specs.Files.{count_functions}
use Rattle.ba_typing.specs.Names.{same_name, same_space, space_of, is_named, is_declared_in}
use Rattle.ba_scopes.specs.declared.number_maps.Newest.{Newest}
use Rattle.ba_scopes.specs.declared.number_maps.NumberMap.{NumberMap}
use Rattle.ba_typing.specs.declared.meanings.Space.{Space}
use Rattle.ba_typing.specs.declared.meanings.Space.TheVariants as space
use Rattle.ba_typing.specs.declared.meanings.Entry.{Entry}
use Rattle.ba_typing.specs.declared.meanings.Signature.{Signature}
use Rattle.ba_scopes.specs.declared.scopes.Stored.{Stored}

-- the number of a name
abbrev pub number_in : NumberMap → List ℕ → Option ℕ
number_in map name = lookup (λ k. pointwise nat_eq name k.now) map.numbers.entries

-- each name has the same number
abbrev pub HaveSameNumbers : NumberMap → NumberMap → Type 0
HaveSameNumbers old new = (name : List ℕ) → number_in new name ≡ number_in old name

-- the number of a name of a name space
abbrev pub newest_in : Newest → Space → List ℕ → Option ℕ
newest_in newest space.Ordinary name = number_in newest.ordinary name
newest_in newest space.Tags name = number_in newest.tags name

-- each name of each name space has the same number
abbrev pub HaveSameNewest : Newest → Newest → Type 0
HaveSameNewest old new = (within : Space) (name : List ℕ) → newest_in new within name ≡ newest_in old within
    name

-- the name of this name space has this number, and all others keep theirs
abbrev pub HasNewest : Space → List ℕ → Option ℕ → Newest → Newest → Type 0
HasNewest within name number old new = (among : Space) (other : List ℕ) → newest_in new among other
    ≡ cond (same_space within among && same_name name other) number (newest_in old among other)

-- the number of the last entry of the name; entries are counted from a given number
abbrev pub last_number_from : ℕ → Space → List ℕ → List Entry → Option ℕ → Option ℕ
last_number_from i within name [] last = last
last_number_from i within name (e ∷ es) last = last_number_from (i + 1) within name es (cond (is_named within
    name e) (Some i) last)

-- the number of the last entry of the name
abbrev pub last_number : Space → List ℕ → List Entry → Option ℕ
last_number within name es = last_number_from 0 within name es None

-- the entries as they are stored
abbrev pub entries_of : List Stored → List Entry
entries_of = map (λ (s : Stored). s.entry)

-- the maps have the newest entry of each name, and each entry the entry of its name that it hides
pub record AreStored (items : List Stored) (newest : Newest) : Type 0 where
  pub found : (within : Space) (name : List ℕ) → newest_in newest within name ≡ last_number within name
      (entries_of items)
  pub hides : (i : ℕ) (d : Stored) → i < length items →
      (slice_index_or items i d).hidden ≡ last_number (space_of (slice_index_or items i d).entry.entity)
      (slice_index_or items i d).entry.name (take i (entries_of items))

-- the number of the first definition of the name; declarations are counted from a given number
abbrev pub first_from : ℕ → List ℕ → List Signature → Option ℕ
first_from i name [] = None
first_from i name (s ∷ ss) = cond (s.is_definition && same_name s.name name) (Some i)
    (first_from (i + 1) name ss)

-- one map has the names of all declarations, the other the first definition of each name
pub record AreListed (declarations : List Signature) (names definitions : NumberMap) : Type 0 where
  pub named : (name : List ℕ) → is_some (number_in names name) ≡ is_declared_in declarations name
  pub defined : (name : List ℕ) → number_in definitions name ≡ first_from 0 name declarations

-- the maps list the declarations, which declare this number of functions
pub record AreCounted (declarations : List Signature) (names definitions : NumberMap) (count : ℕ) : Type 0
  where
    pub listed : AreListed declarations names definitions
    pub counted : count ≡ count_functions declarations
