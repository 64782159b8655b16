-- THE RANKING of statements over several inputs, each of which has a list of sets of statements. It has the
-- statements of all sets, ordered by the number of lists that have them.

use Rattle.std.specs.Prelude.{◌≡◌, ℕ, ◌<◌, ◌≤◌, ◌==◌, ◌⊎◌, ◌↔◌, Bool, List, length, filter, Contains, AllPairs}
use Rattle.std.specs.List.{list_any}
use Rattle.ba_rank.specs.declared.ranking.Ranked.{Ranked}

-- some set of the list has the statement of this number
abbrev pub stands_in : ℕ → List (List ℕ) → Bool
stands_in n sets = list_any (λ set. list_any (λ m. n == m) set) sets

-- how many lists have the statement; a list counts once, in however many of its sets the statement is
abbrev pub lists_with : ℕ → List (List (List ℕ)) → ℕ
lists_with n lists = length (filter (stands_in n) lists)

-- THE ORDER of entries: by falling number of lists, and then by rising statement
abbrev pub Precedes : Ranked → Ranked → Type 0
Precedes entry other =
    (other.inputs < entry.inputs)
    ⊎ ((entry.inputs ≡ other.inputs) × (entry.stmt.0 < other.stmt.0))

-- each statement of some list occurs once, in order, with the number of lists that have it
pub record IsRanking (lists : List (List (List ℕ))) (entries : List Ranked) : Type 0 where
  pub exactly : (entry : Ranked) → Contains entries entry
      ↔ ((1 ≤ entry.inputs) × (entry.inputs ≡ lists_with entry.stmt.0 lists))
  pub in_order : AllPairs Precedes entries
