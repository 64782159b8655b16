-- How often statements are named.

use Rattle.std.specs.Prelude.{ℕ, ◌==◌, if◌then◌else◌, Bool, List, count_by}
use Rattle.std.specs.List.{list_any}
use Rattle.ba_rank.specs.declared.ranking.Ranked.{Ranked}

-- the number is in the list
abbrev pub is_named : ℕ → List ℕ → Bool
is_named n numbers = list_any (λ m. n == m) numbers

-- how many times the number is in the list
abbrev pub times_named : ℕ → List ℕ → ℕ
times_named n numbers = count_by (λ m. n == m) numbers

-- 1 if the test holds, and else 0
abbrev pub once_if : Bool → ℕ
once_if b = if b then 1 else 0

-- the entry of the statement of this number, by how often it is named
abbrev pub entry_of : List ℕ → ℕ → Ranked
entry_of numbers n = record { stmt = record { 0 = n }; inputs = times_named n numbers }

-- both entries are of the same statement
abbrev pub is_of_same : Ranked → Ranked → Bool
is_of_same entry other = entry.stmt.0 == other.stmt.0
