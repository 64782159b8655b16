-- The clauses of an arena, by their references.

use Rattle.std.specs.Prelude.{◌≡◌, ◌≢◌, ℕ, ◌+◌, ◌<◌, ◌≤◌, ◌⊎◌, Option, None, Some, IsSome, List, [], length, get_or, set, eqb, if◌then◌else◌}
use Rattle.std.specs.List.{swap}
use Rattle.ba_lits.specs.Literals.{Literal}

-- a clause: its literals, its number, and the link of each of its first two literals
pub record Stored : Type 0 where
  pub lits : List Literal
  pub number : ℕ
  pub first : Option ℕ
  pub second : Option ℕ

-- an arena: at each index the clause that begins there, if one does; a reference is an index
abbrev pub Clauses : Type 0
Clauses = List (Option Stored)

-- the clause of a reference
abbrev pub clause_at : Clauses → ℕ → Option Stored
clause_at clauses clause = get_or clauses clause None

-- the reference names a clause that is live
abbrev pub IsLive : Clauses → ℕ → Type 0
IsLive clauses clause = IsSome (clause_at clauses clause)

-- the literals of a clause, none without one
abbrev pub lits_of : Option Stored → List Literal
lits_of None = []
lits_of (Some s) = s.lits

-- the number of a clause, 0 without one
abbrev pub number_of : Option Stored → ℕ
number_of None = 0
number_of (Some s) = s.number

-- one of the two links of a clause
abbrev pub link_of : ℕ → Option Stored → Option ℕ
link_of which None = None
link_of which (Some s) = if eqb which 0 then s.first else s.second

-- the literals of a live clause; none if the reference names no clause
abbrev pub lits_at : Clauses → ℕ → List Literal
lits_at clauses clause = lits_of (clause_at clauses clause)

-- the number of a live clause
abbrev pub number_at : Clauses → ℕ → ℕ
number_at clauses clause = number_of (clause_at clauses clause)

-- a link of a live clause: link 0 is that of its first literal, link 1 that of its second
abbrev pub link_at : Clauses → ℕ → ℕ → Option ℕ
link_at clauses clause which = link_of which (clause_at clauses clause)

-- the clause with two literals exchanged
abbrev pub swapped : ℕ → ℕ → Option Stored → Option Stored
swapped a b None = None
swapped a b (Some s) = Some (record s { lits = swap s.lits a b })

-- the clause with another link
abbrev pub linked : ℕ → Option ℕ → Option Stored → Option Stored
linked which next None = None
linked which next (Some s) =
    Some (if eqb which 0 then record s { first = next } else record s { second = next })

-- the arena with another clause at a reference
abbrev pub changed : (Option Stored → Option Stored) → Clauses → ℕ → Clauses
changed change clauses clause = set clauses clause (change (clause_at clauses clause))

-- a clause is added at the end, and every other stays
pub record Adds (old new : Clauses) (clause : ℕ) (stored : Stored) : Type 0 where
  pub at_end : clause ≡ length old
  pub longer : length old < length new
  pub there : clause_at new clause ≡ Some stored
  pub others : (k : ℕ) → k ≢ clause → clause_at new k ≡ clause_at old k

-- a reference is no word of a live clause except a first one; nor is that of a deleted clause
abbrev pub IsOutside : Clauses → ℕ → Type 0
IsOutside clauses r = (clause : ℕ) → IsLive clauses clause →
    (r ≤ clause) ⊎ (clause + 4 + length (lits_at clauses clause) ≤ r)

-- each reference names a live clause, or no word of one
abbrev pub AreReferences : Clauses → List (Option ℕ) → Type 0
AreReferences clauses references =
    (k r : ℕ) → get_or references k None ≡ Some r → IsLive clauses r ⊎ IsOutside clauses r
