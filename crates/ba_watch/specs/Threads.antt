-- The lists of the clauses that watch a literal, threaded through the arena by the links of the clauses.

use Rattle.std.specs.Prelude.{◌≡◌, ◌≢◌, ℕ, ◌+◌, ◌<◌, leb, Bool, ◌&&◌, ◌||◌, Option, None, Some, List, length, get_or, eqb, if◌then◌else◌}
use Rattle.std.specs.List.{swap}
use Rattle.ba_lits.specs.Literals.{Literal, index_of, lit_at}
use Rattle.ba_arena.specs.Clauses.{Clauses, Stored, clause_at, lits_at}
use Rattle.ba_watch.specs.Chains.{walk, end_of_walk, occurrences}

-- the index of the literal at an index of a clause
abbrev pub index_at : List Literal → ℕ → ℕ
index_at lits k = index_of (lit_at lits k)

-- the link of a clause that belongs to the literal of an index, if the clause watches it
abbrev pub next_in : ℕ → Option Stored → Option ℕ
next_in index None = None
next_in index (Some s) =
    if eqb (index_at s.lits 0) index then s.first
    else (if eqb (index_at s.lits 1) index then s.second else None)

-- the clause that comes after one in the list of the literal of an index
abbrev pub next_of : Clauses → ℕ → ℕ → Option ℕ
next_of clauses index clause = next_in index (clause_at clauses clause)

-- the clauses in the list of the literal of an index
abbrev pub list_of : Clauses → List (Option ℕ) → ℕ → List ℕ
list_of clauses heads index = walk (length clauses) (next_of clauses index) (get_or heads index None)

-- the clauses of the visited list that weren't visited yet
abbrev pub pending_of : Clauses → ℕ → Option ℕ → List ℕ
pending_of clauses visited pending = walk (length clauses) (next_of clauses visited) pending

-- a clause of two or more literals watches its first two
abbrev pub watches : List Literal → ℕ → Bool
watches lits index = leb 2 (length lits) && (eqb (index_at lits 0) index || eqb (index_at lits 1) index)

-- 1 if the clause watches the literal of this index, else 0
abbrev pub watch_count : Clauses → ℕ → ℕ → ℕ
watch_count clauses index clause = if watches (lits_at clauses clause) index then 1 else 0

-- how often a clause is in the list of the literal of an index, with the visited list
abbrev pub listed : Clauses → List (Option ℕ) → ℕ → Option ℕ → ℕ → ℕ → ℕ
listed clauses heads visited pending index clause =
    occurrences clause (list_of clauses heads index)
    + (if eqb index visited then occurrences clause (pending_of clauses visited pending) else 0)

-- no literal occurs twice in a clause
abbrev pub AreApart : List Literal → Type 0
AreApart lits = (j k : ℕ) → j < length lits → k < length lits → j ≢ k → index_at lits j ≢ index_at lits k

-- the links and heads thread, for each literal, the list of the clauses that watch it
pub record AreThreaded (clauses : Clauses) (heads : List (Option ℕ)) (visited : ℕ)
    (pending : Option ℕ) : Type 0 where
  pub ends : (index : ℕ) → end_of_walk (length clauses) (next_of clauses index) (get_or heads index None)
      ≡ None
  pub pending_ends : end_of_walk (length clauses) (next_of clauses visited) pending ≡ None
  pub counts : (index clause : ℕ) → listed clauses heads visited pending index clause
      ≡ watch_count clauses index clause
  pub apart : (clause : ℕ) → AreApart (lits_at clauses clause)

-- a clause without its links
pub record Clause : Type 0 where
  pub lits : List Literal
  pub number : ℕ

-- a clause without its links
abbrev pub plain : Option Stored → Option Clause
plain None = None
plain (Some s) = Some (record { lits = s.lits; number = s.number })

-- the clause with two literals exchanged
abbrev pub reordered : ℕ → ℕ → Option Clause → Option Clause
reordered a b None = None
reordered a b (Some c) = Some (record c { lits = swap c.lits a b })

-- the arena's clauses without their links
abbrev pub plain_at : Clauses → ℕ → Option Clause
plain_at clauses clause = plain (clause_at clauses clause)

-- the same clauses, whatever their links
abbrev pub SamePlain : Clauses → Clauses → Type 0
SamePlain old new = (k : ℕ) → plain_at new k ≡ plain_at old k

-- the same clauses except for one, in which two literals were exchanged
abbrev pub ReordersOne : ℕ → ℕ → ℕ → Clauses → Clauses → Type 0
ReordersOne clause a b old new =
    (plain_at new clause ≡ reordered a b (plain_at old clause))
    × ((k : ℕ) → k ≢ clause → plain_at new k ≡ plain_at old k)

-- one clause was added
pub record AddsPlain (old new : Clauses) (clause : ℕ) (lits : List Literal) (number : ℕ) : Type 0 where
  pub fresh : plain_at old clause ≡ None
  pub there : plain_at new clause ≡ Some (record { lits = lits; number = number })
  pub others : (k : ℕ) → k ≢ clause → plain_at new k ≡ plain_at old k
