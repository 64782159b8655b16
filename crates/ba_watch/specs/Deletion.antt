-- Deletion of clauses, which moves the other clauses.

use Rattle.std.specs.Prelude.{◌≡◌, ℕ, ◌<◌, ◌≤◌, ◌⊎◌, Bool, nat_eq, not, Option, None, Some, IsSome, List, length, get_or, map, filter}
use Rattle.std.specs.List.{Contains, list_any}
use Rattle.std.specs.Option.{option_map}
use Rattle.ba_lits.specs.Literals.{Literal, lit_at}
use Rattle.ba_arena.specs.Clauses.{Clauses, Stored, clause_at, number_at}
use Rattle.ba_watch.specs.Threads.{Clause, plain, index_at}
use Rattle.ba_watch.specs.Trails.{Assignments}
use Rattle.ba_watch.specs.Propagation.{State, clause_in}

-- a clause that is kept, with the reference that it had
pub record Source (numbers : List ℕ) (moved : ℕ →
    ℕ) (old : List (Option Clause)) (reference : ℕ) (c : Clause) : Type 0 where
  pub from : ℕ
  pub there : clause_in old from ≡ Some c
  pub stays : Contains numbers c.number → ⊥
  pub to : moved from ≡ reference

-- the clauses of some numbers are gone, every other one has moved, and there are no more clauses
pub record KeepsOthers (numbers : List ℕ) (moved : ℕ → ℕ) (old new : List (Option Clause)) : Type 0 where
  pub there : (reference : ℕ) (c : Clause) → clause_in old reference ≡ Some c →
      (Contains numbers c.number → ⊥) →
      clause_in new (moved reference) ≡ Some c
  pub only : (reference : ℕ) (c : Clause) → clause_in new reference ≡ Some c →
      Source numbers moved old reference c
  pub apart : (a b : ℕ) (c d : Clause) → clause_in old a ≡ Some c → (Contains numbers c.number → ⊥) →
      clause_in old b ≡ Some d → (Contains numbers d.number → ⊥) → moved a ≡ moved b → a ≡ b

-- numbers that may be deleted: no two clauses have the same number, and none of them is that of a reason
pub record MayDelete (s : State) (numbers : List ℕ) : Type 0 where
  pub alone : (a b : ℕ) (c d : Clause) → clause_in s.clauses a ≡ Some c → clause_in s.clauses b ≡ Some d →
      c.number ≡ d.number → a ≡ b
  pub no_reason : (p reference : ℕ) (c : Clause) → get_or s.reasons p None ≡ Some reference →
      clause_in s.clauses reference ≡ Some c → Contains numbers c.number → ⊥

-- the clauses of some numbers were deleted; reasons name the same clauses as before, and the rest stays
pub record Deletes (old new : State) (numbers : List ℕ) : Type 0 where
  pub moved : ℕ → ℕ
  pub clauses : KeepsOthers numbers moved old.clauses new.clauses
  pub reasons : new.reasons ≡ map (option_map moved) old.reasons
  pub variables : new.variables ≡ old.variables
  pub trail : new.trail ≡ old.trail
  pub settled : new.settled ≡ old.settled

-- the number of a clause
abbrev pub number_of : Option Stored → Option ℕ
number_of None = None
number_of (Some s) = Some s.number

-- the number of a live clause
abbrev pub numbered : Clauses → ℕ → Option ℕ
numbered clauses clause = number_of (clause_at clauses clause)

-- for each number that a clause has, a clause that has it
pub record AreReferenced (clauses : Clauses) (references : List (Option ℕ)) : Type 0 where
  pub sound : (number clause : ℕ) → get_or references number None ≡ Some clause →
      numbered clauses clause ≡ Some number
  pub each : (number clause : ℕ) → numbered clauses clause ≡ Some number →
      IsSome (get_or references number None)

-- no two clauses have the same number
abbrev pub AreAlone : Clauses → Type 0
AreAlone clauses = (a b number : ℕ) → numbered clauses a ≡ Some number → numbered clauses b ≡ Some number →
    a ≡ b

-- the number is one of the first `n` in a list
abbrev pub IsNamed : List ℕ → ℕ → ℕ → Type 0
IsNamed numbers count number = (k : ℕ) × (k < count) × (get_or numbers k 0 ≡ number)

-- the same as a test
abbrev pub is_named : List ℕ → ℕ → Bool
is_named numbers number = list_any (λ n. nat_eq n number) numbers

-- the references whose clauses none of the numbers names
abbrev pub unnamed_of : Clauses → List ℕ → List ℕ → List ℕ
unnamed_of clauses numbers references =
    filter (λ clause. not (is_named numbers (number_at clauses clause))) references

-- the clauses whose numbers are named are gone, and the others stay
pub record IsWithout (named : ℕ → Type 0) (old new : Clauses) : Type 0 where
  pub either : (r : ℕ) → (clause_at new r ≡ None) ⊎ (clause_at new r ≡ clause_at old r)
  pub gone : (r number : ℕ) → numbered old r ≡ Some number → named number → clause_at new r ≡ None
  pub stays : (r number : ℕ) → numbered old r ≡ Some number → (named number → ⊥) →
      clause_at new r ≡ clause_at old r

-- the same for all that names clauses
pub record DeletesAll (old new : Clauses) (t u : Assignments) (waiting left : List ℕ)
    (references : List (Option ℕ)) (numbers : List ℕ) : Type 0 where
  pub moved : ℕ → ℕ
  pub clauses : KeepsOthers numbers moved (map plain old) (map plain new)
  pub trail : u ≡ record t { reasons = map (option_map moved) t.reasons }
  pub waiting_moved : left ≡ map moved (unnamed_of old numbers waiting)
  pub referenced : AreReferenced new references

-- there are lists for the literals of a clause
abbrev pub MayLink : List Literal → ℕ → Type 0
MayLink lits heads = (k : ℕ) → k < length lits → 1 ≤ (lit_at lits k).variable → index_at lits k < heads

-- a live clause that none of the numbers names
abbrev pub IsKept : Clauses → List ℕ → ℕ → Type 0
IsKept clauses numbers clause = (s : Stored) × (clause_at clauses clause ≡ Some s)
    × (Contains numbers s.number → ⊥)
