-- A clause and the live clauses of a watch.

use Rattle.std.specs.Prelude.{◌≡◌, ℕ, ◌<◌, eqb, true, false, Option, None, Some, List, [], ◌∷◌, length, if◌then◌else◌}
use Rattle.std.specs.List.Sorted.{IsPermutation}
use Rattle.ba_lits.specs.Literals.{Literal, lit_at}
use Rattle.ba_lits.specs.Hints.{has_literal, FollowsByHints}
use Rattle.ba_watch.specs.Threads.{Clause}
use Rattle.ba_watch.specs.Trails.{value_of}
use Rattle.ba_watch.specs.Propagation.{is_false, is_unit, clause_in, IsReason}

-- the clause of a number is this one, with its literals in some order
abbrev pub IsSame : Option (List Literal) → List Literal → Type 0
IsSame None lits = ⊥
IsSame (Some given) lits = IsPermutation given lits

-- the live clauses of a watch, which has them by reference, are those of a function from numbers to clauses
pub record AreLive (clauses : List (Option Clause)) (live : ℕ → Option (List Literal)) : Type 0 where
  pub each : (reference : ℕ) (c : Clause) → clause_in clauses reference ≡ Some c →
      IsSame (live c.number) c.lits
  pub all : (number : ℕ) (given : List Literal) → live number ≡ Some given →
      (reference : ℕ) × (c : Clause) × (clause_in clauses reference ≡ Some c) × (c.number ≡ number)

-- the clause follows by the hints from the live clauses of a watch
abbrev pub Follows : List (Option Clause) → List Literal → List ℕ → Type 0
Follows clauses lits hints = (live : ℕ → Option (List Literal)) → AreLive clauses live →
    FollowsByHints live lits hints

-- no clause is false or unit if the literals of a trail are true
pub record IsQuiet (live : ℕ → Option (List Literal)) (trail : List Literal) : Type 0 where
  pub none_false : (number : ℕ) (c : List Literal) → live number ≡ Some c →
      is_false (value_of trail) c ≡ false
  pub none_unit : (number : ℕ) (c : List Literal) → live number ≡ Some c → is_unit (value_of trail) c ≡ false

-- A clause is new to propagation if some partial assignment shows it. It gives one literal of the clause no
-- value, makes all the others false, and leaves no live clause false or unit. The list has the literals that
-- are true in it. So unit propagation from the negations of the others doesn't give the clause, and the
-- clause contains no live clause.
pub record IsNew (live : ℕ → Option (List Literal)) (lits : List Literal) : Type 0 where
  pub free : Literal
  pub trail : List Literal
  pub asserts : IsReason lits trail free
  pub no_value : value_of trail free ≡ None
  pub quiet : IsQuiet live trail

-- the same for the live clauses of a watch
abbrev pub IsNewTo : List (Option Clause) → List Literal → Type 0
IsNewTo clauses lits = (live : ℕ → Option (List Literal)) → AreLive clauses live → IsNew live lits

-- the clause of a number: the first one that has it
abbrev pub by_number : List (Option Clause) → ℕ → Option (List Literal)
by_number [] number = None
by_number (None ∷ clauses) number = by_number clauses number
by_number (Some c ∷ clauses) number = if eqb c.number number then Some c.lits else by_number clauses number

-- no two clauses have the same number
abbrev pub HaveDistinctNumbers : List (Option Clause) → Type 0
HaveDistinctNumbers clauses =
    (a b : ℕ) (c d : Clause) → clause_in clauses a ≡ Some c → clause_in clauses b ≡ Some d →
    c.number ≡ d.number → a ≡ b

-- each literal of a clause is in another one
abbrev pub IsPartOf : List Literal → List Literal → Type 0
IsPartOf c lits = (k : ℕ) → k < length c → has_literal (lit_at c k) lits ≡ true
