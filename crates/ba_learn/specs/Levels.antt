-- A learnt clause and the levels of the trail.

use Rattle.std.specs.Prelude.{◌≡◌, ◌≢◌, ℕ, ◌<◌, ◌≤◌, true, None, Some, ◌⊎◌, List, length, get_or}
use Rattle.ba_lits.specs.Literals.{Literal, negate, lit_at}
use Rattle.ba_lits.specs.Hints.{has_literal}
use Rattle.ba_watch.specs.Trails.{value_of, trail_index, level_at, decided, reason_of}
use Rattle.ba_watch.specs.Propagation.{State, lits_in, is_false}

-- the level at which the variable of a literal, or of a clause's literal, was assigned
abbrev pub level_of_literal : State → Literal → ℕ
level_of_literal s l = level_at s.reasons (trail_index s.trail l.variable)

-- the level of the literal at index k
abbrev pub level_in : State → List Literal → ℕ → ℕ
level_in s lits k = level_of_literal s (lit_at lits k)

-- a level is 0, or that of one of the first `n` literals, below the present one
abbrev pub IsReached : State → List Literal → ℕ → ℕ → Type 0
IsReached s lits n level =
    (level ≡ 0) ⊎ ((k : ℕ) × (k < n) × (level_in s lits k < decided s.reasons) × (level_in s lits k ≡ level))

-- a level is 0, or that of a literal of the clause other than one
abbrev pub IsMet : State → List Literal → ℕ → ℕ → Type 0
IsMet s lits present level =
    (level ≡ 0) ⊎ ((k : ℕ) × (k < length lits) × (k ≢ present) × (level_in s lits k ≡ level))

-- The clause is false, and exactly one of its literals was assigned at the present level. `back` is the
-- greatest level of the others, or 0 if there is no other.
pub record IsBacked (s : State) (lits : List Literal) (back : ℕ) : Type 0 where
  pub false_ : is_false (value_of s.trail) lits ≡ true
  pub present : ℕ
  pub present_in : present < length lits
  pub present_level : level_in s lits present ≡ decided s.reasons
  pub lower : back < decided s.reasons
  pub others : (k : ℕ) → k < length lits → k ≢ present → level_in s lits k ≤ back
  pub met : IsMet s lits present back

-- the negation of a literal of the trail that was decided
abbrev pub NegatesDecided : State → Literal → Type 0
NegatesDecided s l =
    (p : ℕ) × (p < length s.trail) × (get_or s.reasons p None ≡ None) × (l ≡ negate (lit_at s.trail p))

-- each literal of the clause negates the given one, or one that was decided
abbrev pub IsCoreOf : State → Literal → List Literal → Type 0
IsCoreOf s lit lits = (k : ℕ) → k < length lits →
    (lit_at lits k ≡ negate lit) ⊎ NegatesDecided s (lit_at lits k)

-- The literal at an index of the clause is implied by the others. It has a reason whose other literals are in
-- the clause, or were assigned at level 0.
pub record IsCovered (s : State) (lits : List Literal) (k : ℕ) : Type 0 where
  pub reason : ℕ
  pub is : reason_of s.trail s.reasons (lit_at lits k).variable ≡ Some reason
  pub others : (j : ℕ) → j < length (lits_in s.clauses reason) →
      (lit_at (lits_in s.clauses reason) j ≡ negate (lit_at lits k))
      ⊎ ((has_literal (lit_at (lits_in s.clauses reason) j) lits ≡ true) ⊎
      (level_of_literal s (lit_at (lits_in s.clauses reason) j) ≡ 0))

-- no literal of a level below the present one is implied by the others
abbrev pub IsShort : State → List Literal → Type 0
IsShort s lits = (k : ℕ) → k < length lits → level_in s lits k < decided s.reasons → IsCovered s lits k → ⊥
