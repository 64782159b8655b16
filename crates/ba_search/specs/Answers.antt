-- The answers of a search under assumptions.

use Rattle.std.specs.Prelude.{◌≡◌, ◌≢◌, ℕ, ◌<◌, ◌≤◌, Bool, true, Some, List, length, All}
use Rattle.ba_lits.specs.Literals.{Literal, negate, lit_at, IsClause}
use Rattle.ba_lits.specs.Satisfaction.{lit_true, any_true, assignment_of}
use Rattle.ba_lits.specs.Hints.{has_literal, FollowsByHints}
use Rattle.ba_steps.specs.Steps.{AreNumbers}
use Rattle.ba_checker.specs.States.{State, clause_at}
use Rattle.ba_search.specs.declared.search.Answer.{Answer}
use Rattle.ba_search.specs.declared.search.Answer.TheVariants.{Model, Core, Spent}

-- literals of different variables, from 1 up to a number
pub record AreAssumptions (variables : ℕ) (assumptions : List Literal) : Type 0 where
  pub counted : (k : ℕ) → k < length assumptions → 1 ≤ (lit_at assumptions k).variable
  pub within : (k : ℕ) → k < length assumptions → (lit_at assumptions k).variable ≤ variables
  pub differ : (j k : ℕ) → j < k → k < length assumptions →
      (lit_at assumptions j).variable ≢ (lit_at assumptions k).variable

-- values of all variables that satisfy every live clause and every assumption
pub record IsModel (s : State) (assumptions : List Literal) (values : List Bool) : Type 0 where
  pub all : length values ≡ s.variables
  pub clauses : (number : ℕ) (c : List Literal) → clause_at s.clauses number ≡ Some c →
      any_true (assignment_of values) c ≡ true
  pub assumed : All (λ a. lit_true (assignment_of values) a ≡ true) assumptions

-- A clause that follows from the live clauses by its hints, which are formed as in a step, and negates
-- assumptions alone. The conflicts are not spent.
pub record IsCore (s : State) (assumptions lits : List Literal) (hints : List ℕ) (back : ℕ) : Type 0 where
  pub clause : IsClause s.variables lits
  pub follows : FollowsByHints (clause_at s.clauses) lits hints
  pub numbers : AreNumbers hints
  pub negates : (k : ℕ) → k < length lits → has_literal (negate (lit_at lits k)) assumptions ≡ true
  pub level : back ≡ 0
  pub left : s.conflicts < s.budget

-- what an answer says, with the state of the checker then
abbrev pub IsAnswer : State → List Literal → Answer → Type 0
IsAnswer s assumptions (Model m) = IsModel s assumptions m.values
IsAnswer s assumptions (Core core) = IsCore s assumptions core.lits core.hints core.back
IsAnswer s assumptions Spent = s.conflicts ≡ s.budget
