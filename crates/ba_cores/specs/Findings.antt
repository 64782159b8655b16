-- The least cost of a formula's models.

use Rattle.std.specs.Prelude.{◌≡◌, ℕ, ◌<◌, ◌≤◌, Bool, true, List, [], length}
use Rattle.ba_lits.specs.Satisfaction.{Assignment, all_true, assignment_of, Soft, cost}
use Rattle.ba_lits.specs.Formulas.{Cnf}
use Rattle.ba_lits.specs.Hints.{FollowsByHints}
use Rattle.ba_steps.specs.Steps.{AreNumbers}
use Rattle.ba_checker.specs.Puts.{Checking}
use Rattle.ba_checker.specs.States.{clause_at, present}
use Rattle.ba_cores.specs.Derivations.{IsReached}
use Rattle.ba_cores.specs.declared.costs.Found.{Found}
use Rattle.ba_cores.specs.declared.costs.Found.TheVariants.{Least, NoModel, Spent}

-- values that satisfy the formula and cost this weight, such that no model costs less
pub record IsLeast (formula : Cnf) (softs : List Soft) (weight : ℕ) (values : List Bool) : Type 0 where
  pub satisfies : all_true (assignment_of values) formula.clauses ≡ true
  pub costs : cost (assignment_of values) (present softs) ≡ weight
  pub least : (v : Assignment) → all_true v formula.clauses ≡ true → weight ≤ cost v (present softs)

-- What is found between two states of a log. Either a model of least cost, with a value for each variable;
-- its cost is the bound. Or that there is no model; the empty clause follows by the hints, and the conflicts
-- are not spent. Or that the conflicts are spent.
abbrev pub IsFound : Checking → Checking → Found → Type 0
IsFound old new (Least weight model) =
    (weight ≡ new.checker.bound) × (length model.values ≡ new.checker.variables)
    × ((formula : Cnf) (softs : List Soft) → IsReached old.accepts formula softs old.checker →
    IsLeast formula softs weight model.values)
IsFound old new (NoModel hints) =
    FollowsByHints (clause_at new.checker.clauses) [] hints × AreNumbers hints
    × (new.checker.conflicts < new.checker.budget)
    × ((formula : Cnf) (softs : List Soft) → IsReached old.accepts formula softs old.checker → (v :
    Assignment) →
    all_true v formula.clauses ≡ true → ⊥)
IsFound old new Spent = new.checker.conflicts ≡ new.checker.budget
