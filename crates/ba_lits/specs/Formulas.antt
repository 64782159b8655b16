-- Formulas in conjunctive normal form.

use Rattle.std.specs.Prelude.{ℕ, List}
use Rattle.ba_lits.specs.Literals.{Literal}

-- the number of variables, counted from 1, and the clauses in their order
pub record Cnf : Type 0 where
  pub variables : ℕ
  pub clauses : List (List Literal)
