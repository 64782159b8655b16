-- The parts of expressions.

use Rattle.std.specs.Prelude.{◌≡◌}
use Rattle.std.specs.Global.{Box}
use Rattle.ba_tree.specs.declared.tree.Expr.{Expr}

-- two operands
pub record HoldsTwo (form : Box Expr → Box Expr → Expr) (e a b : Expr) : Type 0 where
  pub left : Box Expr
  pub right : Box Expr
  pub is : e ≡ form left right
  pub at_left : a ≡ left.value
  pub at_right : b ≡ right.value

-- a condition, and two operands of which one is evaluated
pub record HoldsThree (form : Box Expr → Box Expr → Box Expr → Expr) (e when a b : Expr) : Type 0 where
  pub deciding : Box Expr
  pub left : Box Expr
  pub right : Box Expr
  pub is : e ≡ form deciding left right
  pub at_deciding : when ≡ deciding.value
  pub at_left : a ≡ left.value
  pub at_right : b ≡ right.value
