-- The measure of an expression is not 0.
use Rattle.std.proofs.Common.{ℕ, ◌<◌, arith, sym, subst}
use Rattle.ba_tree.specs.Heights.{arg_weight_step, weight, weight_step}
use Rattle.ba_tree.specs.declared.tree.Arg.TheFolds.{fold_out-Expr}
use Rattle.ba_tree.specs.declared.tree.Arg.TheOpen.{Expr-F}
use Rattle.ba_tree.specs.declared.tree.Expr.{Expr}

step-positive : (e : Expr-F ℕ ℕ) → 0 < weight_step e
step-positive (Expr-F.Const t value) = omega arith
step-positive (Expr-F.Var var) = omega arith
step-positive (Expr-F.Element array index) = omega arith
step-positive (Expr-F.Unary op t a) = omega arith
step-positive (Expr-F.Binary op t a b) = omega arith
step-positive (Expr-F.AndAlso a b) = omega arith
step-positive (Expr-F.OrElse a b) = omega arith
step-positive (Expr-F.Select t when a b) = omega arith
step-positive (Expr-F.Convert t a) = omega arith
step-positive (Expr-F.Call call function args) = omega arith

pub weight-positive : (e : Expr) → 0 < weight e
weight-positive e = subst (λ n. 0 < n) (sym (fold_out-Expr ℕ ℕ arg_weight_step weight_step e))
    (step-positive _)
