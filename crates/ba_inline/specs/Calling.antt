-- Whether an expression makes a call.

use Rattle.std.specs.Prelude.{Bool, true, false, ◌||◌}
use Rattle.ba_tree.specs.declared.tree.Arg.TheOpen.{Arg-F, Expr-F}
use Rattle.ba_tree.specs.declared.tree.Arg.TheFolds.{fold-Arg, fold-Expr}
use Rattle.ba_tree.specs.declared.tree.Arg.{Arg}
use Rattle.ba_tree.specs.declared.tree.Expr.{Expr}

-- an argument makes a call, by the expression in it
abbrev pub arg_calls_step : Arg-F Bool Bool → Bool
arg_calls_step (Arg-F.Value value) = value
arg_calls_step (Arg-F.Array array) = false

-- an expression makes a call, by its parts
abbrev pub calls_step : Expr-F Bool Bool → Bool
calls_step (Expr-F.Const t value) = false
calls_step (Expr-F.Var var) = false
calls_step (Expr-F.Element array index) = index.value
calls_step (Expr-F.Unary op t a) = a.value
calls_step (Expr-F.Binary op t a b) = a.value || b.value
calls_step (Expr-F.AndAlso a b) = a.value || b.value
calls_step (Expr-F.OrElse a b) = a.value || b.value
calls_step (Expr-F.Select t when a b) = when.value || (a.value || b.value)
calls_step (Expr-F.Convert t a) = a.value
calls_step (Expr-F.Call call function args) = true

-- an expression makes a call
unfoldable pub has_call : Expr → Bool
has_call = fold-Expr Bool Bool arg_calls_step calls_step

-- an argument makes a call
unfoldable pub arg_has_call : Arg → Bool
arg_has_call = fold-Arg Bool Bool arg_calls_step calls_step
