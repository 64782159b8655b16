-- Measures of expressions, statements and programs, for the termination of what walks over them.

use Rattle.std.specs.Prelude.{ℕ, ◌+◌, Option, None, Some, List, [], ◌∷◌, map, sum_by}
use Rattle.std.specs.Global.{Box}
use Rattle.ba_tree.specs.declared.tree.Arg.TheOpen.{Arg-F, Expr-F}
use Rattle.ba_tree.specs.declared.tree.Arg.TheFolds.{fold-Arg, fold-Expr}
use Rattle.ba_tree.specs.declared.tree.Arg.{Arg}
use Rattle.ba_tree.specs.declared.tree.Expr.{Expr}
use Rattle.ba_tree.specs.declared.tree.Function.{Function}
use Rattle.ba_tree.specs.declared.tree.Program.{Program}
use Rattle.ba_tree.specs.declared.tree.Stmt.{Stmt}
use Rattle.ba_tree.specs.declared.tree.Stmt.TheOpen.{Stmt-F}
use Rattle.ba_tree.specs.declared.tree.Stmt.TheFolds.{fold-Stmt}

-- the sum, and one more for each item
abbrev pub total : List ℕ → ℕ
total [] = 0
total (n ∷ ns) = n + 1 + total ns

-- the weight of an argument, by that of the expression in it
abbrev pub arg_weight_step : Arg-F ℕ ℕ → ℕ
arg_weight_step (Arg-F.Value value) = value + 2
arg_weight_step (Arg-F.Array array) = 1

-- the weight of an expression, by those of its parts
abbrev pub weight_step : Expr-F ℕ ℕ → ℕ
weight_step (Expr-F.Const t value) = 1
weight_step (Expr-F.Var var) = 1
weight_step (Expr-F.Element array index) = index.value + 1
weight_step (Expr-F.Unary op t a) = a.value + 1
weight_step (Expr-F.Binary op t a b) = a.value + b.value + 2
weight_step (Expr-F.AndAlso a b) = a.value + b.value + 2
weight_step (Expr-F.OrElse a b) = a.value + b.value + 2
weight_step (Expr-F.Select t when a b) = when.value + a.value + b.value + 2
weight_step (Expr-F.Convert t a) = a.value + 1
weight_step (Expr-F.Call call function args) = total args.items + 4

-- the weight of an expression, at least 1
abbrev pub weight : Expr → ℕ
weight = fold-Expr ℕ ℕ arg_weight_step weight_step

-- the weight of an argument, at least 1
abbrev pub arg_weight : Arg → ℕ
arg_weight = fold-Arg ℕ ℕ arg_weight_step weight_step

-- the `total` of the weights of expressions
abbrev pub weights : List Expr → ℕ
weights es = total (map weight es)

-- the `total` of the weights of arguments
abbrev pub arg_weights : List Arg → ℕ
arg_weights args = total (map arg_weight args)

-- the height of an `else` branch, 0 without one
abbrev pub optional_height : Option (Box ℕ) → ℕ
optional_height None = 0
optional_height (Some n) = n.value

-- the height of a statement, by those of its parts
abbrev pub height_step : Stmt-F ℕ → ℕ
height_step (Stmt-F.Block body) = total body.items + 2
height_step (Stmt-F.Declare var) = 1
height_step (Stmt-F.Init stmt var value) = weight value + 4
height_step (Stmt-F.InitArray stmt array values) = weights values.items + 4
height_step (Stmt-F.Assign stmt var value) = weight value + 4
height_step (Stmt-F.Store stmt array index value) = weight index + weight value + 4
height_step (Stmt-F.If stmt when a b) = weight when + a.value + optional_height b + 5
height_step (Stmt-F.Switch stmt t on starts other body) = weight on + total body.items + 6
height_step (Stmt-F.While stmt when body) = weight when + body.value + 7
height_step (Stmt-F.DoWhile stmt when body) = weight when + body.value + 7
height_step (Stmt-F.For stmt first when step body) = total first.items + weight when + total step.items +
    body.value + 8
height_step Stmt-F.Break = 1
height_step Stmt-F.Continue = 1
height_step (Stmt-F.Return stmt value) = weight value + 4
height_step Stmt-F.ReturnNone = 1
height_step (Stmt-F.CallStmt stmt call function args) = arg_weights args.items + 5
height_step (Stmt-F.Print stmt args) = weights args.items + 4
height_step (Stmt-F.Assert stmt when) = weight when + 1

-- the height of a statement, at least 1
abbrev pub height : Stmt → ℕ
height = fold-Stmt ℕ height_step

-- the `total` of the heights of statements
abbrev pub heights : List Stmt → ℕ
heights body = total (map height body)

-- the height of an optional statement
abbrev pub optional_stmt_height : Option (Box Stmt) → ℕ
optional_stmt_height None = 1
optional_stmt_height (Some stmt) = height stmt.value + 1

-- a number above the height of every body
abbrev pub tallest : Program → ℕ
tallest p = sum_by (λ (f : Function). heights f.body + 2) p.functions
