-- The units of the parts of a body. What stays the same are parameters: the program, the bound on iterations,
-- how many more frames may begin, and the body's frame.

use Rattle.std.specs.Prelude.{ℕ, List, map, sum_by}
use Rattle.ba_numbers.specs.declared.ids.FnId.{FnId}
use Rattle.ba_tree.specs.Units.{Bodies, bodies_at, call_units, units_of_arg, units_of_expr, units_of_stmt}
use Rattle.ba_tree.specs.declared.tree.Arg.{Arg}
use Rattle.ba_tree.specs.declared.tree.Expr.{Expr}
use Rattle.ba_tree.specs.declared.tree.Stmt.{Stmt}
use Rattle.ba_units.specs.Lengths.{lengths_of}
use Rattle.ba_units.specs.declared.frame.Frame.{Frame}
use Rattle.ba_units.specs.declared.setting.Setting.{Setting}

-- the units of bodies, with so many frames left
unfoldable pub bodies_of : Setting → ℕ → Bodies
bodies_of w frames = bodies_at w.program.now w.turns frames

-- the units of an expression
unfoldable pub expr_units : Setting → ℕ → Frame → Expr → ℕ
expr_units w frames frame e = units_of_expr (bodies_of w frames) e (lengths_of w.program.now frame)

-- the units of expressions
abbrev pub exprs_units : Setting → ℕ → Frame → List Expr → ℕ
exprs_units w frames frame es = sum_by (expr_units w frames frame) es

-- the units of an argument
unfoldable pub arg_units : Setting → ℕ → Frame → Arg → ℕ
arg_units w frames frame arg = (units_of_arg (bodies_of w frames) (lengths_of w.program.now frame) arg).units

-- the units of arguments
abbrev pub args_units : Setting → ℕ → Frame → List Arg → ℕ
args_units w frames frame args = sum_by (arg_units w frames frame) args

-- the units of a call with its arguments and the body of its function
unfoldable pub units_of_call : Setting → ℕ → Frame → FnId → List Arg → ℕ
units_of_call w frames frame f args =
    call_units (bodies_of w frames) f
    (map (units_of_arg (bodies_of w frames) (lengths_of w.program.now frame)) args)

-- the units of a statement
unfoldable pub stmt_units : Setting → ℕ → Frame → Stmt → ℕ
stmt_units w frames frame s =
    units_of_stmt w.program.now w.turns (bodies_of w frames) s (lengths_of w.program.now frame)

-- the units of statements
abbrev pub stmts_units : Setting → ℕ → Frame → List Stmt → ℕ
stmts_units w frames frame body = sum_by (stmt_units w frames frame) body
