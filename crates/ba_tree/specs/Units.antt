-- The size of a program whose calls are replaced by bodies and whose loops by their iterations.

use Rattle.std.specs.Prelude.{ℕ, ◌+◌, ◌*◌, ◌/◌, ◌-◌, suc, zero, Option, None, Some, List, [], ◌∷◌, map, length, sum_by, slice_index_or, slice_set}
use Rattle.std.specs.Global.{Box}
use Rattle.ba_numbers.specs.declared.ids.FnId.{FnId}
use Rattle.ba_numbers.specs.declared.ids.VarId.{VarId}
use Rattle.ba_numbers.specs.declared.numbers.BinOp.{BinOp}
use Rattle.ba_numbers.specs.declared.numbers.BinOp.TheVariants.{Mul, Div, Rem, Shl, Shr}
use Rattle.ba_tree.specs.Meaning.{variable_of}
use Rattle.ba_tree.specs.Run.{function_of, main_of}
use Rattle.ba_tree.specs.declared.run.Bounds.{Bounds}
use Rattle.ba_tree.specs.declared.tree.Arg.TheOpen.{Arg-F, Expr-F}
use Rattle.ba_tree.specs.declared.tree.Arg.TheFolds.{fold-Arg, fold-Expr}
use Rattle.ba_tree.specs.declared.tree.Arg.{Arg}
use Rattle.ba_tree.specs.declared.tree.Expr.{Expr}
use Rattle.ba_tree.specs.declared.tree.Program.{Program}
use Rattle.ba_tree.specs.declared.tree.Shape.{Shape}
use Rattle.ba_tree.specs.declared.tree.Shape.TheVariants.{Value, Array, Passed}
use Rattle.ba_tree.specs.declared.tree.Stmt.{Stmt}
use Rattle.ba_tree.specs.declared.tree.Stmt.TheOpen.{Stmt-F}
use Rattle.ba_tree.specs.declared.tree.Stmt.TheFolds.{fold-Stmt}
use Rattle.ba_tree.specs.declared.tree.Variable.{Variable}

-- at the number of each array variable of the globals and of the innermost frame: how many elements the array
-- has that it names
abbrev pub Lengths : Type 0
Lengths = List ℕ

-- the length of a variable's array, 0 if it has none
abbrev pub length_at : Lengths → VarId → ℕ
length_at lengths v = slice_index_or lengths v.0 0

-- half of n, rounded up
abbrev pub half_up : ℕ → ℕ
half_up n = (n + 1) / 2

-- a third of n, rounded up
abbrev pub third_up : ℕ → ℕ
third_up n = (n + 2) / 3

-- the units of one read or write of an element of an array of n
abbrev pub element_units : ℕ → ℕ
element_units n = 1 + third_up n

-- the units of an operator, by the size of its circuit
abbrev pub operator_units : BinOp → ℕ
operator_units Mul = 15
operator_units Div = 40
operator_units Rem = 40
operator_units Shl = 2
operator_units Shr = 2
operator_units _ = 1

-- the units of a function's body in place of its call, by the lengths of the arrays that are passed to it
abbrev pub Bodies : Type 0
Bodies = FnId → Lengths → ℕ

-- the units of an argument, and how many elements the array has that it passes; a value has none
pub record ArgUnits : Type 0 where
  pub units : ℕ
  pub elements : ℕ

-- the units of an argument, and the length of an array, by its expression
abbrev pub arg_units_step : Arg-F (Lengths → ArgUnits) (Lengths → ℕ) → Lengths → ArgUnits
arg_units_step (Arg-F.Value value) lengths = record { units = 1 + value lengths; elements = 0 }
arg_units_step (Arg-F.Array array) lengths = record { units = 0; elements = length_at lengths array }

-- the units of a call: 1, those of its arguments, and those of the body with arrays of these lengths
abbrev pub call_units : Bodies → FnId → List ArgUnits → ℕ
call_units bodies f args = 1 + sum_by (λ (a : ArgUnits). a.units) args + bodies f (map (λ (a : ArgUnits). a.elements) args)

-- the units of an expression, by those of its parts
abbrev pub expr_units_step : Bodies → Expr-F (Lengths → ArgUnits) (Lengths → ℕ) → Lengths → ℕ
expr_units_step bodies (Expr-F.Const t value) lengths = 0
expr_units_step bodies (Expr-F.Var var) lengths = 0
expr_units_step bodies (Expr-F.Element array index) lengths = element_units (length_at lengths array) + index.value lengths
expr_units_step bodies (Expr-F.Unary op t a) lengths = 1 + a.value lengths
expr_units_step bodies (Expr-F.Binary op t a b) lengths = operator_units op + a.value lengths + b.value lengths
expr_units_step bodies (Expr-F.AndAlso a b) lengths = 1 + a.value lengths + b.value lengths
expr_units_step bodies (Expr-F.OrElse a b) lengths = 1 + a.value lengths + b.value lengths
expr_units_step bodies (Expr-F.Select t when if_not_zero if_zero) lengths =
    1 + when.value lengths + if_not_zero.value lengths + if_zero.value lengths
expr_units_step bodies (Expr-F.Convert t a) lengths = a.value lengths
expr_units_step bodies (Expr-F.Call call function args) lengths = call_units bodies function (map (λ a. a lengths) args.items)

-- the units of an expression
abbrev pub units_of_expr : Bodies → Expr → Lengths → ℕ
units_of_expr bodies = fold-Expr (Lengths → ArgUnits) (Lengths → ℕ) arg_units_step (expr_units_step bodies)

-- the units of an argument, and the length of the array that it passes
abbrev pub units_of_arg : Bodies → Lengths → Arg → ArgUnits
units_of_arg bodies lengths arg = fold-Arg (Lengths → ArgUnits) (Lengths → ℕ) arg_units_step (expr_units_step bodies) arg lengths

-- the declaration of a variable, or of an array
abbrev pub declaration_units : Shape → ℕ
declaration_units Value = 1
declaration_units (Array n) = 1 + half_up n
declaration_units Passed = 0

-- the units of an `else` branch, 0 without one
abbrev pub optional_units : Option (Box (Lengths → ℕ)) → Lengths → ℕ
optional_units None lengths = 0
optional_units (Some part) lengths = part.value lengths

-- the sum of the units of parts
abbrev pub all_units : List (Lengths → ℕ) → Lengths → ℕ
all_units parts lengths = sum_by (λ part. part lengths) parts

-- a loop of at most n iterations: its conditions, bodies and steps
abbrev pub loop_units : ℕ → ℕ → ℕ → ℕ → ℕ
loop_units turns condition body step = (turns + 1) * condition + turns * (body + step)

-- A numbered statement costs 1 and its expressions; a `break`, a `continue` and a `return` without a value
-- cost 1. An initialiser costs its expressions alone, since its declaration is counted. A `switch` costs 1
-- more for each `case`, and its body once.
abbrev pub stmt_units_step : Program → ℕ → Bodies → Stmt-F (Lengths → ℕ) → Lengths → ℕ
stmt_units_step p turns bodies (Stmt-F.Block body) lengths = all_units body.items lengths
stmt_units_step p turns bodies (Stmt-F.Declare var) lengths = declaration_units (variable_of p var).shape
stmt_units_step p turns bodies (Stmt-F.Init stmt var value) lengths = units_of_expr bodies value lengths
stmt_units_step p turns bodies (Stmt-F.InitArray stmt array values) lengths =
    sum_by (λ e. units_of_expr bodies e lengths) values.items
stmt_units_step p turns bodies (Stmt-F.Assign stmt var value) lengths = 1 + units_of_expr bodies value lengths
stmt_units_step p turns bodies (Stmt-F.Store stmt array index value) lengths =
    1 + element_units (length_at lengths array) + units_of_expr bodies index lengths + units_of_expr bodies value lengths
stmt_units_step p turns bodies (Stmt-F.If stmt when if_not_zero if_zero) lengths =
    1 + units_of_expr bodies when lengths + if_not_zero.value lengths + optional_units if_zero lengths
stmt_units_step p turns bodies (Stmt-F.Switch stmt t on starts other body) lengths =
    1 + units_of_expr bodies on lengths + length starts.items + all_units body.items lengths
stmt_units_step p turns bodies (Stmt-F.While stmt when body) lengths =
    loop_units turns (1 + units_of_expr bodies when lengths) (body.value lengths) 0
stmt_units_step p turns bodies (Stmt-F.DoWhile stmt when body) lengths =
    loop_units turns (1 + units_of_expr bodies when lengths) (body.value lengths) 0
stmt_units_step p turns bodies (Stmt-F.For stmt first when step body) lengths =
    all_units first.items lengths
    + loop_units turns (1 + units_of_expr bodies when lengths) (body.value lengths) (all_units step.items lengths)
stmt_units_step p turns bodies Stmt-F.Break lengths = 1
stmt_units_step p turns bodies Stmt-F.Continue lengths = 1
stmt_units_step p turns bodies (Stmt-F.Return stmt value) lengths = 1 + units_of_expr bodies value lengths
stmt_units_step p turns bodies Stmt-F.ReturnNone lengths = 1
stmt_units_step p turns bodies (Stmt-F.CallStmt stmt call function args) lengths =
    1 + call_units bodies function (map (units_of_arg bodies lengths) args.items)
stmt_units_step p turns bodies (Stmt-F.Print stmt args) lengths = 1 + sum_by (λ e. units_of_expr bodies e lengths) args.items
stmt_units_step p turns bodies (Stmt-F.Assert stmt when) lengths = 1 + units_of_expr bodies when lengths

-- the units of a statement
abbrev pub units_of_stmt : Program → ℕ → Bodies → Stmt → Lengths → ℕ
units_of_stmt p turns bodies = fold-Stmt (Lengths → ℕ) (stmt_units_step p turns bodies)

-- the units of a body
abbrev pub units_of_body : Program → ℕ → Bodies → List Stmt → Lengths → ℕ
units_of_body p turns bodies body lengths = sum_by (λ part. units_of_stmt p turns bodies part lengths) body

-- the lengths of the arrays that are declared
abbrev pub declared_length : Shape → ℕ
declared_length Value = 0
declared_length (Array n) = n
declared_length Passed = 0

-- the lengths of the arrays of all variables, as declared
abbrev pub declared_lengths : Program → Lengths
declared_lengths p = map (λ (v : Variable). declared_length v.shape) p.variables

-- an array parameter names an array of as many elements as the argument's
abbrev pub bound_lengths : List VarId → Lengths → Lengths → Lengths
bound_lengths [] given lengths = lengths
bound_lengths (v ∷ vs) [] lengths = lengths
bound_lengths (v ∷ vs) (n ∷ given) lengths = bound_lengths vs given (slice_set lengths v.0 n)

-- calls if n more frames may begin; the next one has no body
abbrev pub bodies_at : Program → ℕ → ℕ → Bodies
bodies_at p turns zero f given = 0
bodies_at p turns (suc frames) f given =
    units_of_body p turns (bodies_at p turns frames) (function_of p f).body
    (bound_lengths (function_of p f).params given (declared_lengths p))

-- The units of a program within these bounds: its globals with their initialisers, and main's body.
abbrev pub units_of : Program → Bounds → ℕ
units_of p b =
    sum_by (λ v. declaration_units (variable_of p v).shape) p.globals
    + units_of_body p b.turns (bodies_at p b.turns (b.frames - 1)) p.inits (declared_lengths p)
    + units_of_body p b.turns (bodies_at p b.turns (b.frames - 1)) (main_of p).body (declared_lengths p)
