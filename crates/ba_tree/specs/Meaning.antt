-- What expressions and statements do (C90 6.3, 6.6), with statements that may be relaxed.

use Rattle.std.specs.Prelude.{suc, zero, ℕ, ◌+◌, ℤ, pos, Bool, not, cond, Option, None, Some, List, [], ◌∷◌, ◌++◌, map, length, replicate, take, drop, unwrap_or, slice_index_or, Ok, Err}
use Rattle.std.specs.Ordering.{int_eq}
use Rattle.std.specs.Global.{Box}
use Rattle.ba_numbers.specs.Numbers.{value_of, value_of_one, converted, truth}
use Rattle.ba_numbers.specs.declared.ids.StmtId.{StmtId}
use Rattle.ba_numbers.specs.declared.ids.VarId.{VarId}
use Rattle.ba_numbers.specs.declared.ids.FnId.{FnId}
use Rattle.ba_numbers.specs.declared.ids.CallId.{CallId}
use Rattle.ba_numbers.specs.declared.numbers.CType.{CType}
use Rattle.ba_numbers.specs.declared.numbers.CType.TheVariants.{I32}
use Rattle.ba_tree.specs.Acts.{give, halt_with, then_do, each, fork, after_part, in_order, flow_after_body, flow_after_loop, rounds}
use Rattle.ba_tree.specs.State.{State, Act, Execution, value_at, with_value, location_of, elements_of, with_elements, element_at, with_element}
use Rattle.ba_tree.specs.Choices.{admits, value_by_choice, one_value, one_truth, all_elements, one_element, no_value}
use Rattle.ba_tree.specs.declared.run.Argument.{Argument}
use Rattle.ba_tree.specs.declared.run.Exit.TheVariants.{Break, Continue, Return}
use Rattle.ba_tree.specs.declared.run.Flow.TheVariants.{Next, Leaves}
use Rattle.ba_tree.specs.declared.run.Halt.TheVariants.{AssertFails, Trap, Beyond}
use Rattle.ba_tree.specs.declared.run.Step.{Step}
use Rattle.ba_tree.specs.declared.run.Step.TheVariants.{Call, Turn}
use Rattle.ba_tree.specs.declared.run.Allowed.{Allowed}
use Rattle.ba_tree.specs.declared.tree.Arg.TheOpen.{Arg-F, Expr-F}
use Rattle.ba_tree.specs.declared.tree.Arg.TheFolds.{fold-Arg, fold-Expr}
use Rattle.ba_tree.specs.declared.tree.Arg.{Arg}
use Rattle.ba_tree.specs.declared.tree.Expr.{Expr}
use Rattle.ba_tree.specs.declared.tree.Program.{Program}
use Rattle.ba_tree.specs.declared.tree.Shape.{Shape}
use Rattle.ba_tree.specs.declared.tree.Shape.TheVariants.{Value, Array, Passed}
use Rattle.ba_tree.specs.declared.tree.Start.{Start}
use Rattle.ba_tree.specs.declared.tree.Stmt.{Stmt}
use Rattle.ba_tree.specs.declared.tree.Stmt.TheOpen.{Stmt-F}
use Rattle.ba_tree.specs.declared.tree.Stmt.TheFolds.{fold-Stmt}
use Rattle.ba_tree.specs.declared.tree.Variable.{Variable}

-- What a call does, by the path to it with its own step, the statement that makes it, the function, and the
-- arguments.
abbrev pub Calls : Type 0
Calls = List Step → StmtId → FnId → List Argument → Act ℤ

-- What stays the same in a function's body: the program, what may be relaxed, the bound on iterations, the
-- function's type, and what calls do.
pub record Context : Type 0 where
  pub program : Program
  pub allowed : Allowed
  pub turns : ℕ
  pub result : Option CType
  pub calls : Calls

-- the variable of a number
abbrev pub variable_of : Program → VarId → Variable
variable_of p v = slice_index_or p.variables v.0 (record { t = I32; shape = Value })

-- the type of a variable, or of the elements of an array
abbrev pub type_of : Program → VarId → CType
type_of p v = (variable_of p v).t

-- EXPRESSIONS, evaluated from left to right within the statement `here`, which is reached by this path
-- (innermost step first)

-- the value, or a trap at `here` for None
abbrev pub or_trap : StmtId → Option ℤ → Act ℤ
or_trap here None s = (Err (Trap here), s)
or_trap here (Some z) s = (Ok z, s)

-- 1 for a value other than 0, and else 0
abbrev pub truth_of : ℤ → ℤ
truth_of z = truth (not (int_eq z (pos 0)))

-- what an argument gives, by its expression: a value, or the location of an array
abbrev pub arg_step : Arg-F (Act Argument) (Act ℤ) → Act Argument
arg_step (Arg-F.Value value) s = then_do (value s) (λ z. give (Argument.Value z))
arg_step (Arg-F.Array array) s = (Ok (Argument.Array (location_of s array)), s)

-- what an expression does, by its parts
abbrev pub expr_step : Context → List Step → StmtId → Expr-F (Act Argument) (Act ℤ) → Act ℤ
expr_step x path here (Expr-F.Const t value) s = (Ok value, s)
expr_step x path here (Expr-F.Var var) s = (Ok (value_at s var), s)
expr_step x path here (Expr-F.Element array index) s =
    then_do (index.value s) (λ i s. or_trap here (element_at s array i) s)
expr_step x path here (Expr-F.Unary op t a) s = then_do (a.value s) (λ z. give (value_of_one op t z))
expr_step x path here (Expr-F.Binary op t a b) s =
    then_do (a.value s) (λ y s. then_do (b.value s) (λ z. or_trap here (value_of op t y z)))
expr_step x path here (Expr-F.AndAlso a b) s =
    then_do (a.value s) (fork (λ s. then_do (b.value s) (λ z. give (truth_of z))) (give (pos 0)))
expr_step x path here (Expr-F.OrElse a b) s =
    then_do (a.value s) (fork (give (pos 1)) (λ s. then_do (b.value s) (λ z. give (truth_of z))))
expr_step x path here (Expr-F.Select t when if_not_zero if_zero) s =
    then_do (when.value s) (fork if_not_zero.value if_zero.value)
expr_step x path here (Expr-F.Convert t a) s = then_do (a.value s) (λ z. give (converted t z))
expr_step x path here (Expr-F.Call call function args) s =
    then_do (each args.items s) (x.calls (Call call ∷ path) here function)

-- the evaluation of an expression
unfoldable pub eval : Context → List Step → StmtId → Expr → Act ℤ
eval x path here = fold-Expr (Act Argument) (Act ℤ) arg_step (expr_step x path here)

-- the evaluation of an argument
unfoldable pub eval_arg : Context → List Step → StmtId → Arg → Act Argument
eval_arg x path here = fold-Arg (Act Argument) (Act ℤ) arg_step (expr_step x path here)

-- PARTS OF STATEMENTS, each as written or by the choice

-- an execution of this statement may be relaxed
abbrev pub is_relaxed : Context → List Step → StmtId → Bool
is_relaxed x path stmt = admits x.program x.allowed path stmt

-- a value of this type, as written or by the choice: of an initialiser, an assignment, a return or a
-- controlling expression
unfoldable pub given_value : Context → List Step → StmtId → CType → Expr → Act ℤ
given_value x path stmt t value = value_by_choice (is_relaxed x path stmt) (one_value t) (eval x path stmt value)

-- a condition, as written or by the choice, which is 0 or 1
unfoldable pub condition : Context → List Step → StmtId → Expr → Act ℤ
condition x path stmt when = value_by_choice (is_relaxed x path stmt) one_truth (eval x path stmt when)

-- the values of an array's initialiser
unfoldable pub given_elements : Context → List Step → StmtId → VarId → List Expr → Act (List ℤ)
given_elements x path stmt array values s =
    value_by_choice (is_relaxed x path stmt) (all_elements (type_of x.program array) (length (elements_of s array)))
    (each (map (eval x path stmt) values)) s

-- a call statement
unfoldable pub call_effect : Context → List Step → StmtId → CallId → FnId → List Arg → Act Unit
call_effect x path stmt call function args = value_by_choice (is_relaxed x path stmt) no_value
    (λ s. then_do (then_do (each (map (eval_arg x path stmt) args) s) (x.calls (Call call ∷ path) stmt function)) (λ z. give tt))

-- a printf
unfoldable pub print_effect : Context → List Step → StmtId → List Expr → Act Unit
print_effect x path stmt args = value_by_choice (is_relaxed x path stmt) no_value
    (λ s. then_do (each (map (eval x path stmt) args) s) (λ zs. give tt))

-- the index and the value of a store
unfoldable pub given_element : Context → List Step → StmtId → VarId → Expr → Expr → Act (ℤ × ℤ)
given_element x path stmt array index value s =
    value_by_choice (is_relaxed x path stmt) (one_element (type_of x.program array) (length (elements_of s array)))
    (λ s. then_do (eval x path stmt index s) (λ i s. then_do (eval x path stmt value s) (λ z. give (i, z)))) s

-- sets a variable
abbrev pub set_value : VarId → ℤ → Execution
set_value var z s = (Ok Next, with_value s var z)

-- an array of n elements: these, and 0 for the rest
abbrev pub elements_with : ℕ → List ℤ → List ℤ
elements_with count zs = take count (zs ++ replicate count (pos 0))

-- sets the elements of an array to these, the rest to 0
abbrev pub set_elements : VarId → List ℤ → Execution
set_elements array zs s = (Ok Next, with_elements s array (elements_with (length (elements_of s array)) zs))

-- the state after a store, or a trap at `here` for None
abbrev pub or_trapped : StmtId → Option State → Execution
or_trapped here None s = (Err (Trap here), s)
or_trapped here (Some t) s = (Ok Next, t)

-- a store traps outside the array
abbrev pub set_element : StmtId → VarId → ℤ × ℤ → Execution
set_element here array (i, z) s = or_trapped here (with_element s array i z) s

-- a declaration sets its variable, or all elements of its array, to 0
abbrev pub declare : Shape → VarId → State → State
declare Value var s = with_value s var (pos 0)
declare (Array n) var s = with_elements s var (replicate (length (elements_of s var)) (pos 0))
declare Passed var s = s

-- the run ends with a failed assertion if the value is 0
abbrev pub assert_that : StmtId → ℤ → Execution
assert_that stmt z s = cond (int_eq z (pos 0)) (Err (AssertFails stmt), s) (Ok Next, s)

-- executed for its effect alone; the next statement follows
abbrev pub and_next : {A : Type 0} → A → Execution
and_next a s = (Ok Next, s)

-- LOOPS (C90 6.6.5): `stmt` is the loop's condition, and iterations count from 1

-- the path inside iteration k
abbrev pub in_turn : StmtId → ℕ → List Step → List Step
in_turn stmt k path = Turn stmt k ∷ path

-- one iteration: the body, and the loop's step unless the body leaves the loop
abbrev pub turn_of : (List Step → Execution) → (List Step → Execution) → List Step → Execution
turn_of body step path s = then_do (body path s) (λ flow. after_part (step path) (flow_after_body flow))

-- the step of a loop that has none
abbrev pub no_step : List Step → Execution
no_step path s = (Ok Next, s)

-- `while`, and `for` after its first part: test, body, step, test, .. ; a `while` has no step
unfoldable pub for_loop : Context → List Step → StmtId → Expr → (List Step → Execution) → (List Step → Execution) → Execution
for_loop x path stmt when body step s = then_do
    (rounds (λ k. condition x (in_turn stmt k path) stmt when)
    (λ k. turn_of body step (in_turn stmt k path))
    (halt_with (Beyond stmt)) x.turns 1 s)
    (λ flow. give (flow_after_loop flow))

-- the test at the end of an iteration of `do`; none comes before the first iteration
abbrev pub test_behind : (ℕ → Act ℤ) → ℕ → Act ℤ
test_behind test zero s = (Ok (pos 1), s)
test_behind test (suc k) s = test (suc k) s

-- `do`: body, test, body, test, .. The test at the end of iteration k is in iteration k.
unfoldable pub do_loop : Context → List Step → StmtId → Expr → (List Step → Execution) → Execution
do_loop x path stmt when body s = then_do
    (rounds (test_behind (λ k. condition x (in_turn stmt k path) stmt when))
    (λ k. turn_of body no_step (in_turn stmt (k + 1) path))
    (halt_with (Beyond stmt)) x.turns 0 s)
    (λ flow. give (flow_after_loop flow))

-- SWITCHES (C90 6.6.4.2)

-- how many statements are before the label of this value, or else before `default`; None if there is neither.
-- Of equal labels the first counts
abbrev pub label_at : List Start → ℤ → Option ℕ → Option ℕ
label_at [] z other = other
label_at (start ∷ starts) z other = cond (int_eq start.value z) (Some start.at) (label_at starts z other)

-- what is executed of a body: all that is after the label, and nothing without a label
abbrev pub entered : {A : Type 0} → Option ℕ → List A → List A
entered None parts = []
entered (Some at) parts = drop at parts

-- STATEMENTS

-- a part as it is reached by this path
abbrev pub at_path : List Step → (List Step → Execution) → Execution
at_path path part = part path

-- statements one after the other, all reached by this path
abbrev pub stmts_in_order : List Step → List (List Step → Execution) → Execution
stmts_in_order path parts = in_order (map (at_path path) parts)

-- an `else` branch; without one nothing is done
abbrev pub optional : Option (Box (List Step → Execution)) → List Step → Execution
optional None path s = (Ok Next, s)
optional (Some part) path s = part.value path s

-- a statement, reached by this path (innermost step first)
abbrev pub stmt_step : Context → Stmt-F (List Step → Execution) → List Step → Execution
stmt_step x (Stmt-F.Block body) path s = stmts_in_order path body.items s
stmt_step x (Stmt-F.Declare var) path s = (Ok Next, declare (variable_of x.program var).shape var s)
stmt_step x (Stmt-F.Init stmt var value) path s =
    then_do (given_value x path stmt (type_of x.program var) value s) (set_value var)
stmt_step x (Stmt-F.InitArray stmt array values) path s =
    then_do (given_elements x path stmt array values.items s) (set_elements array)
stmt_step x (Stmt-F.Assign stmt var value) path s =
    then_do (given_value x path stmt (type_of x.program var) value s) (set_value var)
stmt_step x (Stmt-F.Store stmt array index value) path s =
    then_do (given_element x path stmt array index value s) (set_element stmt array)
stmt_step x (Stmt-F.If stmt when if_not_zero if_zero) path s =
    then_do (condition x path stmt when s) (fork (if_not_zero.value path) (optional if_zero path))
stmt_step x (Stmt-F.Switch stmt t on starts other body) path s =
    then_do (given_value x path stmt t on s)
    (λ z s. then_do (stmts_in_order path (entered (label_at starts.items z other) body.items) s)
    (λ flow. give (flow_after_loop flow)))
stmt_step x (Stmt-F.While stmt when body) path s = for_loop x path stmt when body.value no_step s
stmt_step x (Stmt-F.DoWhile stmt when body) path s = do_loop x path stmt when body.value s
stmt_step x (Stmt-F.For stmt first when step body) path s =
    then_do (stmts_in_order path first.items s)
    (after_part (for_loop x path stmt when body.value (λ inside. stmts_in_order inside step.items)))
stmt_step x Stmt-F.Break path s = (Ok (Leaves Break), s)
stmt_step x Stmt-F.Continue path s = (Ok (Leaves Continue), s)
stmt_step x (Stmt-F.Return stmt value) path s =
    then_do (given_value x path stmt (unwrap_or x.result I32) value s) (λ z. give (Leaves (Return z)))
stmt_step x Stmt-F.ReturnNone path s = (Ok (Leaves (Return (pos 0))), s)
stmt_step x (Stmt-F.CallStmt stmt call function args) path s = then_do (call_effect x path stmt call function args.items s) and_next
stmt_step x (Stmt-F.Print stmt args) path s = then_do (print_effect x path stmt args.items s) and_next
stmt_step x (Stmt-F.Assert stmt when) path s = then_do (eval x path stmt when s) (assert_that stmt)

-- the execution of a statement
unfoldable pub exec : Context → Stmt → List Step → Execution
exec x = fold-Stmt (List Step → Execution) (stmt_step x)

-- the execution of statements in order
unfoldable pub exec_all : Context → List Step → List Stmt → Execution
exec_all x path body = stmts_in_order path (map (exec x) body)
