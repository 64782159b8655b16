-- The parts of a program that the inliner translates.

use Rattle.std.specs.Prelude.{ℕ, ◌+◌, ℤ, Bool, cond, Option, None, Some, List, ◌∷◌, map, Ok}
use Rattle.std.specs.Global.{Box}
use Rattle.ba_inline.specs.Making.{Part}
use Rattle.ba_inline.specs.Worlds.{World, context_with}
use Rattle.ba_code.specs.declared.nodes.Take.{Take}
use Rattle.ba_code.specs.declared.nodes.Take.TheVariants as code
use Rattle.ba_inline.specs.declared.frames.Frame.{Frame}
use Rattle.ba_inline.specs.declared.frames.Wanted.{Wanted}
use Rattle.ba_inline.specs.declared.frames.Wanted.TheVariants as wanted
use Rattle.ba_numbers.specs.declared.ids.CallId.{CallId}
use Rattle.ba_numbers.specs.declared.ids.FnId.{FnId}
use Rattle.ba_numbers.specs.declared.ids.StmtId.{StmtId}
use Rattle.ba_numbers.specs.declared.ids.VarId.{VarId}
use Rattle.ba_tree.specs.Acts.{each, flow_after_loop, give, halt_with, rounds, then_do}
use Rattle.ba_tree.specs.Choices.{one_truth, one_value}
use Rattle.ba_tree.specs.Meaning.{Context, and_next, call_effect, condition, declare, eval, eval_arg, exec, exec_all, for_loop, given_element, given_elements, given_value, in_turn, print_effect, set_element, set_elements, set_value, test_behind, truth_of, turn_of, type_of, variable_of}
use Rattle.ba_tree.specs.State.{Execution}
use Rattle.ba_tree.specs.declared.run.Argument.{Argument}
use Rattle.ba_tree.specs.declared.run.Exit.{Exit}
use Rattle.ba_tree.specs.declared.run.Flow.{Flow}
use Rattle.ba_tree.specs.declared.run.Flow.TheVariants.{Next}
use Rattle.ba_tree.specs.declared.run.Halt.TheVariants.{Beyond}
use Rattle.ba_tree.specs.declared.run.Step.{Step}
use Rattle.ba_tree.specs.declared.run.Step.TheVariants.{Call}
use Rattle.ba_tree.specs.declared.tree.Arg.{Arg}
use Rattle.ba_tree.specs.declared.tree.Expr.{Expr}
use Rattle.ba_tree.specs.declared.tree.Program.{Program}
use Rattle.ba_tree.specs.declared.tree.Stmt.{Stmt}

-- what stays the same in the body of the frame's function
abbrev pub context_in_frame : Program → Frame → World → Context
context_in_frame p frame w = context_with p w frame.result frame.frames

-- an expression
abbrev pub value_part : Program → Frame → StmtId → Expr → Part ℤ
value_part p frame here e w path t = eval (context_in_frame p frame w) path here e

-- expressions from left to right
abbrev pub values_part : Program → Frame → StmtId → List Expr → Part (List ℤ)
values_part p frame here es w path t = each (map (eval (context_in_frame p frame w) path here) es)

-- arguments from left to right
abbrev pub arguments_part : Program → Frame → StmtId → List Arg → Part (List Argument)
arguments_part p frame here args w path t = each (map (eval_arg (context_in_frame p frame w) path here) args)

-- 1 for a value other than 0, and else 0
abbrev pub truth_part : Program → Frame → StmtId → Expr → Part ℤ
truth_part p frame here e w path t s = then_do (eval (context_in_frame p frame w) path here e s) (λ z. give
    (truth_of z))

-- a call with its arguments
abbrev pub call_part : Program → Frame → StmtId → CallId → FnId → List Arg → Part ℤ
call_part p frame here call function args w path t s =
    then_do (each (map (eval_arg (context_in_frame p frame w) path here) args) s)
    ((context_in_frame p frame w).calls (Call call ∷ path) here function)

-- a statement
abbrev pub stmt_part : Program → Frame → Stmt → Part (Flow Exit)
stmt_part p frame stmt w path t = exec (context_in_frame p frame w) stmt path

-- statements in order
abbrev pub stmts_part : Program → Frame → List Stmt → Part (Flow Exit)
stmts_part p frame body w path t = exec_all (context_in_frame p frame w) path body

-- what may replace an expression, and the value that fits
abbrev pub wanted_value : Wanted → List ℤ → Option ℤ
wanted_value (wanted.Value t) = one_value t
wanted_value wanted.Truth = one_truth

-- where a free value goes
abbrev pub wanted_take : Wanted → ℕ → Take
wanted_take (wanted.Value t) to = code.Value to t
wanted_take wanted.Truth to = code.Truth to

-- a value or condition, as written or by the choice
abbrev pub given_part : Program → Frame → StmtId → Wanted → Expr → Part ℤ
given_part p frame stmt (wanted.Value t) e w path _ = given_value (context_in_frame p frame w) path stmt t e
given_part p frame stmt wanted.Truth e w path _ = condition (context_in_frame p frame w) path stmt e

-- an argument
abbrev pub argument_part : Program → Frame → StmtId → Arg → Part Argument
argument_part p frame here arg w path _ = eval_arg (context_in_frame p frame w) path here arg

-- STATEMENTS, by their parts

-- an assignment
abbrev pub assign_part : Program → Frame → StmtId → VarId → Expr → Part (Flow Exit)
assign_part p frame stmt var e w path t s =
    then_do (given_value (context_in_frame p frame w) path stmt (type_of p var) e s) (set_value var)

-- a store
abbrev pub store_part : Program → Frame → StmtId → VarId → Expr → Expr → Part (Flow Exit)
store_part p frame stmt array index value w path t s =
    then_do (given_element (context_in_frame p frame w) path stmt array index value s) (set_element stmt
    array)

-- an array's initialiser
abbrev pub init_array_part : Program → Frame → StmtId → VarId → List Expr → Part (Flow Exit)
init_array_part p frame stmt array values w path t s =
    then_do (given_elements (context_in_frame p frame w) path stmt array values s) (set_elements array)

-- a call statement
abbrev pub call_stmt_part : Program → Frame → StmtId → CallId → FnId → List Arg → Part (Flow Exit)
call_stmt_part p frame stmt call function args w path t s =
    then_do (call_effect (context_in_frame p frame w) path stmt call function args s) and_next

-- a `printf`
abbrev pub print_part : Program → Frame → StmtId → List Expr → Part (Flow Exit)
print_part p frame stmt args w path t s =
    then_do (print_effect (context_in_frame p frame w) path stmt args s) and_next

-- a declaration
abbrev pub declare_part : Program → VarId → Part (Flow Exit)
declare_part p var w path t s = (Ok Next, declare (variable_of p var).shape var s)

-- an `else` branch; without one nothing is done
abbrev pub optional_now : Program → Frame → Option (Box Stmt) → World → List Step → Execution
optional_now p frame None w path s = (Ok Next, s)
optional_now p frame (Some stmt) w path s = exec (context_in_frame p frame w) stmt.value path s

-- an `else` branch
abbrev pub optional_part : Program → Frame → Option (Box Stmt) → Part (Flow Exit)
optional_part p frame stmt w path t = optional_now p frame stmt w path

-- the parts of a loop: whether its condition comes after its body, the condition, the body, and the step of a
-- `for`
pub record LoopParts : Type 0 where
  pub after : Bool
  pub stmt : StmtId
  pub when : Expr
  pub body : Stmt
  pub step : List Stmt

-- a loop whose condition comes after its iterations, which may have a step
abbrev pub do_rounds_part : Program → Frame → LoopParts → World → List Step → Execution
do_rounds_part p frame parts w path s = then_do (rounds
    (test_behind (λ k. condition (context_in_frame p frame w) (in_turn parts.stmt k path) parts.stmt
    parts.when))
    (λ k. turn_of (exec (context_in_frame p frame w) parts.body)
    (λ inside. exec_all (context_in_frame p frame w) inside parts.step) (in_turn parts.stmt (k + 1) path))
    (halt_with (Beyond parts.stmt)) w.turns 0 s) (λ flow. give (flow_after_loop flow))

-- a loop, which does not depend on the state of the code
unfoldable pub loop_now : Program → Frame → LoopParts → World → List Step → Execution
loop_now p frame parts w path s = cond parts.after
    (do_rounds_part p frame parts w path s)
    (for_loop (context_in_frame p frame w) path parts.stmt parts.when (exec (context_in_frame p frame w)
    parts.body)
    (λ inside. exec_all (context_in_frame p frame w) inside parts.step) s)

-- a loop
abbrev pub loop_part : Program → Frame → LoopParts → Part (Flow Exit)
loop_part p frame parts w path t = loop_now p frame parts w path
