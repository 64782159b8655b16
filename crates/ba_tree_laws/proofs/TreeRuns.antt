-- What the typed tree in the standard's terms does, by the same steps as the tree of the Rust types.
use Rattle.std.proofs.Common.{◌≡◌, ℕ, ◌+◌, ◌-◌, ℤ, pos, Bool, not, ◌&&◌, ◌==◌, Option, None, Ok, List, [], ◌∷◌, map, refl, ap}
use Rattle.std.specs.Prelude.{cond, length, unwrap_or, slice_get, slice_index_or}
use Rattle.ba_numbers.specs.Numbers.{value_of, value_of_one, converted}
use Rattle.ba_numbers.specs.declared.ids.CallId.{CallId}
use Rattle.ba_numbers.specs.declared.ids.FnId.{FnId}
use Rattle.ba_numbers.specs.declared.ids.StmtId.{StmtId}
use Rattle.ba_numbers.specs.declared.ids.VarId.{VarId}
use Rattle.ba_numbers.specs.declared.numbers.CType.{CType}
use Rattle.ba_numbers.specs.declared.numbers.CType.TheVariants.{I32}
use Rattle.ba_tree.specs.Acts.{give, halt_with, then_do, each, fork, after_part, rounds, flow_after_loop}
use Rattle.ba_tree.specs.State.{Act, Execution, value_at, location_of, elements_of, element_at}
use Rattle.ba_tree.specs.Choices.{lists, is_assert_info, value_by_choice, one_value, one_truth, all_elements, one_element, no_value}
use Rattle.ba_tree.specs.Meaning.{Calls, Context, or_trap, truth_of, set_value, set_elements, set_element, declare, assert_that, and_next, in_turn, turn_of, no_step, test_behind, label_at, entered, stmts_in_order}
use Rattle.ba_tree.specs.declared.run.Allowed.{Allowed}
use Rattle.ba_tree.specs.declared.run.Argument.{Argument}
use Rattle.ba_tree.specs.declared.run.Exit.TheVariants.{Break, Continue, Return}
use Rattle.ba_tree.specs.declared.run.Flow.TheVariants.{Next, Leaves}
use Rattle.ba_tree.specs.declared.run.Halt.TheVariants.{Beyond}
use Rattle.ba_tree.specs.declared.run.Step.{Step}
use Rattle.ba_tree.specs.declared.run.Step.TheVariants.{Call}
use Rattle.ba_tree.specs.declared.tree.Shape.TheVariants.{Value}
use Rattle.ba_tree.specs.declared.tree.StmtInfo.{StmtInfo}
use Rattle.ba_tree.specs.declared.tree.Variable.{Variable}
use Rattle.ba_tree.specs.Trees.{ExprTree, ArgTrees, ArgTree, StmtTree, StmtTrees, args_of}
use Rattle.ba_tree.specs.Trees as tree

-- What stays the same while a function's body runs, with no more of the program than is looked at.
pub record Setting : Type 0 where
  pub variables : List Variable
  pub statements : List StmtInfo
  pub allowed : Allowed
  pub turns : ℕ
  pub result : Option CType
  pub calls : Calls

abbrev pub setting_of : Context → Setting
setting_of x = record {
  variables = x.program.variables;
  statements = x.program.statements;
  allowed = x.allowed;
  turns = x.turns;
  result = x.result;
  calls = x.calls;
}

abbrev pub variable_in : List Variable → VarId → Variable
variable_in variables v = slice_index_or variables v.0 (record { t = I32; shape = Value })

abbrev pub is_assert_in : List StmtInfo → StmtId → Bool
is_assert_in statements stmt =
    is_assert_info (cond (stmt.0 == 0) None (slice_get statements (stmt.0 - 1)))

abbrev pub is_relaxed_in : Setting → List Step → StmtId → Bool
is_relaxed_in k path stmt = lists k.allowed path stmt && not (is_assert_in k.statements stmt)

-- EXPRESSIONS

module _ (calls : Calls) (path : List Step) (here : StmtId) where
  abbrev mutual
    pub value_of_tree : ExprTree → Act ℤ
    value_of_tree (tree.const t z) s = (Ok z, s)
    value_of_tree (tree.var v) s = (Ok (value_at s v), s)
    value_of_tree (tree.element v index) s =
        then_do (value_of_tree index s) (λ i s. or_trap here (element_at s v i) s)
    value_of_tree (tree.unary op t a) s = then_do (value_of_tree a s) (λ z. give (value_of_one op t z))
    value_of_tree (tree.binary op t a b) s =
        then_do (value_of_tree a s)
        (λ y s. then_do (value_of_tree b s) (λ z. or_trap here (value_of op t y z)))
    value_of_tree (tree.and_also a b) s = then_do (value_of_tree a s)
        (fork (λ s. then_do (value_of_tree b s) (λ z. give (truth_of z))) (give (pos 0)))
    value_of_tree (tree.or_else a b) s = then_do (value_of_tree a s)
        (fork (give (pos 1)) (λ s. then_do (value_of_tree b s) (λ z. give (truth_of z))))
    value_of_tree (tree.select t when a b) s =
        then_do (value_of_tree when s) (fork (value_of_tree a) (value_of_tree b))
    value_of_tree (tree.convert t a) s = then_do (value_of_tree a s) (λ z. give (converted t z))
    value_of_tree (tree.call call f args) s =
        then_do (each (values_of_args args) s) (calls (Call call ∷ path) here f)

    pub values_of_args : ArgTrees → List (Act Argument)
    values_of_args tree.no_more = []
    values_of_args (tree.value_then e args) =
        (λ s. then_do (value_of_tree e s) (λ z. give (Argument.Value z))) ∷ values_of_args args
    values_of_args (tree.array_then v args) =
        (λ s. (Ok (Argument.Array (location_of s v)), s)) ∷ values_of_args args

  abbrev pub value_of_arg : ArgTree → Act Argument
  value_of_arg (tree.value e) s = then_do (value_of_tree e s) (λ z. give (Argument.Value z))
  value_of_arg (tree.array v) s = (Ok (Argument.Array (location_of s v)), s)

  pub values_of_args-map : (args : List ArgTree) → values_of_args (args_of args) ≡ map value_of_arg args
  values_of_args-map [] = refl
  values_of_args-map (tree.value e ∷ args) =
      ap (λ parts. value_of_arg (tree.value e) ∷ parts) (values_of_args-map args)
  values_of_args-map (tree.array v ∷ args) =
      ap (λ parts. value_of_arg (tree.array v) ∷ parts) (values_of_args-map args)

-- STATEMENTS

abbrev pub given_in : {A : Type 0} → Setting → List Step → StmtId → (List ℤ → Option A) → Act A → Act A
given_in k path stmt = value_by_choice (is_relaxed_in k path stmt)

module _ (k : Setting) where
  -- an expression, and the arguments of a call, within a statement
  abbrev pub eval_tree : List Step → StmtId → ExprTree → Act ℤ
  eval_tree = value_of_tree k.calls

  abbrev pub eval_arg_tree : List Step → StmtId → ArgTree → Act Argument
  eval_arg_tree = value_of_arg k.calls

  abbrev pub value_in : List Step → StmtId → CType → ExprTree → Act ℤ
  value_in path stmt t e = given_in k path stmt (one_value t) (eval_tree path stmt e)

  abbrev pub condition_in : List Step → StmtId → ExprTree → Act ℤ
  condition_in path stmt when = given_in k path stmt one_truth (eval_tree path stmt when)

  abbrev pub elements_in : List Step → StmtId → VarId → List ExprTree → Act (List ℤ)
  elements_in path stmt v es s =
      given_in k path stmt (all_elements (variable_in k.variables v).t (length (elements_of s v)))
      (each (map (eval_tree path stmt) es)) s

  abbrev pub element_in : List Step → StmtId → VarId → ExprTree → ExprTree → Act (ℤ × ℤ)
  element_in path stmt v index e s =
      given_in k path stmt (one_element (variable_in k.variables v).t (length (elements_of s v)))
      (λ s. then_do (eval_tree path stmt index s)
      (λ i s. then_do (eval_tree path stmt e s) (λ z. give (i, z)))) s

  abbrev pub call_in : List Step → StmtId → CallId → FnId → List ArgTree → Act Unit
  call_in path stmt call f args = given_in k path stmt no_value
      (λ s. then_do
      (then_do (each (map (eval_arg_tree path stmt) args) s) (k.calls (Call call ∷ path) stmt f))
      (λ z. give tt))

  abbrev pub print_in : List Step → StmtId → List ExprTree → Act Unit
  print_in path stmt es = given_in k path stmt no_value
      (λ s. then_do (each (map (eval_tree path stmt) es) s) (λ zs. give tt))

  abbrev pub for_in : List Step → StmtId → ExprTree → (List Step → Execution) → (List Step → Execution)
      → Execution
  for_in path stmt when body step s = then_do
      (rounds (λ n. condition_in (in_turn stmt n path) stmt when)
      (λ n. turn_of body step (in_turn stmt n path)) (halt_with (Beyond stmt)) k.turns 1 s)
      (λ flow. give (flow_after_loop flow))

  abbrev pub do_in : List Step → StmtId → ExprTree → (List Step → Execution) → Execution
  do_in path stmt when body s = then_do
      (rounds (test_behind (λ n. condition_in (in_turn stmt n path) stmt when))
      (λ n. turn_of body no_step (in_turn stmt (n + 1) path)) (halt_with (Beyond stmt)) k.turns 0 s)
      (λ flow. give (flow_after_loop flow))

  abbrev mutual
    pub exec_tree : StmtTree → List Step → Execution
    exec_tree (tree.block body) path s = stmts_in_order path (exec_trees body) s
    exec_tree (tree.declare v) path s = (Ok Next, declare (variable_in k.variables v).shape v s)
    exec_tree (tree.init stmt v e) path s =
        then_do (value_in path stmt (variable_in k.variables v).t e s) (set_value v)
    exec_tree (tree.init_array stmt v es) path s = then_do (elements_in path stmt v es s) (set_elements v)
    exec_tree (tree.assign stmt v e) path s =
        then_do (value_in path stmt (variable_in k.variables v).t e s) (set_value v)
    exec_tree (tree.store stmt v index e) path s =
        then_do (element_in path stmt v index e s) (set_element stmt v)
    exec_tree (tree.if_then stmt when a) path s =
        then_do (condition_in path stmt when s) (fork (exec_tree a path) (give Next))
    exec_tree (tree.if_else stmt when a b) path s =
        then_do (condition_in path stmt when s) (fork (exec_tree a path) (exec_tree b path))
    exec_tree (tree.switch stmt t on starts other body) path s =
        then_do (value_in path stmt t on s)
        (λ z s. then_do (stmts_in_order path (entered (label_at starts z other) (exec_trees body)) s)
        (λ flow. give (flow_after_loop flow)))
    exec_tree (tree.while_loop stmt when body) path s = for_in path stmt when (exec_tree body) no_step s
    exec_tree (tree.do_while stmt when body) path s = do_in path stmt when (exec_tree body) s
    exec_tree (tree.for_loop stmt first when step body) path s =
        then_do (stmts_in_order path (exec_trees first) s)
        (after_part (for_in path stmt when (exec_tree body)
        (λ inside. stmts_in_order inside (exec_trees step))))
    exec_tree tree.break_loop path s = (Ok (Leaves Break), s)
    exec_tree tree.continue_loop path s = (Ok (Leaves Continue), s)
    exec_tree (tree.return_value stmt e) path s =
        then_do (value_in path stmt (unwrap_or k.result I32) e s) (λ z. give (Leaves (Return z)))
    exec_tree tree.return_none path s = (Ok (Leaves (Return (pos 0))), s)
    exec_tree (tree.call_stmt stmt call f args) path s = then_do (call_in path stmt call f args s) and_next
    exec_tree (tree.print stmt es) path s = then_do (print_in path stmt es s) and_next
    exec_tree (tree.assert stmt when) path s = then_do (eval_tree path stmt when s) (assert_that stmt)

    pub exec_trees : StmtTrees → List (List Step → Execution)
    exec_trees tree.no_stmts = []
    exec_trees (tree.stmt_then a others) = exec_tree a ∷ exec_trees others
