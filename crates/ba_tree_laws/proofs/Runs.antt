-- The tree of the Rust types does what the tree in the standard's terms does, by induction.
use Rattle.std.proofs.Common.{◌≡◌, ◌+◌, ℤ, pos, None, Some, List, [], ◌∷◌, map, refl, sym, ◌∙◌, ap, subst}
use Rattle.std.specs.Prelude.{length, unwrap_or}
use Rattle.ba_numbers.specs.Numbers.{value_of, value_of_one, converted}
use Rattle.ba_numbers.specs.declared.ids.CallId.{CallId}
use Rattle.ba_numbers.specs.declared.ids.FnId.{FnId}
use Rattle.ba_numbers.specs.declared.ids.StmtId.{StmtId}
use Rattle.ba_numbers.specs.declared.ids.VarId.{VarId}
use Rattle.ba_numbers.specs.declared.numbers.CType.{CType}
use Rattle.ba_numbers.specs.declared.numbers.CType.TheVariants.{I32}
use Rattle.ba_tree.specs.Acts.{give, halt_with, then_do, each, fork, after_part, rounds, flow_after_loop}
use Rattle.ba_tree.specs.State.{Act, Execution, element_at, elements_of}
use Rattle.ba_tree.specs.Choices.{admits, value_by_choice, one_value, one_truth, all_elements, one_element, no_value}
use Rattle.ba_tree.specs.Meaning.{Context, eval, eval_arg, exec, exec_all, arg_step, expr_step, stmt_step, or_trap, truth_of, given_value, given_elements, given_element, condition, call_effect, print_effect, set_value, set_elements, set_element, assert_that, and_next, in_turn, turn_of, no_step, for_loop, do_loop, test_behind, label_at, entered, stmts_in_order}
use Rattle.ba_tree.specs.declared.run.Argument.{Argument}
use Rattle.ba_tree.specs.declared.run.Exit.TheVariants.{Return}
use Rattle.ba_tree.specs.declared.run.Flow.TheVariants.{Next, Leaves}
use Rattle.ba_tree.specs.declared.run.Halt.TheVariants.{Beyond}
use Rattle.ba_tree.specs.declared.run.Step.{Step}
use Rattle.ba_tree.specs.declared.run.Step.TheVariants.{Call}
use Rattle.ba_tree.specs.declared.tree.Arg.{Arg}
use Rattle.ba_tree.specs.declared.tree.Arg.TheOpen.{Arg-F, Expr-F}
use Rattle.ba_tree.specs.declared.tree.Arg.TheFolds.{fold-roll-Arg, fold-roll-Expr, ind-Expr, ind-Arg, map-Arg, map-Expr}
use Rattle.ba_tree.specs.declared.tree.Arg.TheViews.{roll-Arg, roll-Expr}
use Rattle.ba_tree.specs.declared.tree.Expr.{Expr}
use Rattle.ba_tree.specs.declared.tree.Stmt.{Stmt}
use Rattle.ba_tree.specs.declared.tree.Stmt.TheOpen.{Stmt-F}
use Rattle.ba_tree.specs.declared.tree.Stmt.TheFolds.{fold-roll-Stmt, ind-Stmt, map-Stmt}
use Rattle.ba_tree.specs.declared.tree.Stmt.TheViews.{roll-Stmt}
use Rattle.ba_tree.specs.Trees.{ExprTree, ArgTree, StmtTree, args_of, stmts_of, arg_tree_step, expr_tree_step, stmt_tree_step, tree_of_arg, tree_of_expr, tree_of_stmt}
use Rattle.ba_tree_laws.proofs.TreeRuns.{Setting, setting_of, variable_in, is_relaxed_in, for_in, do_in, values_of_args, values_of_args-map, eval_tree, eval_arg_tree, value_in, condition_in, elements_in, element_in, call_in, print_in, exec_tree, exec_trees}

module _ (x : Context) where
  abbrev k : Setting
  k = setting_of x

  -- EXPRESSIONS

  module _ (path : List Step) (here : StmtId) where
    abbrev SameArg : Arg → Type 0
    SameArg a = eval_arg x path here a ≡ eval_arg_tree k path here (tree_of_arg a)

    abbrev SameExpr : Expr → Type 0
    SameExpr e = eval x path here e ≡ eval_tree k path here (tree_of_expr e)

    abbrev InnerArg : Type 0
    InnerArg = (a : Arg) × SameArg a

    abbrev InnerExpr : Type 0
    InnerExpr = (e : Expr) × SameExpr e

    abbrev bare_arg : Arg-F InnerArg InnerExpr → Arg-F Arg Expr
    bare_arg = map-Arg InnerArg InnerExpr Arg Expr (λ a. a.0) (λ e. e.0)

    abbrev bare_expr : Expr-F InnerArg InnerExpr → Expr-F Arg Expr
    bare_expr = map-Expr InnerArg InnerExpr Arg Expr (λ a. a.0) (λ e. e.0)

    same_each : (args : List InnerArg) → map (eval_arg x path here) (map (λ a. a.0) args)
        ≡ map (eval_arg_tree k path here) (map tree_of_arg (map (λ a. a.0) args))
    same_each [] = refl
    same_each (a ∷ args) = λ i. a.1 i ∷ same_each args i

    same_args : (args : List InnerArg) → map (eval_arg x path here) (map (λ a. a.0) args)
        ≡ values_of_args k.calls path here (args_of (map tree_of_arg (map (λ a. a.0) args)))
    same_args args = same_each args
        ∙ sym (values_of_args-map k.calls path here (map tree_of_arg (map (λ a. a.0) args)))

    arg_form : (y : Arg-F InnerArg InnerExpr)
        → arg_step (map-Arg Arg Expr (Act Argument) (Act ℤ) (eval_arg x path here) (eval x path here)
        (bare_arg y))
        ≡ eval_arg_tree k path here (arg_tree_step (map-Arg Arg Expr ArgTree ExprTree tree_of_arg tree_of_expr
        (bare_arg y)))
    arg_form (Arg-F.Value e) = λ i s. then_do (e.1 i s) (λ z. give (Argument.Value z))
    arg_form (Arg-F.Array v) = refl

    expr_form : (y : Expr-F InnerArg InnerExpr)
        → expr_step x path here (map-Expr Arg Expr (Act Argument) (Act ℤ) (eval_arg x path here)
        (eval x path here) (bare_expr y))
        ≡ eval_tree k path here (expr_tree_step (map-Expr Arg Expr ArgTree ExprTree tree_of_arg tree_of_expr
        (bare_expr y)))
    expr_form (Expr-F.Const t z) = refl
    expr_form (Expr-F.Var v) = refl
    expr_form (Expr-F.Element v index) =
        λ i s. then_do (index.value.1 i s) (λ z s. or_trap here (element_at s v z) s)
    expr_form (Expr-F.Unary op t a) = λ i s. then_do (a.value.1 i s) (λ z. give (value_of_one op t z))
    expr_form (Expr-F.Binary op t a b) = λ i s. then_do (a.value.1 i s)
        (λ y s. then_do (b.value.1 i s) (λ z. or_trap here (value_of op t y z)))
    expr_form (Expr-F.AndAlso a b) = λ i s. then_do (a.value.1 i s)
        (fork (λ s. then_do (b.value.1 i s) (λ z. give (truth_of z))) (give (pos 0)))
    expr_form (Expr-F.OrElse a b) = λ i s. then_do (a.value.1 i s)
        (fork (give (pos 1)) (λ s. then_do (b.value.1 i s) (λ z. give (truth_of z))))
    expr_form (Expr-F.Select t when a b) =
        λ i s. then_do (when.value.1 i s) (fork (a.value.1 i) (b.value.1 i))
    expr_form (Expr-F.Convert t a) = λ i s. then_do (a.value.1 i s) (λ z. give (converted t z))
    expr_form (Expr-F.Call call f args) =
        λ i s. then_do (each (same_args args.items i) s) (x.calls (Call call ∷ path) here f)

    arg_layer : (y : Arg-F InnerArg InnerExpr) → SameArg (roll-Arg (bare_arg y))
    unfolding eval eval_arg tree_of_expr tree_of_arg
    arg_layer y = fold-roll-Arg (Act Argument) (Act ℤ) arg_step (expr_step x path here) (bare_arg y)
        ∙ arg_form y
        ∙ ap (eval_arg_tree k path here)
        (sym (fold-roll-Arg ArgTree ExprTree arg_tree_step expr_tree_step (bare_arg y)))

    expr_layer : (y : Expr-F InnerArg InnerExpr) → SameExpr (roll-Expr (bare_expr y))
    unfolding eval eval_arg tree_of_expr tree_of_arg
    expr_layer y = fold-roll-Expr (Act Argument) (Act ℤ) arg_step (expr_step x path here) (bare_expr y)
        ∙ expr_form y
        ∙ ap (eval_tree k path here)
        (sym (fold-roll-Expr ArgTree ExprTree arg_tree_step expr_tree_step (bare_expr y)))

    eval_is : (e : Expr) → SameExpr e
    eval_is = ind-Expr SameArg SameExpr
        (λ a y is. subst (λ a. SameArg (roll-Arg a)) is (arg_layer y))
        (λ e y is. subst (λ e. SameExpr (roll-Expr e)) is (expr_layer y))

    eval_arg_is : (a : Arg) → SameArg a
    eval_arg_is = ind-Arg SameArg SameExpr
        (λ a y is. subst (λ a. SameArg (roll-Arg a)) is (arg_layer y))
        (λ e y is. subst (λ e. SameExpr (roll-Expr e)) is (expr_layer y))

    evals_are : (es : List Expr)
        → map (eval x path here) es ≡ map (eval_tree k path here) (map tree_of_expr es)
    evals_are [] = refl
    evals_are (e ∷ es) = λ i. eval_is e i ∷ evals_are es i

    args_are : (args : List Arg)
        → map (eval_arg x path here) args ≡ map (eval_arg_tree k path here) (map tree_of_arg args)
    args_are [] = refl
    args_are (a ∷ args) = λ i. eval_arg_is a i ∷ args_are args i

    -- what is evaluated in a statement, as written or as the choice says

    value_is : (t : CType) (e : Expr)
        → given_value x path here t e ≡ value_in k path here t (tree_of_expr e)
    unfolding given_value admits
    value_is t e = λ i. value_by_choice (is_relaxed_in k path here) (one_value t) (eval_is e i)

    condition_is : (e : Expr) → condition x path here e ≡ condition_in k path here (tree_of_expr e)
    unfolding condition admits
    condition_is e = λ i. value_by_choice (is_relaxed_in k path here) one_truth (eval_is e i)

    elements_are : (v : VarId) (es : List Expr)
        → given_elements x path here v es ≡ elements_in k path here v (map tree_of_expr es)
    unfolding given_elements admits
    elements_are v es = λ i s. value_by_choice (is_relaxed_in k path here)
        (all_elements (variable_in k.variables v).t (length (elements_of s v))) (each (evals_are es i)) s

    element_is : (v : VarId) (index e : Expr) → given_element x path here v index e
        ≡ element_in k path here v (tree_of_expr index) (tree_of_expr e)
    unfolding given_element admits
    element_is v index e = λ i s. value_by_choice (is_relaxed_in k path here)
        (one_element (variable_in k.variables v).t (length (elements_of s v)))
        (λ s. then_do (eval_is index i s) (λ n s. then_do (eval_is e i s) (λ z. give (n, z)))) s

    call_is : (call : CallId) (f : FnId) (args : List Arg)
        → call_effect x path here call f args ≡ call_in k path here call f (map tree_of_arg args)
    unfolding call_effect admits
    call_is call f args = λ i. value_by_choice (is_relaxed_in k path here) no_value
        (λ s. then_do (then_do (each (args_are args i) s) (x.calls (Call call ∷ path) here f)) (λ z. give tt))

    print_is : (es : List Expr) → print_effect x path here es ≡ print_in k path here (map tree_of_expr es)
    unfolding print_effect admits
    print_is es = λ i. value_by_choice (is_relaxed_in k path here) no_value
        (λ s. then_do (each (evals_are es i) s) (λ zs. give tt))

  -- STATEMENTS

  for_is : (path : List Step) (stmt : StmtId) (when : Expr) (body other step after : List Step → Execution)
      → body ≡ other → step ≡ after
      → for_loop x path stmt when body step ≡ for_in k path stmt (tree_of_expr when) other after
  unfolding for_loop
  for_is path stmt when body other step after bodies steps = λ i s. then_do
      (rounds (λ n. condition_is (in_turn stmt n path) stmt when i)
      (λ n. turn_of (bodies i) (steps i) (in_turn stmt n path)) (halt_with (Beyond stmt)) x.turns 1 s)
      (λ flow. give (flow_after_loop flow))

  do_is : (path : List Step) (stmt : StmtId) (when : Expr) (body other : List Step → Execution)
      → body ≡ other
      → do_loop x path stmt when body ≡ do_in k path stmt (tree_of_expr when) other
  unfolding do_loop
  do_is path stmt when body other bodies = λ i s. then_do
      (rounds (test_behind (λ n. condition_is (in_turn stmt n path) stmt when i))
      (λ n. turn_of (bodies i) no_step (in_turn stmt (n + 1) path)) (halt_with (Beyond stmt)) x.turns 0 s)
      (λ flow. give (flow_after_loop flow))

  abbrev SameStmt : Stmt → Type 0
  SameStmt a = exec x a ≡ exec_tree k (tree_of_stmt a)

  abbrev InnerStmt : Type 0
  InnerStmt = (a : Stmt) × SameStmt a

  abbrev bare_stmt : Stmt-F InnerStmt → Stmt-F Stmt
  bare_stmt = map-Stmt InnerStmt Stmt (λ a. a.0)

  same_stmts : (body : List InnerStmt) → map (exec x) (map (λ a. a.0) body)
      ≡ exec_trees k (stmts_of (map tree_of_stmt (map (λ a. a.0) body)))
  same_stmts [] = refl
  same_stmts (a ∷ body) = λ i. a.1 i ∷ same_stmts body i

  stmt_form : (y : Stmt-F InnerStmt)
      → stmt_step x (map-Stmt Stmt (List Step → Execution) (exec x) (bare_stmt y))
      ≡ exec_tree k (stmt_tree_step (map-Stmt Stmt StmtTree tree_of_stmt (bare_stmt y)))
  stmt_form (Stmt-F.Block body) = λ i path. stmts_in_order path (same_stmts body.items i)
  stmt_form (Stmt-F.Declare v) = refl
  stmt_form (Stmt-F.Init stmt v e) =
      λ i path s. then_do (value_is path stmt (variable_in k.variables v).t e i s) (set_value v)
  stmt_form (Stmt-F.InitArray stmt v es) =
      λ i path s. then_do (elements_are path stmt v es.items i s) (set_elements v)
  stmt_form (Stmt-F.Assign stmt v e) =
      λ i path s. then_do (value_is path stmt (variable_in k.variables v).t e i s) (set_value v)
  stmt_form (Stmt-F.Store stmt v index e) =
      λ i path s. then_do (element_is path stmt v index e i s) (set_element stmt v)
  stmt_form (Stmt-F.If stmt when a None) =
      λ i path s. then_do (condition_is path stmt when i s) (fork (a.value.1 i path) (give Next))
  stmt_form (Stmt-F.If stmt when a (Some b)) =
      λ i path s. then_do (condition_is path stmt when i s) (fork (a.value.1 i path) (b.value.1 i path))
  stmt_form (Stmt-F.Switch stmt t on starts other body) = λ i path s. then_do (value_is path stmt t on i s)
      (λ z s. then_do
      (stmts_in_order path (entered (label_at starts.items z other) (same_stmts body.items i)) s)
      (λ flow. give (flow_after_loop flow)))
  stmt_form (Stmt-F.While stmt when body) =
      λ i path. for_is path stmt when (exec x body.value.0) (exec_tree k (tree_of_stmt body.value.0))
      no_step no_step body.value.1 refl i
  stmt_form (Stmt-F.DoWhile stmt when body) =
      λ i path. do_is path stmt when (exec x body.value.0) (exec_tree k (tree_of_stmt body.value.0))
      body.value.1 i
  stmt_form (Stmt-F.For stmt first when step body) =
      λ i path s. then_do (stmts_in_order path (same_stmts first.items i) s)
      (after_part (for_is path stmt when (exec x body.value.0) (exec_tree k (tree_of_stmt body.value.0))
      (λ inside. stmts_in_order inside (map (exec x) (map (λ a. a.0) step.items)))
      (λ inside. stmts_in_order inside
      (exec_trees k (stmts_of (map tree_of_stmt (map (λ a. a.0) step.items)))))
      body.value.1 (λ j inside. stmts_in_order inside (same_stmts step.items j)) i))
  stmt_form Stmt-F.Break = refl
  stmt_form Stmt-F.Continue = refl
  stmt_form (Stmt-F.Return stmt e) = λ i path s.
      then_do (value_is path stmt (unwrap_or x.result I32) e i s) (λ z. give (Leaves (Return z)))
  stmt_form Stmt-F.ReturnNone = refl
  stmt_form (Stmt-F.CallStmt stmt call f args) =
      λ i path s. then_do (call_is path stmt call f args.items i s) and_next
  stmt_form (Stmt-F.Print stmt es) = λ i path s. then_do (print_is path stmt es.items i s) and_next
  stmt_form (Stmt-F.Assert stmt when) =
      λ i path s. then_do (eval_is path stmt when i s) (assert_that stmt)

  stmt_layer : (y : Stmt-F InnerStmt) → SameStmt (roll-Stmt (bare_stmt y))
  unfolding exec tree_of_stmt
  stmt_layer y = fold-roll-Stmt (List Step → Execution) (stmt_step x) (bare_stmt y)
      ∙ stmt_form y
      ∙ ap (exec_tree k) (sym (fold-roll-Stmt StmtTree stmt_tree_step (bare_stmt y)))

  exec_is : (a : Stmt) → SameStmt a
  exec_is = ind-Stmt SameStmt (λ a y is. subst (λ a. SameStmt (roll-Stmt a)) is (stmt_layer y))

  execs_are : (body : List Stmt) → map (exec x) body ≡ map (exec_tree k) (map tree_of_stmt body)
  execs_are [] = refl
  execs_are (a ∷ body) = λ i. exec_is a i ∷ execs_are body i

  -- a body does what its tree does
  pub exec_all_is : (path : List Step) (body : List Stmt)
      → exec_all x path body ≡ stmts_in_order path (map (exec_tree k) (map tree_of_stmt body))
  unfolding exec_all
  exec_all_is path body = λ i. stmts_in_order path (execs_are body i)
