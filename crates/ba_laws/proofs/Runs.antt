-- Expressions, statements, calls and whole runs replay.
use Rattle.std.proofs.Common.{◌≡◌, suc, zero, ℕ, ◌+◌, ℤ, pos, false, Option, None, Some, Result, Ok, Err, List, [], ◌∷◌, map, refl, sym, ◌∙◌, ap, subst}
use Rattle.std.specs.Prelude.{drop, length, ◌++◌, unwrap_or}
use Rattle.ba_numbers.specs.Numbers.{value_of, value_of_one, converted}
use Rattle.ba_numbers.specs.declared.ids.StmtId.{StmtId}
use Rattle.ba_numbers.specs.declared.ids.VarId.{VarId}
use Rattle.ba_numbers.specs.declared.ids.FnId.{FnId}
use Rattle.ba_numbers.specs.declared.ids.CallId.{CallId}
use Rattle.ba_numbers.specs.declared.numbers.CType.{CType}
use Rattle.ba_numbers.specs.declared.numbers.CType.TheVariants.{I32}
use Rattle.ba_choices.specs.declared.Choice.{Choice}
use Rattle.ba_tree.specs.Acts.{then_do, flow_after_body, flow_after_loop}
use Rattle.ba_tree.specs.State.{State, Act, Ending, Execution, value_at, location_of, elements_of, element_at}
use Rattle.ba_tree.specs.Choices.{one_value, one_truth, all_elements, one_element, no_value}
use Rattle.ba_tree.specs.Meaning.{Calls, Context, variable_of, type_of, eval, eval_arg, exec, exec_all, arg_step, expr_step, stmt_step, or_trap, truth_of, given_value, given_elements, given_element, condition, call_effect, print_effect, set_value, set_elements, set_element, declare, in_turn, turn_of, no_step, for_loop, do_loop, test_behind, label_at, entered, stmts_in_order}
use Rattle.ba_tree.specs.declared.run.Allowed.{Allowed}
use Rattle.ba_tree.specs.declared.run.Argument.{Argument}
use Rattle.ba_tree.specs.declared.run.Exit.{Exit}
use Rattle.ba_tree.specs.declared.run.Exit.TheVariants.{Break, Continue, Return}
use Rattle.ba_tree.specs.declared.run.Flow.{Flow}
use Rattle.ba_tree.specs.declared.run.Flow.TheVariants.{Next, Leaves}
use Rattle.ba_tree.specs.declared.run.Halt.{Halt}
use Rattle.ba_tree.specs.declared.run.Halt.TheVariants.{AssertFails, Beyond}
use Rattle.ba_tree.specs.declared.run.Input.{Input}
use Rattle.ba_tree.specs.declared.run.Step.{Step}
use Rattle.ba_tree.specs.declared.run.Step.TheVariants.{Call}
use Rattle.ba_tree.specs.declared.tree.Arg.{Arg}
use Rattle.ba_tree.specs.declared.tree.Arg.TheOpen.{Arg-F, Expr-F}
use Rattle.ba_tree.specs.declared.tree.Arg.TheFolds.{fold-roll-Arg, fold-roll-Expr, ind-Expr, ind-Arg, map-Arg, map-Expr}
use Rattle.ba_tree.specs.declared.tree.Arg.TheViews.{roll-Arg, roll-Expr}
use Rattle.ba_tree.specs.declared.tree.Expr.{Expr}
use Rattle.ba_tree.specs.declared.tree.Program.{Program}
use Rattle.ba_tree.specs.declared.tree.Stmt.{Stmt}
use Rattle.ba_tree.specs.declared.tree.Stmt.TheOpen.{Stmt-F}
use Rattle.ba_tree.specs.declared.tree.Stmt.TheFolds.{fold-roll-Stmt, ind-Stmt, map-Stmt}
use Rattle.ba_tree.specs.declared.tree.Stmt.TheViews.{roll-Stmt}
use Rattle.ba_tree.specs.declared.tree.Function.{Function}
use Rattle.ba_tree.specs.Run.{begin_frame, end_frame, result_of, call_of, function_of, context_in, call_at, main_of, enter_main, run_main}
use Rattle.ba_laws.specs.Visits.{chosen}
use Rattle.ba_laws.proofs.Keeps.{with_choices, with_left, keeps_choices, trap_steady, element_steady, set_element_steady, declare_keeps, frame_keeps, end_keeps, main_keeps}
use Rattle.ba_laws.proofs.Replays.{is_wrong, Replay, Replays, replays_as, replays_steady, replays_give, replays_halt, replays_from, replays_then, replays_fork, replays_each, replays_each_of, replays_after, replays_stmts, replays_stmts_of, replays_rounds, replays_choice}

-- CALLS

abbrev end_call : Function → State → Flow Exit → Act ℤ
end_call f before flow s = (Ok (result_of flow), end_frame f before s)

-- a call that finds other choices, if its body then ends like this
call_again : (p : Program) (f : Function) (args : List Argument) (body : Execution) (s : State)
    (choices : List Choice) (e : Ending (Flow Exit)) → body (with_choices (begin_frame p f args s) choices) ≡
    e
    → call_of p f body args (with_choices s choices) ≡ then_do e (end_call f (with_choices s choices))
call_again p f args body s choices e is =
    ap (λ m. then_do (body m) (end_call f (with_choices s choices))) (frame_keeps p f args s choices)
    ∙ ap (λ (e : Ending (Flow Exit)). then_do e (end_call f (with_choices s choices))) is

frame_replay : (p : Program) (f : Function) (args : List Argument) (body : Allowed → Execution)
    → Replays p body
    → (x : Allowed) (s : State) (r : Result ℤ Halt) (t : State) (e : Ending (Flow Exit))
    → body x (begin_frame p f args s) ≡ e → then_do e (end_call f s) ≡ (r, t) → is_wrong r ≡ false
    → Replay p (λ x. call_of p f (body x) args) x s r t
frame_replay p f args body replays x s r t (Err h, u) ends is right =
    let here : Replay p body x (begin_frame p f args s) (Err h) u =
    replays.by x (begin_frame p f args s) (Err h) u ends (ap (λ (e : Ending ℤ). is_wrong e.0) is ∙ right) in
    record {
      visits = here.visits;
      kept = here.kept;
      used = keeps_choices (begin_frame p f args) (frame_keeps p f args) s ∙ here.used
          ∙ ap (λ (e : Ending ℤ). chosen p x here.visits ++ e.1.choices) is;
      runs = λ y kept rest.
          call_again p f args (body y) s (chosen p y here.visits ++ rest) (Err h, with_choices u rest)
          (here.runs y kept rest)
          ∙ ap (λ (e : Ending ℤ). with_left rest e) is;
    }
frame_replay p f args body replays x s r t (Ok flow, u) ends is right =
    let here : Replay p body x (begin_frame p f args s) (Ok flow) u =
    replays.by x (begin_frame p f args s) (Ok flow) u ends refl in
    record {
      visits = here.visits;
      kept = here.kept;
      used = keeps_choices (begin_frame p f args) (frame_keeps p f args) s ∙ here.used
          ∙ ap (λ choices. chosen p x here.visits ++ choices)
          (ap (λ (t : State). t.choices) (sym (end_keeps f s u s.choices u.choices))
          ∙ ap (λ (e : Ending ℤ). e.1.choices) is);
      runs = λ y kept rest.
          call_again p f args (body y) s (chosen p y here.visits ++ rest) (Ok flow, with_choices u rest)
          (here.runs y kept rest)
          ∙ ap (λ (m : State). (Ok (result_of flow), m))
          (end_keeps f s u (chosen p y here.visits ++ rest) rest)
          ∙ ap (λ (e : Ending ℤ). with_left rest e) is;
    }

replays_frame : (p : Program) (f : Function) (args : List Argument) (body : Allowed → Execution)
    → Replays p body
    → Replays p (λ x. call_of p f (body x) args)
replays_frame p f args body replays = record {
  by = λ x s r t is right.
      frame_replay p f args body replays x s r t (body x (begin_frame p f args s)) refl is right;
}

module _ (p : Program) (turns : ℕ) where
  abbrev ReplaysCalls : (Allowed → Calls) → Type 0
  ReplaysCalls calls = (path : List Step) (here : StmtId) (f : FnId) (args : List Argument)
      → Replays p (λ x. calls x path here f args)

  module _ (result : Option CType) (calls : Allowed → Calls) (replays_calls : ReplaysCalls calls) where
    abbrev context : Allowed → Context
    context x = record { program = p; allowed = x; turns = turns; result = result; calls = calls x }

    -- EXPRESSIONS

    module _ (path : List Step) (here : StmtId) where
      abbrev ReplaysArg : Arg → Type 0
      ReplaysArg a = Replays p (λ x. eval_arg (context x) path here a)

      abbrev ReplaysExpr : Expr → Type 0
      ReplaysExpr e = Replays p (λ x. eval (context x) path here e)

      abbrev InnerArg : Type 0
      InnerArg = (a : Arg) × ReplaysArg a

      abbrev InnerExpr : Type 0
      InnerExpr = (e : Expr) × ReplaysExpr e

      abbrev bare_arg : Arg-F InnerArg InnerExpr → Arg-F Arg Expr
      bare_arg = map-Arg InnerArg InnerExpr Arg Expr (λ a. a.0) (λ e. e.0)

      abbrev bare_expr : Expr-F InnerArg InnerExpr → Expr-F Arg Expr
      bare_expr = map-Expr InnerArg InnerExpr Arg Expr (λ a. a.0) (λ e. e.0)

      abbrev arg_in : Allowed → Arg-F Arg Expr → Act Argument
      arg_in x a = arg_step
          (map-Arg Arg Expr (Act Argument) (Act ℤ) (eval_arg (context x) path here)
          (eval (context x) path here) a)

      abbrev expr_in : Allowed → Expr-F Arg Expr → Act ℤ
      expr_in x e = expr_step (context x) path here
          (map-Expr Arg Expr (Act Argument) (Act ℤ) (eval_arg (context x) path here)
          (eval (context x) path here) e)

      arg_form : (y : Arg-F InnerArg InnerExpr) → Replays p (λ x. arg_in x (bare_arg y))
      arg_form (Arg-F.Value value) = replays_then value.1 (λ z. replays_give (Argument.Value z))
      arg_form (Arg-F.Array array) =
          replays_steady (λ s. (Ok (Argument.Array (location_of s array)), s)) (λ s choices. refl)

      expr_form : (y : Expr-F InnerArg InnerExpr) → Replays p (λ x. expr_in x (bare_expr y))
      expr_form (Expr-F.Const t value) = replays_give value
      expr_form (Expr-F.Var var) = replays_steady (λ s. (Ok (value_at s var), s)) (λ s choices. refl)
      expr_form (Expr-F.Element array index) = replays_then index.value.1
          (λ i. replays_steady (λ s. or_trap here (element_at s array i) s) (element_steady here array i))
      expr_form (Expr-F.Unary op t a) = replays_then a.value.1 (λ z. replays_give (value_of_one op t z))
      expr_form (Expr-F.Binary op t a b) = replays_then a.value.1 (λ y. replays_then b.value.1
          (λ z. replays_steady (or_trap here (value_of op t y z)) (trap_steady here (value_of op t y z))))
      expr_form (Expr-F.AndAlso a b) = replays_then a.value.1
          (replays_fork (replays_then b.value.1 (λ z. replays_give (truth_of z))) (replays_give (pos 0)))
      expr_form (Expr-F.OrElse a b) = replays_then a.value.1
          (replays_fork (replays_give (pos 1)) (replays_then b.value.1 (λ z. replays_give (truth_of z))))
      expr_form (Expr-F.Select t when a b) = replays_then when.value.1 (replays_fork a.value.1 b.value.1)
      expr_form (Expr-F.Convert t a) = replays_then a.value.1 (λ z. replays_give (converted t z))
      expr_form (Expr-F.Call call function args) = replays_then
          (replays_each_of (λ x. eval_arg (context x) path here) (λ a. a.0) (λ a. a.1) args.items)
          (replays_calls (Call call ∷ path) here function)

      arg_layer : (y : Arg-F InnerArg InnerExpr) → ReplaysArg (roll-Arg (bare_arg y))
      unfolding eval eval_arg
      arg_layer y = replays_as
          (λ x. fold-roll-Arg (Act Argument) (Act ℤ) arg_step (expr_step (context x) path here) (bare_arg y))
          (arg_form y)

      expr_layer : (y : Expr-F InnerArg InnerExpr) → ReplaysExpr (roll-Expr (bare_expr y))
      unfolding eval eval_arg
      expr_layer y = replays_as
          (λ x. fold-roll-Expr (Act Argument) (Act ℤ) arg_step (expr_step (context x) path here)
          (bare_expr y)) (expr_form y)

      replays_eval : (e : Expr) → ReplaysExpr e
      replays_eval = ind-Expr ReplaysArg ReplaysExpr
          (λ a y is. subst (λ a. ReplaysArg (roll-Arg a)) is (arg_layer y))
          (λ e y is. subst (λ e. ReplaysExpr (roll-Expr e)) is (expr_layer y))

      replays_eval_arg : (a : Arg) → ReplaysArg a
      replays_eval_arg = ind-Arg ReplaysArg ReplaysExpr
          (λ a y is. subst (λ a. ReplaysArg (roll-Arg a)) is (arg_layer y))
          (λ e y is. subst (λ e. ReplaysExpr (roll-Expr e)) is (expr_layer y))

      -- what is evaluated in a statement, as written or as the choice says

      replays_value : (t : CType) (value : Expr) → Replays p (λ x. given_value (context x) path here t value)
      unfolding given_value
      replays_value t value = replays_choice path here (λ s. one_value t) (replays_eval value)

      replays_condition : (when : Expr) → Replays p (λ x. condition (context x) path here when)
      unfolding condition
      replays_condition when = replays_choice path here (λ s. one_truth) (replays_eval when)

      replays_elements : (array : VarId) (values : List Expr)
          → Replays p (λ x. given_elements (context x) path here array values)
      unfolding given_elements
      replays_elements array values = replays_choice path here
          (λ s. all_elements (type_of p array) (length (elements_of s array)))
          (replays_each replays_eval values)

      replays_element : (array : VarId) (index value : Expr)
          → Replays p (λ x. given_element (context x) path here array index value)
      unfolding given_element
      replays_element array index value = replays_choice path here
          (λ s. one_element (type_of p array) (length (elements_of s array)))
          (replays_then (replays_eval index)
          (λ i. replays_then (replays_eval value) (λ z. replays_give (i, z))))

      replays_call : (call : CallId) (function : FnId) (args : List Arg)
          → Replays p (λ x. call_effect (context x) path here call function args)
      unfolding call_effect
      replays_call call function args = replays_choice path here (λ s. no_value) (replays_then
          (replays_then (replays_each replays_eval_arg args)
          (replays_calls (Call call ∷ path) here function)) (λ z. replays_give tt))

      replays_print : (args : List Expr) → Replays p (λ x. print_effect (context x) path here args)
      unfolding print_effect
      replays_print args =
          replays_choice path here (λ s. no_value)
          (replays_then (replays_each replays_eval args) (λ zs. replays_give tt))

    -- LOOPS

    replays_turn : {body step : Allowed → List Step → Execution}
        → ((path : List Step) → Replays p (λ x. body x path))
        → ((path : List Step) → Replays p (λ x. step x path)) → (path : List Step)
        → Replays p (λ x. turn_of (body x) (step x) path)
    replays_turn bodies steps path =
        replays_then (bodies path) (λ flow. replays_after (steps path) (flow_after_body flow))

    replays_for : (path : List Step) (here : StmtId) (when : Expr)
        (body step : Allowed → List Step → Execution)
        → ((path : List Step) → Replays p (λ x. body x path))
        → ((path : List Step) → Replays p (λ x. step x path))
        → Replays p (λ x. for_loop (context x) path here when (body x) (step x))
    unfolding for_loop
    replays_for path here when body step bodies steps = replays_then
        (replays_rounds (λ k. replays_condition (in_turn here k path) here when)
        (λ k. replays_turn bodies steps (in_turn here k path)) (replays_halt (Beyond here)) turns 1)
        (λ flow. replays_give (flow_after_loop flow))

    replays_behind : {test : Allowed → ℕ → Act ℤ} → ((k : ℕ) → Replays p (λ x. test x k))
        → (k : ℕ) → Replays p (λ x. test_behind (test x) k)
    replays_behind tests zero = replays_give (pos 1)
    replays_behind tests (suc k) = tests (suc k)

    replays_do : (path : List Step) (here : StmtId) (when : Expr) (body : Allowed → List Step → Execution)
        → ((path : List Step) → Replays p (λ x. body x path))
        → Replays p (λ x. do_loop (context x) path here when (body x))
    unfolding do_loop
    replays_do path here when body bodies = replays_then
        (replays_rounds (replays_behind (λ k. replays_condition (in_turn here k path) here when))
        (λ k. replays_turn bodies (λ inside. replays_give Next) (in_turn here (k + 1) path))
        (replays_halt (Beyond here)) turns 0)
        (λ flow. replays_give (flow_after_loop flow))

    -- STATEMENTS

    abbrev ReplaysStmt : Stmt → Type 0
    ReplaysStmt s = (path : List Step) → Replays p (λ x. exec (context x) s path)

    abbrev InnerStmt : Type 0
    InnerStmt = (s : Stmt) × ReplaysStmt s

    abbrev bare_stmt : Stmt-F InnerStmt → Stmt-F Stmt
    bare_stmt = map-Stmt InnerStmt Stmt (λ s. s.0)

    abbrev stmt_in : Allowed → Stmt-F Stmt → List Step → Execution
    stmt_in x s = stmt_step (context x) (map-Stmt Stmt (List Step → Execution) (exec (context x)) s)

    inner_stmts : (path : List Step) (stmts : List InnerStmt)
        → Replays p (λ x. stmts_in_order path (map (exec (context x)) (map (λ s. s.0) stmts)))
    inner_stmts = replays_stmts_of (λ x. exec (context x)) (λ s. s.0) (λ s. s.1)

    -- what is executed of a body, after so many statements, or from a label on
    inner_behind : (path : List Step) (at : ℕ) (stmts : List InnerStmt)
        → Replays p (λ x. stmts_in_order path (drop at (map (exec (context x)) (map (λ s. s.0) stmts))))
    inner_behind path zero stmts = inner_stmts path stmts
    inner_behind path (suc at) [] = inner_stmts path []
    inner_behind path (suc at) (s ∷ stmts) = inner_behind path at stmts

    inner_entered : (path : List Step) (label : Option ℕ) (stmts : List InnerStmt)
        → Replays p (λ x. stmts_in_order path (entered label (map (exec (context x)) (map (λ s. s.0) stmts))))
    inner_entered path None stmts = inner_stmts path []
    inner_entered path (Some at) stmts = inner_behind path at stmts

    stmt_form : (y : Stmt-F InnerStmt) (path : List Step) → Replays p (λ x. stmt_in x (bare_stmt y) path)
    stmt_form (Stmt-F.Block body) path = inner_stmts path body.items
    stmt_form (Stmt-F.Declare var) path =
        replays_from (declare (variable_of p var).shape var) (declare_keeps (variable_of p var).shape var)
        (replays_give Next)
    stmt_form (Stmt-F.Init here var value) path = replays_then (replays_value path here (type_of p var) value)
        (λ z. replays_steady (set_value var z) (λ s choices. refl))
    stmt_form (Stmt-F.InitArray here array values) path =
        replays_then (replays_elements path here array values.items)
        (λ zs. replays_steady (set_elements array zs) (λ s choices. refl))
    stmt_form (Stmt-F.Assign here var value) path =
        replays_then (replays_value path here (type_of p var) value)
        (λ z. replays_steady (set_value var z) (λ s choices. refl))
    stmt_form (Stmt-F.Store here array index value) path =
        replays_then (replays_element path here array index value)
        (λ e. replays_steady (set_element here array e) (set_element_steady here array e))
    stmt_form (Stmt-F.If here when a None) path =
        replays_then (replays_condition path here when) (replays_fork (a.value.1 path) (replays_give Next))
    stmt_form (Stmt-F.If here when a (Some b)) path =
        replays_then (replays_condition path here when) (replays_fork (a.value.1 path) (b.value.1 path))
    stmt_form (Stmt-F.Switch here t on starts other body) path = replays_then (replays_value path here t on)
        (λ z. replays_then (inner_entered path (label_at starts.items z other) body.items)
        (λ flow. replays_give (flow_after_loop flow)))
    stmt_form (Stmt-F.While here when body) path =
        replays_for path here when (λ x. exec (context x) body.value.0) (λ x. no_step) body.value.1
        (λ inside. replays_give Next)
    stmt_form (Stmt-F.DoWhile here when body) path =
        replays_do path here when (λ x. exec (context x) body.value.0) body.value.1
    stmt_form (Stmt-F.For here front when step body) path = replays_then (inner_stmts path front.items)
        (replays_after (replays_for path here when (λ x. exec (context x) body.value.0)
        (λ x inside. stmts_in_order inside (map (exec (context x)) (map (λ s. s.0) step.items)))
        body.value.1 (λ inside. inner_stmts inside step.items)))
    stmt_form Stmt-F.Break path = replays_give (Leaves Break)
    stmt_form Stmt-F.Continue path = replays_give (Leaves Continue)
    stmt_form (Stmt-F.Return here value) path =
        replays_then (replays_value path here (unwrap_or result I32) value)
        (λ z. replays_give (Leaves (Return z)))
    stmt_form Stmt-F.ReturnNone path = replays_give (Leaves (Return (pos 0)))
    stmt_form (Stmt-F.CallStmt here call function args) path =
        replays_then (replays_call path here call function args.items) (λ a. replays_give Next)
    stmt_form (Stmt-F.Print here args) path =
        replays_then (replays_print path here args.items) (λ a. replays_give Next)
    stmt_form (Stmt-F.Assert here when) path =
        replays_then (replays_eval path here when)
        (replays_fork (replays_give Next) (replays_halt (AssertFails here)))

    stmt_layer : (y : Stmt-F InnerStmt) → ReplaysStmt (roll-Stmt (bare_stmt y))
    unfolding exec
    stmt_layer y path = replays_as (λ x. ap (λ (f : List Step → Execution). f path)
        (fold-roll-Stmt (List Step → Execution) (stmt_step (context x)) (bare_stmt y))) (stmt_form y path)

    replays_exec : (s : Stmt) → ReplaysStmt s
    replays_exec = ind-Stmt ReplaysStmt (λ s y is. subst (λ s. ReplaysStmt (roll-Stmt s)) is (stmt_layer y))

    replays_exec_all : (path : List Step) (body : List Stmt) → Replays p (λ x. exec_all (context x) path body)
    unfolding exec_all
    replays_exec_all path body = replays_stmts replays_exec path body

  -- RUNS

  replays_call_at : (frames : ℕ) → ReplaysCalls (λ x. call_at p x turns frames)
  unfolding call_at
  replays_call_at zero path here f args = replays_halt (Beyond here)
  replays_call_at (suc frames) path here f args = replays_frame p (function_of p f) args
      (λ x. exec_all (context_in p x turns (function_of p f) (call_at p x turns frames)) path
      (function_of p f).body)
      (replays_exec_all (function_of p f).result (λ x. call_at p x turns frames) (replays_call_at frames)
      path (function_of p f).body)

  pub replays_main : (frames : ℕ) (input : Input)
      → Replays p (λ x. run_main (context_in p x turns (main_of p) (call_at p x turns frames)) input)
  unfolding run_main
  replays_main frames input =
      let all = replays_exec_all (main_of p).result (λ x. call_at p x turns frames) (replays_call_at frames)
      [] in
      replays_then (all p.inits)
      (replays_after (replays_from (enter_main p input) (main_keeps p input) (all (main_of p).body)))
