-- Expressions, statements, calls and whole runs make no choices if nothing may be relaxed.
use Rattle.std.proofs.Common.{◌≡◌, ◌≢◌, suc, zero, ℕ, ◌+◌, ◌-◌, ℤ, pos, Bool, true, false, Option, None, Some, Ok, Err, List, [], ◌∷◌, map, refl, sym, ◌∙◌, ap, subst}
use Rattle.std.specs.Prelude.{cond, drop, length, slice_set, unsigned_abs, unwrap_or}
use Rattle.ba_numbers.specs.Numbers.{value_of, value_of_one, converted}
use Rattle.ba_numbers.specs.declared.ids.StmtId.{StmtId}
use Rattle.ba_numbers.specs.declared.ids.VarId.{VarId}
use Rattle.ba_numbers.specs.declared.ids.FnId.{FnId}
use Rattle.ba_numbers.specs.declared.ids.CallId.{CallId}
use Rattle.ba_numbers.specs.declared.numbers.CType.{CType}
use Rattle.ba_numbers.specs.declared.numbers.CType.TheVariants.{I32}
use Rattle.ba_choices.specs.declared.Choice.{Choice}
use Rattle.ba_tree.specs.Acts.{then_do, flow_after_body, flow_after_loop}
use Rattle.ba_tree.specs.State.{State, Act, Ending, Execution, value_at, elements_of, element_at, with_elements, is_index}
use Rattle.ba_tree.specs.Choices.{one_value, one_truth, all_elements, one_element, no_value}
use Rattle.ba_tree.specs.Meaning.{Calls, Context, variable_of, type_of, eval, eval_arg, exec, exec_all, arg_step, expr_step, stmt_step, or_trap, or_trapped, truth_of, given_value, given_elements, given_element, condition, call_effect, print_effect, set_element, declare, in_turn, turn_of, no_step, for_loop, do_loop, test_behind, label_at, entered, stmts_in_order}
use Rattle.ba_tree.specs.declared.run.Allowed.TheVariants.{Statements}
use Rattle.ba_tree.specs.declared.run.Argument.{Argument}
use Rattle.ba_tree.specs.declared.run.Bounds.{Bounds}
use Rattle.ba_tree.specs.declared.run.Exit.{Exit}
use Rattle.ba_tree.specs.declared.run.Exit.TheVariants.{Break, Continue, Return}
use Rattle.ba_tree.specs.declared.run.Flow.{Flow}
use Rattle.ba_tree.specs.declared.run.Flow.TheVariants.{Next, Leaves}
use Rattle.ba_tree.specs.declared.run.Halt.{Halt}
use Rattle.ba_tree.specs.declared.run.Halt.TheVariants as halt
use Rattle.ba_tree.specs.declared.run.Input.{Input}
use Rattle.ba_tree.specs.declared.run.Outcome.{Outcome}
use Rattle.ba_tree.specs.declared.run.Outcome.TheVariants.{Done, WrongChoices}
use Rattle.ba_tree.specs.declared.run.Step.{Step}
use Rattle.ba_tree.specs.declared.run.Step.TheVariants.{Call}
use Rattle.ba_tree.specs.declared.tree.Arg.{Arg}
use Rattle.ba_tree.specs.declared.tree.Arg.TheOpen.{Arg-F, Expr-F}
use Rattle.ba_tree.specs.declared.tree.Arg.TheFolds.{fold-roll-Arg, fold-roll-Expr, ind-Expr, ind-Arg, map-Arg, map-Expr}
use Rattle.ba_tree.specs.declared.tree.Arg.TheViews.{roll-Arg, roll-Expr}
use Rattle.ba_tree.specs.declared.tree.Expr.{Expr}
use Rattle.ba_tree.specs.declared.tree.Program.{Program}
use Rattle.ba_tree.specs.declared.tree.Stmt.{Stmt}
use Rattle.ba_tree.specs.declared.tree.Stmt.TheOpen.{Stmt-F}
use Rattle.ba_tree.specs.declared.tree.Stmt.TheFolds.{fold-roll-Stmt, ind-Stmt, map-Stmt}
use Rattle.ba_tree.specs.declared.tree.Stmt.TheViews.{roll-Stmt}
use Rattle.ba_tree.specs.declared.tree.Function.{Function}
use Rattle.ba_tree.specs.Run.{begin_frame, start_of, end_frame, result_of, call_of, function_of, context_in, context_of, call_at, main_of, enter_main, run_main, run_of, plain_run, outcome_of, if_none_left, outcome_of_halt}
use Rattle.ba_laws.proofs.Keeps.{keeps_choices, declare_keeps, frame_keeps, end_keeps, main_keeps, start_keeps}
use Rattle.ba_laws.proofs.Replays.{is_wrong, is_wrong_halt}
use Rattle.ba_laws.proofs.Plain.{MakesNone, none_as, none_give, none_halt, none_from, none_then, none_fork, none_each, none_each_of, none_after, none_stmts, none_stmts_of, none_rounds, none_choice}

-- LEAVES

none_value : (var : VarId) → MakesNone (λ s. (Ok (value_at s var), s))
none_value var = record { right = λ s. refl; keeps = λ s. refl }

none_trap : (here : StmtId) (z : Option ℤ) → MakesNone (or_trap here z)
none_trap here None = none_halt (halt.Trap here) refl
none_trap here (Some z) = none_give z

none_element : (here : StmtId) (v : VarId) (z : ℤ) → MakesNone (λ s. or_trap here (element_at s v z) s)
none_element here v z = record {
  right = λ s. (none_trap here (element_at s v z)).right s;
  keeps = λ s. (none_trap here (element_at s v z)).keeps s;
}

-- a store, whose index may be inside the array or not
abbrev stored : StmtId → VarId → ℤ → ℤ → State → Bool → Ending (Flow Exit)
stored here v z y s b = or_trapped here (cond b (Some (with_elements s v
    (slice_set (elements_of s v) (unsigned_abs z) y))) None) s

none_store : (here : StmtId) (v : VarId) (e : ℤ × ℤ) → MakesNone (set_element here v e)
none_store here v (z, y) = record {
  right = λ s. right s (is_index (length (elements_of s v)) z);
  keeps = λ s. keeps s (is_index (length (elements_of s v)) z);
} where
  right : (s : State) (b : Bool) → is_wrong (stored here v z y s b).0 ≡ false
  right s true = refl
  right s false = refl

  keeps : (s : State) (b : Bool) → (stored here v z y s b).1.choices ≡ s.choices
  keeps s true = refl
  keeps s false = refl

none_set : (h : State → State) → ((s : State) → (h s).choices ≡ s.choices)
    → MakesNone {A = Flow Exit} (λ s. (Ok Next, h s))
none_set h keeps = record { right = λ s. refl; keeps = keeps }

-- CALLS

-- the end of a frame, whose choices are those that its body left
end_call_keeps : (f : Function) (before : State) (e : Ending (Flow Exit)) (s : State)
    → e.1.choices ≡ s.choices
    → (then_do e (λ flow t. (Ok (result_of flow), end_frame f before t))).1.choices ≡ s.choices
end_call_keeps f before (Ok flow, t) s kept =
    ap (λ (u : State). u.choices) (end_keeps f before t before.choices t.choices) ∙ kept
end_call_keeps f before (Err h, t) s kept = kept

end_call_right : (f : Function) (before : State) (e : Ending (Flow Exit)) → is_wrong e.0 ≡ false
    → is_wrong (then_do e (λ flow t. (Ok (result_of flow), end_frame f before t))).0 ≡ false
end_call_right f before (Ok flow, t) right = refl
end_call_right f before (Err h, t) right = right

none_frame : (p : Program) (f : Function) (args : List Argument) (body : Execution) → MakesNone body
    → MakesNone (call_of p f body args)
none_frame p f args body none = record {
  right = λ s. end_call_right f s (body (begin_frame p f args s)) (none.right (begin_frame p f args s));
  keeps = λ s. end_call_keeps f s (body (begin_frame p f args s)) s
      (none.keeps (begin_frame p f args s)
      ∙ sym (keeps_choices (begin_frame p f args) (frame_keeps p f args) s));
}

module _ (p : Program) (turns : ℕ) where
  abbrev CallsMakeNone : Calls → Type 0
  CallsMakeNone calls = (path : List Step) (here : StmtId) (f : FnId) (args : List Argument)
      → MakesNone (calls path here f args)

  module _ (result : Option CType) (calls : Calls) (none_calls : CallsMakeNone calls) where
    abbrev x : Context
    x = record { program = p; allowed = Statements []; turns = turns; result = result; calls = calls }

    -- EXPRESSIONS

    module _ (path : List Step) (here : StmtId) where
      abbrev NoneArg : Arg → Type 0
      NoneArg a = MakesNone (eval_arg x path here a)

      abbrev NoneExpr : Expr → Type 0
      NoneExpr e = MakesNone (eval x path here e)

      abbrev InnerArg : Type 0
      InnerArg = (a : Arg) × NoneArg a

      abbrev InnerExpr : Type 0
      InnerExpr = (e : Expr) × NoneExpr e

      abbrev bare_arg : Arg-F InnerArg InnerExpr → Arg-F Arg Expr
      bare_arg = map-Arg InnerArg InnerExpr Arg Expr (λ a. a.0) (λ e. e.0)

      abbrev bare_expr : Expr-F InnerArg InnerExpr → Expr-F Arg Expr
      bare_expr = map-Expr InnerArg InnerExpr Arg Expr (λ a. a.0) (λ e. e.0)

      arg_form : (y : Arg-F InnerArg InnerExpr) → MakesNone (arg_step
          (map-Arg Arg Expr (Act Argument) (Act ℤ) (eval_arg x path here) (eval x path here) (bare_arg y)))
      arg_form (Arg-F.Value value) = none_then value.1 (λ z. none_give (Argument.Value z))
      arg_form (Arg-F.Array array) = record { right = λ s. refl; keeps = λ s. refl }

      expr_form : (y : Expr-F InnerArg InnerExpr) → MakesNone (expr_step x path here
          (map-Expr Arg Expr (Act Argument) (Act ℤ) (eval_arg x path here) (eval x path here) (bare_expr y)))
      expr_form (Expr-F.Const t value) = none_give value
      expr_form (Expr-F.Var var) = none_value var
      expr_form (Expr-F.Element array index) = none_then index.value.1 (λ i. none_element here array i)
      expr_form (Expr-F.Unary op t a) = none_then a.value.1 (λ z. none_give (value_of_one op t z))
      expr_form (Expr-F.Binary op t a b) = none_then a.value.1
          (λ y. none_then b.value.1 (λ z. none_trap here (value_of op t y z)))
      expr_form (Expr-F.AndAlso a b) = none_then a.value.1
          (none_fork (none_then b.value.1 (λ z. none_give (truth_of z))) (none_give (pos 0)))
      expr_form (Expr-F.OrElse a b) = none_then a.value.1
          (none_fork (none_give (pos 1)) (none_then b.value.1 (λ z. none_give (truth_of z))))
      expr_form (Expr-F.Select t when a b) = none_then when.value.1 (none_fork a.value.1 b.value.1)
      expr_form (Expr-F.Convert t a) = none_then a.value.1 (λ z. none_give (converted t z))
      expr_form (Expr-F.Call call function args) = none_then
          (none_each_of (eval_arg x path here) (λ a. a.0) (λ a. a.1) args.items)
          (none_calls (Call call ∷ path) here function)

      arg_layer : (y : Arg-F InnerArg InnerExpr) → NoneArg (roll-Arg (bare_arg y))
      unfolding eval eval_arg
      arg_layer y = none_as
          (fold-roll-Arg (Act Argument) (Act ℤ) arg_step (expr_step x path here) (bare_arg y)) (arg_form y)

      expr_layer : (y : Expr-F InnerArg InnerExpr) → NoneExpr (roll-Expr (bare_expr y))
      unfolding eval eval_arg
      expr_layer y = none_as
          (fold-roll-Expr (Act Argument) (Act ℤ) arg_step (expr_step x path here) (bare_expr y)) (expr_form y)

      none_eval : (e : Expr) → NoneExpr e
      none_eval = ind-Expr NoneArg NoneExpr
          (λ a y is. subst (λ a. NoneArg (roll-Arg a)) is (arg_layer y))
          (λ e y is. subst (λ e. NoneExpr (roll-Expr e)) is (expr_layer y))

      none_eval_arg : (a : Arg) → NoneArg a
      none_eval_arg = ind-Arg NoneArg NoneExpr
          (λ a y is. subst (λ a. NoneArg (roll-Arg a)) is (arg_layer y))
          (λ e y is. subst (λ e. NoneExpr (roll-Expr e)) is (expr_layer y))

      -- what is evaluated in a statement

      none_given : (t : CType) (value : Expr) → MakesNone (given_value x path here t value)
      unfolding given_value
      none_given t value = none_choice p path here (λ s. one_value t) (none_eval value)

      none_condition : (when : Expr) → MakesNone (condition x path here when)
      unfolding condition
      none_condition when = none_choice p path here (λ s. one_truth) (none_eval when)

      none_elements : (array : VarId) (values : List Expr)
          → MakesNone (given_elements x path here array values)
      unfolding given_elements
      none_elements array values = none_choice p path here
          (λ s. all_elements (type_of p array) (length (elements_of s array))) (none_each none_eval values)

      none_pair : (array : VarId) (index value : Expr)
          → MakesNone (given_element x path here array index value)
      unfolding given_element
      none_pair array index value = none_choice p path here
          (λ s. one_element (type_of p array) (length (elements_of s array)))
          (none_then (none_eval index) (λ i. none_then (none_eval value) (λ z. none_give (i, z))))

      none_call : (call : CallId) (function : FnId) (args : List Arg)
          → MakesNone (call_effect x path here call function args)
      unfolding call_effect
      none_call call function args = none_choice p path here (λ s. no_value) (none_then
          (none_then (none_each none_eval_arg args) (none_calls (Call call ∷ path) here function))
          (λ z. none_give tt))

      none_print : (args : List Expr) → MakesNone (print_effect x path here args)
      unfolding print_effect
      none_print args = none_choice p path here (λ s. no_value)
          (none_then (none_each none_eval args) (λ zs. none_give tt))

    -- LOOPS

    none_turn : {body step : List Step → Execution} → ((path : List Step) → MakesNone (body path))
        → ((path : List Step) → MakesNone (step path)) → (path : List Step)
        → MakesNone (turn_of body step path)
    none_turn bodies steps path =
        none_then (bodies path) (λ flow. none_after (steps path) (flow_after_body flow))

    none_for : (path : List Step) (here : StmtId) (when : Expr) (body step : List Step → Execution)
        → ((path : List Step) → MakesNone (body path)) → ((path : List Step) → MakesNone (step path))
        → MakesNone (for_loop x path here when body step)
    unfolding for_loop
    none_for path here when body step bodies steps = none_then
        (none_rounds (λ k. none_condition (in_turn here k path) here when)
        (λ k. none_turn bodies steps (in_turn here k path)) (none_halt (halt.Beyond here) refl) turns 1)
        (λ flow. none_give (flow_after_loop flow))

    none_behind : {test : ℕ → Act ℤ} → ((k : ℕ) → MakesNone (test k))
        → (k : ℕ) → MakesNone (test_behind test k)
    none_behind tests zero = none_give (pos 1)
    none_behind tests (suc k) = tests (suc k)

    none_do : (path : List Step) (here : StmtId) (when : Expr) (body : List Step → Execution)
        → ((path : List Step) → MakesNone (body path)) → MakesNone (do_loop x path here when body)
    unfolding do_loop
    none_do path here when body bodies = none_then
        (none_rounds (none_behind (λ k. none_condition (in_turn here k path) here when))
        (λ k. none_turn bodies (λ inside. none_give Next) (in_turn here (k + 1) path))
        (none_halt (halt.Beyond here) refl) turns 0)
        (λ flow. none_give (flow_after_loop flow))

    -- STATEMENTS

    abbrev NoneStmt : Stmt → Type 0
    NoneStmt s = (path : List Step) → MakesNone (exec x s path)

    abbrev InnerStmt : Type 0
    InnerStmt = (s : Stmt) × NoneStmt s

    abbrev bare_stmt : Stmt-F InnerStmt → Stmt-F Stmt
    bare_stmt = map-Stmt InnerStmt Stmt (λ s. s.0)

    inner_stmts : (path : List Step) (stmts : List InnerStmt)
        → MakesNone (stmts_in_order path (map (exec x) (map (λ s. s.0) stmts)))
    inner_stmts = none_stmts_of (exec x) (λ s. s.0) (λ s. s.1)

    -- what is executed of a body, after so many statements, or from a label on
    inner_behind : (path : List Step) (at : ℕ) (stmts : List InnerStmt)
        → MakesNone (stmts_in_order path (drop at (map (exec x) (map (λ s. s.0) stmts))))
    inner_behind path zero stmts = inner_stmts path stmts
    inner_behind path (suc at) [] = inner_stmts path []
    inner_behind path (suc at) (s ∷ stmts) = inner_behind path at stmts

    inner_entered : (path : List Step) (label : Option ℕ) (stmts : List InnerStmt)
        → MakesNone (stmts_in_order path (entered label (map (exec x) (map (λ s. s.0) stmts))))
    inner_entered path None stmts = inner_stmts path []
    inner_entered path (Some at) stmts = inner_behind path at stmts

    stmt_form : (y : Stmt-F InnerStmt) (path : List Step)
        → MakesNone (stmt_step x (map-Stmt Stmt (List Step → Execution) (exec x) (bare_stmt y)) path)
    stmt_form (Stmt-F.Block body) path = inner_stmts path body.items
    stmt_form (Stmt-F.Declare var) path =
        none_from (declare (variable_of p var).shape var) (declare_keeps (variable_of p var).shape var)
        (none_give Next)
    stmt_form (Stmt-F.Init here var value) path =
        none_then (none_given path here (type_of p var) value) (λ z. none_set _ (λ s. refl))
    stmt_form (Stmt-F.InitArray here array values) path =
        none_then (none_elements path here array values.items) (λ zs. none_set _ (λ s. refl))
    stmt_form (Stmt-F.Assign here var value) path =
        none_then (none_given path here (type_of p var) value) (λ z. none_set _ (λ s. refl))
    stmt_form (Stmt-F.Store here array index value) path =
        none_then (none_pair path here array index value) (λ e. none_store here array e)
    stmt_form (Stmt-F.If here when a None) path =
        none_then (none_condition path here when) (none_fork (a.value.1 path) (none_give Next))
    stmt_form (Stmt-F.If here when a (Some b)) path =
        none_then (none_condition path here when) (none_fork (a.value.1 path) (b.value.1 path))
    stmt_form (Stmt-F.Switch here t on starts other body) path = none_then (none_given path here t on)
        (λ z. none_then (inner_entered path (label_at starts.items z other) body.items)
        (λ flow. none_give (flow_after_loop flow)))
    stmt_form (Stmt-F.While here when body) path =
        none_for path here when (exec x body.value.0) no_step body.value.1 (λ inside. none_give Next)
    stmt_form (Stmt-F.DoWhile here when body) path =
        none_do path here when (exec x body.value.0) body.value.1
    stmt_form (Stmt-F.For here front when step body) path = none_then (inner_stmts path front.items)
        (none_after (none_for path here when (exec x body.value.0)
        (λ inside. stmts_in_order inside (map (exec x) (map (λ s. s.0) step.items)))
        body.value.1 (λ inside. inner_stmts inside step.items)))
    stmt_form Stmt-F.Break path = none_give (Leaves Break)
    stmt_form Stmt-F.Continue path = none_give (Leaves Continue)
    stmt_form (Stmt-F.Return here value) path =
        none_then (none_given path here (unwrap_or result I32) value)
        (λ z. none_give (Leaves (Return z)))
    stmt_form Stmt-F.ReturnNone path = none_give (Leaves (Return (pos 0)))
    stmt_form (Stmt-F.CallStmt here call function args) path =
        none_then (none_call path here call function args.items) (λ a. none_give Next)
    stmt_form (Stmt-F.Print here args) path =
        none_then (none_print path here args.items) (λ a. none_give Next)
    stmt_form (Stmt-F.Assert here when) path =
        none_then (none_eval path here when)
        (none_fork (none_give Next) (none_halt (halt.AssertFails here) refl))

    stmt_layer : (y : Stmt-F InnerStmt) → NoneStmt (roll-Stmt (bare_stmt y))
    unfolding exec
    stmt_layer y path = none_as (ap (λ (f : List Step → Execution). f path)
        (fold-roll-Stmt (List Step → Execution) (stmt_step x) (bare_stmt y))) (stmt_form y path)

    none_exec : (s : Stmt) → NoneStmt s
    none_exec = ind-Stmt NoneStmt (λ s y is. subst (λ s. NoneStmt (roll-Stmt s)) is (stmt_layer y))

    none_exec_all : (path : List Step) (body : List Stmt) → MakesNone (exec_all x path body)
    unfolding exec_all
    none_exec_all path body = none_stmts none_exec path body

  -- RUNS

  abbrev plain_calls : ℕ → Calls
  plain_calls frames = call_at p (Statements []) turns frames

  abbrev plain : Function → ℕ → Context
  plain f frames = context_in p (Statements []) turns f (plain_calls frames)

  none_call_at : (frames : ℕ) → CallsMakeNone (plain_calls frames)
  unfolding call_at
  none_call_at zero path here f args = none_halt (halt.Beyond here) refl
  none_call_at (suc frames) path here f args = none_frame p (function_of p f) args
      (exec_all (plain (function_of p f) frames) path (function_of p f).body)
      (none_exec_all (function_of p f).result (plain_calls frames) (none_call_at frames) path
      (function_of p f).body)

  none_main : (frames : ℕ) (input : Input) → MakesNone (run_main (plain (main_of p) frames) input)
  unfolding run_main
  none_main frames input =
      let all = none_exec_all (main_of p).result (plain_calls frames) (none_call_at frames) [] in
      none_then (all p.inits)
      (none_after (none_from (enter_main p input) (main_keeps p input) (all (main_of p).body)))

-- the outcome of a run at whose end no choices are left, and which no wrong ones ended
none_left : (choices : List Choice) (o : Outcome) → choices ≡ [] → if_none_left choices o ≡ o
none_left choices o none = ap (λ choices. if_none_left choices o) none

right_halt : (h : Halt) → is_wrong_halt h ≡ false → outcome_of_halt h ≢ WrongChoices
right_halt (halt.AssertFails here) right is = cc
right_halt (halt.Trap here) right is = cc
right_halt (halt.Beyond here) right is = cc
right_halt halt.WrongChoices right is = cc

right_end : (e : Ending (Flow Exit)) → is_wrong e.0 ≡ false → e.1.choices ≡ [] → outcome_of e ≢ WrongChoices
right_end (Ok flow, s) right none is = not_done (sym (none_left s.choices Done none) ∙ is) where
  not_done : Done ≡ WrongChoices → ⊥
  not_done done = cc
right_end (Err h, s) right none is =
    right_halt h right (sym (none_left s.choices (outcome_of_halt h) none) ∙ is)

pub plain_right : (p : Program) (i : Input) (b : Bounds) → plain_run p i b ≢ WrongChoices
unfolding run_of
plain_right p i b =
    let none = none_main p b.turns (b.frames - 1) i in
    right_end (run_main (context_of p b (Statements [])) i (start_of p []))
    (none.right (start_of p []))
    (none.keeps (start_of p []) ∙ ap (λ (s : State). s.choices) (start_keeps p []))
