-- Expressions, statements, calls and whole runs name statements of the program alone.
use Rattle.std.proofs.Common.{◌≡◌, suc, zero, ℕ, ◌+◌, ◌-◌, ◌<◌, nat_le, nat_lt, ◌==◌, ◌&&◌, ℤ, pos, Bool, true, false, Option, None, Some, Ok, Err, List, [], ◌∷◌, ◌++◌, map, get_or, refl, ◌∙◌, ap, subst, arith}
use Rattle.std.specs.Prelude.{cond, drop, flat_map, is_some, length, slice_get, slice_set, unsigned_abs, unwrap_or}
use Rattle.std.specs.List.{list_all}
use Rattle.std.proofs.lemmas.Bool.Decides.{nat_tests}
use Rattle.std.proofs.lemmas.List.Concat.{flat_map-append}
use Rattle.ba_numbers.specs.Numbers.{value_of, value_of_one, converted}
use Rattle.ba_numbers.specs.declared.ids.StmtId.{StmtId}
use Rattle.ba_numbers.specs.declared.ids.VarId.{VarId}
use Rattle.ba_numbers.specs.declared.ids.FnId.{FnId}
use Rattle.ba_numbers.specs.declared.ids.CallId.{CallId}
use Rattle.ba_numbers.specs.declared.numbers.CType.{CType}
use Rattle.ba_numbers.specs.declared.numbers.CType.TheVariants.{I32}
use Rattle.ba_choices.specs.declared.Choice.{Choice}
use Rattle.ba_tree.specs.Acts.{then_do, flow_after_body, flow_after_loop}
use Rattle.ba_tree.specs.State.{State, Act, Ending, Execution, elements_of, element_at, with_elements, is_index}
use Rattle.ba_tree.specs.Choices.{admits, one_value, one_truth, all_elements, one_element, no_value}
use Rattle.ba_tree.specs.Facts.{StmtFacts, all_facts, all_numbers, body_facts, init_facts, stmt_facts, stmt_facts_step}
use Rattle.ba_tree.specs.Facts as facts
use Rattle.ba_tree.specs.Kept.{parts_of}
use Rattle.ba_tree.specs.Meaning.{Calls, Context, type_of, eval, eval_arg, exec, exec_all, arg_step, expr_step, stmt_step, or_trap, or_trapped, truth_of, given_value, given_elements, given_element, condition, call_effect, print_effect, set_element, in_turn, turn_of, no_step, for_loop, do_loop, test_behind, label_at, entered, stmts_in_order}
use Rattle.ba_tree.specs.Run.{begin_frame, end_frame, result_of, call_of, function_of, no_function, context_in, context_of, call_at, main_of, enter_main, start_of, run_main, run_of, outcome_of, if_none_left, outcome_of_halt}
use Rattle.ba_tree.specs.declared.run.Allowed.{Allowed}
use Rattle.ba_tree.specs.declared.run.Argument.{Argument}
use Rattle.ba_tree.specs.declared.run.Bounds.{Bounds}
use Rattle.ba_tree.specs.declared.run.Exit.{Exit}
use Rattle.ba_tree.specs.declared.run.Exit.TheVariants.{Break, Continue, Return}
use Rattle.ba_tree.specs.declared.run.Flow.{Flow}
use Rattle.ba_tree.specs.declared.run.Flow.TheVariants.{Next, Leaves}
use Rattle.ba_tree.specs.declared.run.Halt.{Halt}
use Rattle.ba_tree.specs.declared.run.Halt.TheVariants as halt
use Rattle.ba_tree.specs.declared.run.Input.{Input}
use Rattle.ba_tree.specs.declared.run.Outcome.{Outcome}
use Rattle.ba_tree.specs.declared.run.Outcome.TheVariants.{Done}
use Rattle.ba_tree.specs.declared.run.Step.{Step}
use Rattle.ba_tree.specs.declared.run.Step.TheVariants.{Call}
use Rattle.ba_tree.specs.declared.tree.Arg.{Arg}
use Rattle.ba_tree.specs.declared.tree.Arg.TheOpen.{Arg-F, Expr-F}
use Rattle.ba_tree.specs.declared.tree.Arg.TheFolds.{fold-roll-Arg, fold-roll-Expr, ind-Expr, ind-Arg, map-Arg, map-Expr}
use Rattle.ba_tree.specs.declared.tree.Arg.TheViews.{roll-Arg, roll-Expr}
use Rattle.ba_tree.specs.declared.tree.Expr.{Expr}
use Rattle.ba_tree.specs.declared.tree.Function.{Function}
use Rattle.ba_tree.specs.declared.tree.Program.{Program}
use Rattle.ba_tree.specs.declared.tree.Stmt.{Stmt}
use Rattle.ba_tree.specs.declared.tree.Stmt.TheOpen.{Stmt-F}
use Rattle.ba_tree.specs.declared.tree.Stmt.TheFolds.{fold-roll-Stmt, ind-Stmt, map-Stmt}
use Rattle.ba_tree.specs.declared.tree.Stmt.TheViews.{roll-Stmt}
use Rattle.ba_tree.specs.declared.tree.StmtInfo.{StmtInfo}
use Rattle.ba_tree.specs.declared.tree.StmtKind.{StmtKind}
use Rattle.ba_tree.proofs.Kept.{kept, stand-once}
use Rattle.ba_tree.proofs.Tests.{both}
use Rattle.ba_laws.specs.Names.{NamesStatement}
use Rattle.ba_laws.proofs.Naming.{IsStmt, IsEndOf, IsHaltOf, Names, names_as, names_give, names_halt, names_from, names_then, names_fork, names_each, names_each_of, names_after, names_rounds, names_choice}

-- NUMBERS of statements of the program

abbrev AreStmts : Program → List (StmtId × StmtKind) → Type 0
AreStmts p [] = Unit {0}
AreStmts p (n ∷ ns) = IsStmt p n.0 × AreStmts p ns

are_before : (p : Program) (ns ms : List (StmtId × StmtKind)) → AreStmts p (ns ++ ms) → AreStmts p ns
are_before p [] ms known = tt
are_before p (n ∷ ns) ms known = (known.0, are_before p ns ms known.1)

are_behind : (p : Program) (ns ms : List (StmtId × StmtKind)) → AreStmts p (ns ++ ms) → AreStmts p ms
are_behind p [] ms known = known
are_behind p (n ∷ ns) ms known = are_behind p ns ms known.1

abbrev numbers_in : List StmtFacts → List (StmtId × StmtKind)
numbers_in = flat_map (λ (s : StmtFacts). s.numbers)

-- of statements in a row the first ones, and the others
in_first : (p : Program) (ss ts : List StmtFacts) → AreStmts p (numbers_in (ss ++ ts))
    → AreStmts p (numbers_in ss)
in_first p ss ts known = are_before p (numbers_in ss) (numbers_in ts)
    (subst (AreStmts p) (flat_map-append (λ (s : StmtFacts). s.numbers) ss ts) known)

in_others : (p : Program) (ss ts : List StmtFacts) → AreStmts p (numbers_in (ss ++ ts))
    → AreStmts p (numbers_in ts)
in_others p ss ts known = are_behind p (numbers_in ss) (numbers_in ts)
    (subst (AreStmts p) (flat_map-append (λ (s : StmtFacts). s.numbers) ss ts) known)

-- LEAVES

names_trap : {p : Program} (here : StmtId) (z : Option ℤ) → IsStmt p here → Names p (or_trap here z)
names_trap here None known = names_halt (halt.Trap here) known
names_trap here (Some z) known = names_give z

names_element : {p : Program} (here : StmtId) (v : VarId) (z : ℤ) → IsStmt p here
    → Names p (λ s. or_trap here (element_at s v z) s)
names_element {p = p} here v z known = record {
  known = λ s. (names_trap {p = p} here (element_at s v z) known).known s;
}

-- a store, whose index may be inside the array or not
names_store : {p : Program} (here : StmtId) (v : VarId) (e : ℤ × ℤ) → IsStmt p here
    → Names p (set_element here v e)
names_store {p = p} here v (z, y) known = record {
  known = λ s. by s (is_index (length (elements_of s v)) z);
} where
  by : (s : State) (b : Bool) → IsEndOf p (or_trapped here (cond b (Some (with_elements s v
      (slice_set (elements_of s v) (unsigned_abs z) y))) None) s).0
  by s true = tt
  by s false = known

-- CALLS

call_known : (p : Program) (f : Function) (before : State) (e : Ending (Flow Exit)) → IsEndOf p e.0
    → IsEndOf p (then_do e (λ flow t. (Ok (result_of flow), end_frame f before t))).0
call_known p f before (Ok flow, t) known = tt
call_known p f before (Err h, t) known = known

names_frame : (p : Program) (f : Function) (args : List Argument) (body : Execution) → Names p body
    → Names p (call_of p f body args)
names_frame p f args body names = record {
  known = λ s. call_known p f s (body (begin_frame p f args s)) (names.known (begin_frame p f args s));
}

module _ (p : Program) (allowed : Allowed) (turns : ℕ) where
  abbrev NamesCalls : Calls → Type 0
  NamesCalls calls = (path : List Step) (here : StmtId) (f : FnId) (args : List Argument)
      → IsStmt p here → Names p (calls path here f args)

  module _ (result : Option CType) (calls : Calls) (names_calls : NamesCalls calls) where
    abbrev x : Context
    x = record { program = p; allowed = allowed; turns = turns; result = result; calls = calls }

    -- EXPRESSIONS

    module _ (path : List Step) (here : StmtId) (known : IsStmt p here) where
      abbrev NamesArg : Arg → Type 0
      NamesArg a = Names p (eval_arg x path here a)

      abbrev NamesExpr : Expr → Type 0
      NamesExpr e = Names p (eval x path here e)

      abbrev InnerArg : Type 0
      InnerArg = (a : Arg) × NamesArg a

      abbrev InnerExpr : Type 0
      InnerExpr = (e : Expr) × NamesExpr e

      abbrev bare_arg : Arg-F InnerArg InnerExpr → Arg-F Arg Expr
      bare_arg = map-Arg InnerArg InnerExpr Arg Expr (λ a. a.0) (λ e. e.0)

      abbrev bare_expr : Expr-F InnerArg InnerExpr → Expr-F Arg Expr
      bare_expr = map-Expr InnerArg InnerExpr Arg Expr (λ a. a.0) (λ e. e.0)

      arg_form : (y : Arg-F InnerArg InnerExpr) → Names p (arg_step
          (map-Arg Arg Expr (Act Argument) (Act ℤ) (eval_arg x path here) (eval x path here) (bare_arg y)))
      arg_form (Arg-F.Value value) = names_then value.1 (λ z. names_give (Argument.Value z))
      arg_form (Arg-F.Array array) = record { known = λ s. tt }

      expr_form : (y : Expr-F InnerArg InnerExpr) → Names p (expr_step x path here
          (map-Expr Arg Expr (Act Argument) (Act ℤ) (eval_arg x path here) (eval x path here) (bare_expr y)))
      expr_form (Expr-F.Const t value) = names_give value
      expr_form (Expr-F.Var var) = record { known = λ s. tt }
      expr_form (Expr-F.Element array index) =
          names_then index.value.1 (λ i. names_element here array i known)
      expr_form (Expr-F.Unary op t a) = names_then a.value.1 (λ z. names_give (value_of_one op t z))
      expr_form (Expr-F.Binary op t a b) = names_then a.value.1
          (λ y. names_then b.value.1 (λ z. names_trap here (value_of op t y z) known))
      expr_form (Expr-F.AndAlso a b) = names_then a.value.1
          (names_fork (names_then b.value.1 (λ z. names_give (truth_of z))) (names_give (pos 0)))
      expr_form (Expr-F.OrElse a b) = names_then a.value.1
          (names_fork (names_give (pos 1)) (names_then b.value.1 (λ z. names_give (truth_of z))))
      expr_form (Expr-F.Select t when a b) =
          names_then when.value.1 (names_fork a.value.1 b.value.1)
      expr_form (Expr-F.Convert t a) = names_then a.value.1 (λ z. names_give (converted t z))
      expr_form (Expr-F.Call call function args) = names_then
          (names_each_of (eval_arg x path here) (λ a. a.0) (λ a. a.1) args.items)
          (λ given. names_calls (Call call ∷ path) here function given known)

      arg_layer : (y : Arg-F InnerArg InnerExpr) → NamesArg (roll-Arg (bare_arg y))
      unfolding eval eval_arg
      arg_layer y = names_as
          (fold-roll-Arg (Act Argument) (Act ℤ) arg_step (expr_step x path here) (bare_arg y)) (arg_form y)

      expr_layer : (y : Expr-F InnerArg InnerExpr) → NamesExpr (roll-Expr (bare_expr y))
      unfolding eval eval_arg
      expr_layer y = names_as
          (fold-roll-Expr (Act Argument) (Act ℤ) arg_step (expr_step x path here) (bare_expr y))
          (expr_form y)

      names_eval : (e : Expr) → NamesExpr e
      names_eval = ind-Expr NamesArg NamesExpr
          (λ a y is. subst (λ a. NamesArg (roll-Arg a)) is (arg_layer y))
          (λ e y is. subst (λ e. NamesExpr (roll-Expr e)) is (expr_layer y))

      names_eval_arg : (a : Arg) → NamesArg a
      names_eval_arg = ind-Arg NamesArg NamesExpr
          (λ a y is. subst (λ a. NamesArg (roll-Arg a)) is (arg_layer y))
          (λ e y is. subst (λ e. NamesExpr (roll-Expr e)) is (expr_layer y))

      -- what is evaluated in a statement, as written or as the choice says

      names_given : (t : CType) (value : Expr) → Names p (given_value x path here t value)
      unfolding given_value
      names_given t value =
          names_choice (admits p allowed path here) (λ s. one_value t) (names_eval value)

      names_condition : (when : Expr) → Names p (condition x path here when)
      unfolding condition
      names_condition when =
          names_choice (admits p allowed path here) (λ s. one_truth) (names_eval when)

      names_elements : (array : VarId) (values : List Expr)
          → Names p (given_elements x path here array values)
      unfolding given_elements
      names_elements array values = names_choice (admits p allowed path here)
          (λ s. all_elements (type_of p array) (length (elements_of s array)))
          (names_each names_eval values)

      names_pair : (array : VarId) (index value : Expr)
          → Names p (given_element x path here array index value)
      unfolding given_element
      names_pair array index value = names_choice (admits p allowed path here)
          (λ s. one_element (type_of p array) (length (elements_of s array)))
          (names_then (names_eval index)
          (λ i. names_then (names_eval value) (λ z. names_give (i, z))))

      names_call : (call : CallId) (function : FnId) (args : List Arg)
          → Names p (call_effect x path here call function args)
      unfolding call_effect
      names_call call function args = names_choice (admits p allowed path here) (λ s. no_value)
          (names_then (names_then (names_each names_eval_arg args)
          (λ given. names_calls (Call call ∷ path) here function given known))
          (λ z. names_give tt))

      names_print : (args : List Expr) → Names p (print_effect x path here args)
      unfolding print_effect
      names_print args = names_choice (admits p allowed path here) (λ s. no_value)
          (names_then (names_each names_eval args) (λ zs. names_give tt))

    -- LOOPS

    names_turn : {body step : List Step → Execution} → ((path : List Step) → Names p (body path))
        → ((path : List Step) → Names p (step path)) → (path : List Step)
        → Names p (turn_of body step path)
    names_turn bodies steps path =
        names_then (bodies path) (λ flow. names_after (steps path) (flow_after_body flow))

    names_for : (path : List Step) (here : StmtId) (when : Expr) (body step : List Step → Execution)
        → IsStmt p here
        → ((path : List Step) → Names p (body path)) → ((path : List Step) → Names p (step path))
        → Names p (for_loop x path here when body step)
    unfolding for_loop
    names_for path here when body step known bodies steps = names_then
        (names_rounds (λ k. names_condition (in_turn here k path) here known when)
        (λ k. names_turn bodies steps (in_turn here k path)) (names_halt (halt.Beyond here) known) turns 1)
        (λ flow. names_give (flow_after_loop flow))

    names_behind : {test : ℕ → Act ℤ} → ((k : ℕ) → Names p (test k))
        → (k : ℕ) → Names p (test_behind test k)
    names_behind tests zero = names_give (pos 1)
    names_behind tests (suc k) = tests (suc k)

    names_do : (path : List Step) (here : StmtId) (when : Expr) (body : List Step → Execution)
        → IsStmt p here → ((path : List Step) → Names p (body path))
        → Names p (do_loop x path here when body)
    unfolding do_loop
    names_do path here when body known bodies = names_then
        (names_rounds (names_behind (λ k. names_condition (in_turn here k path) here known when))
        (λ k. names_turn bodies (λ inside. names_give Next) (in_turn here (k + 1) path))
        (names_halt (halt.Beyond here) known) turns 0)
        (λ flow. names_give (flow_after_loop flow))

    -- STATEMENTS, of this function

    module _ (f : Function) where
      abbrev facts_of : Stmt → StmtFacts
      facts_of = stmt_facts (parts_of p) f

      abbrev NamesStmt : Stmt → Type 0
      NamesStmt s = AreStmts p (facts_of s).numbers → (path : List Step) → Names p (exec x s path)

      abbrev InnerStmt : Type 0
      InnerStmt = (s : Stmt) × NamesStmt s

      abbrev bare_stmt : Stmt-F InnerStmt → Stmt-F Stmt
      bare_stmt = map-Stmt InnerStmt Stmt (λ s. s.0)

      abbrev facts_in : List InnerStmt → List StmtFacts
      facts_in stmts = map facts_of (map (λ s. s.0) stmts)

      inner_stmts : (path : List Step) (stmts : List InnerStmt) → AreStmts p (numbers_in (facts_in stmts))
          → Names p (stmts_in_order path (map (exec x) (map (λ s. s.0) stmts)))
      inner_stmts path [] known = names_give Next
      inner_stmts path (s ∷ stmts) known =
          let own = (facts_of s.0).numbers in let others = numbers_in (facts_in stmts) in
          names_then (s.1 (are_before p own others known) path)
          (names_after (inner_stmts path stmts (are_behind p own others known)))

      -- what is executed of a body, after so many statements, or from a label on
      inner_behind : (path : List Step) (at : ℕ) (stmts : List InnerStmt)
          → AreStmts p (numbers_in (facts_in stmts))
          → Names p (stmts_in_order path (drop at (map (exec x) (map (λ s. s.0) stmts))))
      inner_behind path zero stmts known = inner_stmts path stmts known
      inner_behind path (suc at) [] known = inner_stmts path [] tt
      inner_behind path (suc at) (s ∷ stmts) known = inner_behind path at stmts
          (are_behind p (facts_of s.0).numbers (numbers_in (facts_in stmts)) known)

      inner_entered : (path : List Step) (label : Option ℕ) (stmts : List InnerStmt)
          → AreStmts p (numbers_in (facts_in stmts))
          → Names p (stmts_in_order path (entered label (map (exec x) (map (λ s. s.0) stmts))))
      inner_entered path None stmts known = inner_stmts path [] tt
      inner_entered path (Some at) stmts known = inner_behind path at stmts known

      -- the one statement in another
      only : (s : StmtFacts) → AreStmts p (numbers_in (s ∷ [])) → AreStmts p s.numbers
      only s known = are_before p s.numbers [] known

      stmt_form : (y : Stmt-F InnerStmt)
          → AreStmts p
          (stmt_facts_step (parts_of p) f (map-Stmt Stmt StmtFacts facts_of (bare_stmt y))).numbers
          → (path : List Step)
          → Names p (stmt_step x (map-Stmt Stmt (List Step → Execution) (exec x) (bare_stmt y)) path)
      stmt_form (Stmt-F.Block body) known path = inner_stmts path body.items known
      stmt_form (Stmt-F.Declare var) known path = record { known = λ s. tt }
      stmt_form (Stmt-F.Init here var value) known path =
          names_then (names_given path here known.0 (type_of p var) value)
          (λ z. record { known = λ s. tt })
      stmt_form (Stmt-F.InitArray here array values) known path =
          names_then (names_elements path here known.0 array values.items)
          (λ zs. record { known = λ s. tt })
      stmt_form (Stmt-F.Assign here var value) known path =
          names_then (names_given path here known.0 (type_of p var) value)
          (λ z. record { known = λ s. tt })
      stmt_form (Stmt-F.Store here array index value) known path =
          names_then (names_pair path here known.0 array index value)
          (λ e. names_store here array e known.0)
      stmt_form (Stmt-F.If here when a None) known path =
          names_then (names_condition path here known.0 when)
          (names_fork (a.value.1 (only (facts_of a.value.0) known.1) path) (names_give Next))
      stmt_form (Stmt-F.If here when a (Some b)) known path =
          let own = (facts_of a.value.0).numbers in let other = numbers_in (facts_of b.value.0 ∷ []) in
          names_then (names_condition path here known.0 when)
          (names_fork (a.value.1 (are_before p own other known.1) path)
          (b.value.1 (only (facts_of b.value.0) (are_behind p own other known.1)) path))
      stmt_form (Stmt-F.Switch here t on starts other body) known path =
          names_then (names_given path here known.0 t on)
          (λ z. names_then (inner_entered path (label_at starts.items z other) body.items known.1)
          (λ flow. names_give (flow_after_loop flow)))
      stmt_form (Stmt-F.While here when body) known path =
          names_for path here when (exec x body.value.0) no_step known.0
          (body.value.1 (only (facts_of body.value.0) known.1)) (λ inside. names_give Next)
      stmt_form (Stmt-F.DoWhile here when body) known path =
          names_do path here when (exec x body.value.0) known.0
          (body.value.1 (only (facts_of body.value.0) known.1))
      stmt_form (Stmt-F.For here front when step body) known path =
          let begins = facts_in front.items in let steps = facts_in step.items in
          let own = facts_of body.value.0 ∷ [] in
          let in_head : AreStmts p (numbers_in (begins ++ steps)) =
          in_first p (begins ++ steps) own known.1 in
          names_then (inner_stmts path front.items (in_first p begins steps in_head))
          (names_after (names_for path here when (exec x body.value.0)
          (λ inside. stmts_in_order inside (map (exec x) (map (λ s. s.0) step.items))) known.0
          (body.value.1 (only (facts_of body.value.0) (in_others p (begins ++ steps) own known.1)))
          (λ inside. inner_stmts inside step.items (in_others p begins steps in_head))))
      stmt_form Stmt-F.Break known path = names_give (Leaves Break)
      stmt_form Stmt-F.Continue known path = names_give (Leaves Continue)
      stmt_form (Stmt-F.Return here value) known path =
          names_then (names_given path here known.0 (unwrap_or result I32) value)
          (λ z. names_give (Leaves (Return z)))
      stmt_form Stmt-F.ReturnNone known path = names_give (Leaves (Return (pos 0)))
      stmt_form (Stmt-F.CallStmt here call function args) known path =
          names_then (names_call path here known.0 call function args.items) (λ a. names_give Next)
      stmt_form (Stmt-F.Print here args) known path =
          names_then (names_print path here known.0 args.items) (λ a. names_give Next)
      stmt_form (Stmt-F.Assert here when) known path =
          names_then (names_eval path here known.0 when)
          (names_fork (names_give Next) (names_halt (halt.AssertFails here) known.0))

      stmt_layer : (y : Stmt-F InnerStmt) → NamesStmt (roll-Stmt (bare_stmt y))
      unfolding exec stmt_facts
      stmt_layer y known path = names_as (ap (λ (g : List Step → Execution). g path)
          (fold-roll-Stmt (List Step → Execution) (stmt_step x) (bare_stmt y)))
          (stmt_form y (subst (λ (s : StmtFacts). AreStmts p s.numbers)
          (fold-roll-Stmt StmtFacts (stmt_facts_step (parts_of p) f) (bare_stmt y)) known) path)

      names_exec : (s : Stmt) → NamesStmt s
      names_exec = ind-Stmt NamesStmt (λ s y is. subst (λ s. NamesStmt (roll-Stmt s)) is (stmt_layer y))

      names_in_order : (path : List Step) (body : List Stmt)
          → AreStmts p (numbers_in (map facts_of body))
          → Names p (stmts_in_order path (map (exec x) body))
      names_in_order path [] known = names_give Next
      names_in_order path (s ∷ body) known =
          let own = (facts_of s).numbers in let others = numbers_in (map facts_of body) in
          names_then (names_exec s (are_before p own others known) path)
          (names_after (names_in_order path body (are_behind p own others known)))

      names_exec_all : (path : List Step) (body : List Stmt)
          → AreStmts p (numbers_in (map facts_of body)) → Names p (exec_all x path body)
      unfolding exec_all
      names_exec_all path body known = names_in_order path body known

  -- RUNS

  -- the statements of each function, and the initialisers of the globals, are statements of the program
  module _ (all : AreStmts p (all_numbers (parts_of p))) where
    abbrev inits : List StmtFacts
    inits = init_facts (parts_of p)

    abbrev bodies : List Function → List StmtFacts
    bodies fs = map (body_facts (parts_of p)) fs

    in_body : (fs : List Function) (i : ℕ) → AreStmts p (numbers_in (bodies fs))
        → AreStmts p (body_facts (parts_of p) (get_or fs i no_function)).numbers
    in_body [] i known = tt
    in_body (f ∷ fs) zero known =
        are_before p (body_facts (parts_of p) f).numbers (numbers_in (bodies fs)) known
    in_body (f ∷ fs) (suc i) known =
        in_body fs i (are_behind p (body_facts (parts_of p) f).numbers (numbers_in (bodies fs)) known)

    in_function : (f : FnId) → AreStmts p (body_facts (parts_of p) (function_of p f)).numbers
    in_function f = in_body p.functions f.0 (in_others p inits (bodies p.functions) all)

    names_call_at : (frames : ℕ) → NamesCalls (call_at p allowed turns frames)
    unfolding call_at
    names_call_at zero path here f args known = names_halt (halt.Beyond here) known
    names_call_at (suc frames) path here f args known =
        let own = function_of p f in let calls = call_at p allowed turns frames in
        names_frame p own args (exec_all (context_in p allowed turns own calls) path own.body)
        (names_exec_all own.result calls (names_call_at frames) own path own.body (in_function f))

    names_main : (frames : ℕ) (input : Input) → Names p
        (run_main (context_in p allowed turns (main_of p) (call_at p allowed turns frames)) input)
    unfolding run_main
    names_main frames input =
        let calls = call_at p allowed turns frames in
        names_then (names_exec_all (main_of p).result calls (names_call_at frames) facts.no_function []
        p.inits (in_first p inits (bodies p.functions) all))
        (names_after (names_from (enter_main p input)
        (names_exec_all (main_of p).result calls (names_call_at frames) (main_of p) []
        (main_of p).body (in_function p.main))))

-- NUMBERS, from 1 to the count of statements

there : (xs : List StmtInfo) (i : ℕ) → i < length xs → is_some (slice_get xs i) ≡ true
there [] i within = absurd (omega arith)
there (x ∷ xs) zero within = refl
there (x ∷ xs) (suc i) within = there xs i (omega arith)

is_stmt : (xs : List StmtInfo) (n : ℕ) → (nat_le 1 n && nat_lt n (1 + length xs)) ≡ true
    → is_some (cond (n == 0) None (slice_get xs (n - 1))) ≡ true
is_stmt xs zero within = cc
is_stmt xs (suc i) within =
    let same : suc i - 1 ≡ i = omega arith in
    ap (λ b. is_some (cond b None (slice_get xs (suc i - 1)))) differ
    ∙ ap (λ j. is_some (slice_get xs j)) same ∙ there xs i (less (both _ _ within).1) where
      less : nat_lt (suc i) (1 + length xs) ≡ true → i < length xs
      less h = grind (arith, nat_tests, h)

      differ : (suc i == 0) ≡ false
      differ = grind (arith, nat_tests)

are_stmts : (p : Program) (ns : List (StmtId × StmtKind))
    → list_all (λ n. nat_le 1 n && nat_lt n (1 + length p.statements))
    (map (λ (n : StmtId × StmtKind). n.0.0) ns) ≡ true
    → AreStmts p ns
are_stmts p [] h = tt
are_stmts p (n ∷ ns) h = let b = both _ _ h in (is_stmt p.statements n.0.0 b.0, are_stmts p ns b.1)

all_stmts : (p : Program) → AreStmts p (all_numbers (parts_of p))
all_stmts p = are_stmts p (all_numbers (parts_of p))
    (stand-once 1 (length p.statements) (map (λ (n : StmtId × StmtKind). n.0.0) (all_numbers (parts_of p)))
    (kept p).numbered).there

-- OUTCOMES

left_known : (p : Program) (choices : List Choice) (o : Outcome) → NamesStatement p o
    → NamesStatement p (if_none_left choices o)
left_known p [] o known = known
left_known p (c ∷ cs) o known = tt

halt_known : (p : Program) (h : Halt) → IsHaltOf p h → NamesStatement p (outcome_of_halt h)
halt_known p (halt.AssertFails stmt) known = known
halt_known p (halt.Trap stmt) known = known
halt_known p (halt.Beyond stmt) known = known
halt_known p halt.WrongChoices known = tt

end_known : (p : Program) (e : Ending (Flow Exit)) → IsEndOf p e.0 → NamesStatement p (outcome_of e)
end_known p (Ok flow, s) known = left_known p s.choices Done tt
end_known p (Err h, s) known = left_known p s.choices (outcome_of_halt h) (halt_known p h known)

pub names_statement : (p : Program) (i : Input) (b : Bounds) (allowed : Allowed) (choices : List Choice)
    → NamesStatement p (run_of p i b allowed choices)
unfolding run_of
names_statement p i b allowed choices =
    end_known p (run_main (context_of p b allowed) i (start_of p choices))
    ((names_main p allowed b.turns (all_stmts p) (b.frames - 1) i).known (start_of p choices))
