-- What each form of an expression and of a statement does, one equation a form.
use Rattle.std.proofs.Common.{◌≡◌, ℤ, pos, Option, Ok, List, [], ◌∷◌, map, ℕ, refl, ◌∙◌, ap}
use Rattle.std.proofs.lemmas.List.{drop-map}
use Rattle.std.specs.Prelude.{unwrap_or}
use Rattle.std.specs.Global.{Box, Vec}
use Rattle.ba_numbers.specs.Numbers.{value_of, value_of_one, converted}
use Rattle.ba_numbers.specs.declared.ids.StmtId.{StmtId}
use Rattle.ba_numbers.specs.declared.ids.VarId.{VarId}
use Rattle.ba_numbers.specs.declared.ids.FnId.{FnId}
use Rattle.ba_numbers.specs.declared.ids.CallId.{CallId}
use Rattle.ba_numbers.specs.declared.numbers.CType.{CType}
use Rattle.ba_numbers.specs.declared.numbers.CType.TheVariants.{I32}
use Rattle.ba_numbers.specs.declared.numbers.BinOp.{BinOp}
use Rattle.ba_numbers.specs.declared.numbers.UnOp.{UnOp}
use Rattle.ba_tree.specs.Acts.{give, then_do, each, fork, after_part, flow_after_loop}
use Rattle.ba_tree.specs.State.{State, Act, Execution, value_at, location_of, element_at}
use Rattle.ba_tree.specs.Meaning.{Context, eval, eval_arg, expr_step, arg_step, or_trap, truth_of, exec, exec_all, stmt_step, condition, given_value, given_elements, given_element, set_value, set_elements, set_element, call_effect, print_effect, and_next, assert_that, declare, for_loop, do_loop, label_at, entered, stmts_in_order, type_of, variable_of}
use Rattle.ba_tree.specs.declared.run.Argument.{Argument}
use Rattle.ba_tree.specs.declared.run.Exit.TheVariants.{Break, Continue, Return}
use Rattle.ba_tree.specs.declared.run.Flow.TheVariants.{Next, Leaves}
use Rattle.ba_tree.specs.declared.run.Step.{Step}
use Rattle.ba_tree.specs.declared.run.Step.TheVariants.{Call}
use Rattle.ba_tree.specs.declared.tree.Arg.{Arg}
use Rattle.ba_tree.specs.declared.tree.Arg as arg
use Rattle.ba_tree.specs.declared.tree.Expr.{Expr}
use Rattle.ba_tree.specs.declared.tree.Expr as tree
use Rattle.ba_tree.specs.declared.tree.Arg.TheOpen.{Arg-F, Expr-F}
use Rattle.ba_tree.specs.declared.tree.Arg.TheFolds.{fold-roll-Arg, fold-roll-Expr}
use Rattle.ba_tree.specs.declared.tree.Start.{Start}
use Rattle.ba_tree.specs.declared.tree.Stmt.{Stmt}
use Rattle.ba_tree.specs.declared.tree.Stmt as stmts
use Rattle.ba_tree.specs.declared.tree.Stmt.TheOpen.{Stmt-F}
use Rattle.ba_tree.specs.declared.tree.Stmt.TheFolds.{fold-roll-Stmt}

-- EXPRESSIONS

module _ (x : Context) (path : List Step) (here : StmtId) (e : Expr) (s : State) where
  pub eval-Const : (t : CType) (z : ℤ) → e ≡ tree.Const t z
      → eval x path here e s ≡ (Ok z, s)
  unfolding eval tree.roll-Expr denote.Hole.Carrier.roll
  eval-Const t z is = ap (λ e. eval x path here e s) is
      ∙ ap (λ (f : Act ℤ). f s) (fold-roll-Expr (Act Argument) (Act ℤ) arg_step (expr_step x path here) (Expr-F.Const t z))

  pub eval-Var : (v : VarId) → e ≡ tree.Var v
      → eval x path here e s ≡ (Ok (value_at s v), s)
  unfolding eval tree.roll-Expr denote.Hole.Carrier.roll
  eval-Var v is = ap (λ e. eval x path here e s) is
      ∙ ap (λ (f : Act ℤ). f s) (fold-roll-Expr (Act Argument) (Act ℤ) arg_step (expr_step x path here) (Expr-F.Var v))

  pub eval-Element : (array : VarId) (index : Box Expr) → e ≡ tree.Element array index
      → eval x path here e s ≡ then_do (eval x path here index.value s) (λ i s. or_trap here (element_at s array i) s)
  unfolding eval tree.roll-Expr denote.Hole.Carrier.roll
  eval-Element array index is = ap (λ e. eval x path here e s) is
      ∙ ap (λ (f : Act ℤ). f s) (fold-roll-Expr (Act Argument) (Act ℤ) arg_step (expr_step x path here) (Expr-F.Element array index))

  pub eval-Unary : (op : UnOp) (t : CType) (a : Box Expr) → e ≡ tree.Unary op t a
      → eval x path here e s ≡ then_do (eval x path here a.value s) (λ z. give (value_of_one op t z))
  unfolding eval tree.roll-Expr denote.Hole.Carrier.roll
  eval-Unary op t a is = ap (λ e. eval x path here e s) is
      ∙ ap (λ (f : Act ℤ). f s) (fold-roll-Expr (Act Argument) (Act ℤ) arg_step (expr_step x path here) (Expr-F.Unary op t a))

  pub eval-Binary : (op : BinOp) (t : CType) (a b : Box Expr) → e ≡ tree.Binary op t a b
      → eval x path here e s ≡ then_do (eval x path here a.value s) (λ y s. then_do (eval x path here b.value s) (λ z. or_trap here (value_of op t y z)))
  unfolding eval tree.roll-Expr denote.Hole.Carrier.roll
  eval-Binary op t a b is = ap (λ e. eval x path here e s) is
      ∙ ap (λ (f : Act ℤ). f s) (fold-roll-Expr (Act Argument) (Act ℤ) arg_step (expr_step x path here) (Expr-F.Binary op t a b))

  pub eval-AndAlso : (a b : Box Expr) → e ≡ tree.AndAlso a b
      → eval x path here e s ≡ then_do (eval x path here a.value s) (fork (λ s. then_do (eval x path here b.value s) (λ z. give (truth_of z))) (give (pos 0)))
  unfolding eval tree.roll-Expr denote.Hole.Carrier.roll
  eval-AndAlso a b is = ap (λ e. eval x path here e s) is
      ∙ ap (λ (f : Act ℤ). f s) (fold-roll-Expr (Act Argument) (Act ℤ) arg_step (expr_step x path here) (Expr-F.AndAlso a b))

  pub eval-OrElse : (a b : Box Expr) → e ≡ tree.OrElse a b
      → eval x path here e s ≡ then_do (eval x path here a.value s) (fork (give (pos 1)) (λ s. then_do (eval x path here b.value s) (λ z. give (truth_of z))))
  unfolding eval tree.roll-Expr denote.Hole.Carrier.roll
  eval-OrElse a b is = ap (λ e. eval x path here e s) is
      ∙ ap (λ (f : Act ℤ). f s) (fold-roll-Expr (Act Argument) (Act ℤ) arg_step (expr_step x path here) (Expr-F.OrElse a b))

  pub eval-Select : (t : CType) (when a b : Box Expr) → e ≡ tree.Select t when a b
      → eval x path here e s ≡ then_do (eval x path here when.value s) (fork (eval x path here a.value) (eval x path here b.value))
  unfolding eval tree.roll-Expr denote.Hole.Carrier.roll
  eval-Select t when a b is = ap (λ e. eval x path here e s) is
      ∙ ap (λ (f : Act ℤ). f s) (fold-roll-Expr (Act Argument) (Act ℤ) arg_step (expr_step x path here) (Expr-F.Select t when a b))

  pub eval-Convert : (t : CType) (a : Box Expr) → e ≡ tree.Convert t a
      → eval x path here e s ≡ then_do (eval x path here a.value s) (λ z. give (converted t z))
  unfolding eval tree.roll-Expr denote.Hole.Carrier.roll
  eval-Convert t a is = ap (λ e. eval x path here e s) is
      ∙ ap (λ (f : Act ℤ). f s) (fold-roll-Expr (Act Argument) (Act ℤ) arg_step (expr_step x path here) (Expr-F.Convert t a))

  pub eval-Call : (call : CallId) (function : FnId) (args : Vec Arg) → e ≡ tree.Call call function args
      → eval x path here e s ≡ then_do (each (map (eval_arg x path here) args.items) s) (x.calls (Call call ∷ path) here function)
  unfolding eval eval_arg tree.roll-Expr denote.Hole.Carrier.roll
  eval-Call call function args is = ap (λ e. eval x path here e s) is
      ∙ ap (λ (f : Act ℤ). f s) (fold-roll-Expr (Act Argument) (Act ℤ) arg_step (expr_step x path here) (Expr-F.Call call function args))

-- ARGUMENTS

module _ (x : Context) (path : List Step) (here : StmtId) (a : Arg) (s : State) where
  pub eval_arg-Value : (value : Expr) → a ≡ arg.Value value
      → eval_arg x path here a s ≡ then_do (eval x path here value s) (λ z. give (Argument.Value z))
  unfolding eval eval_arg arg.roll-Arg denote.Hole.Carrier.roll
  eval_arg-Value value is = ap (λ a. eval_arg x path here a s) is
      ∙ ap (λ (f : Act Argument). f s) (fold-roll-Arg (Act Argument) (Act ℤ) arg_step (expr_step x path here) (Arg-F.Value value))

  pub eval_arg-Array : (array : VarId) → a ≡ arg.Array array
      → eval_arg x path here a s ≡ (Ok (Argument.Array (location_of s array)), s)
  unfolding eval_arg arg.roll-Arg denote.Hole.Carrier.roll
  eval_arg-Array array is = ap (λ a. eval_arg x path here a s) is
      ∙ ap (λ (f : Act Argument). f s) (fold-roll-Arg (Act Argument) (Act ℤ) arg_step (expr_step x path here) (Arg-F.Array array))

-- STATEMENTS

abbrev pub otherwise : Context → List Step → Option (Box Stmt) → Execution
otherwise x path Option.None s = (Ok Next, s)
otherwise x path (Option.Some part) s = exec x part.value path s

-- what is entered of a row that is mapped
pub entered-map : {A B : Type 0} (f : A → B) (label : Option ℕ) (parts : List A)
    → entered label (map f parts) ≡ map f (entered label parts)
entered-map f Option.None parts = refl
entered-map f (Option.Some at) parts = drop-map f at parts

-- the body of a `switch` from the label of this value on
abbrev pub labelled : Context → List Step → List Start → Option ℕ → List Stmt → ℤ → Execution
labelled x path starts other body z s =
    then_do (exec_all x path (entered (label_at starts z other) body) s) (λ flow. give (flow_after_loop flow))

module _ (x : Context) (path : List Step) (e : Stmt) (s : State) where
  pub exec-Block : (body : Vec Stmt) → e ≡ stmts.Block body
      → exec x e path s ≡ exec_all x path body.items s
  unfolding exec exec_all stmts.roll-Stmt denote.Hole.Carrier.roll
  exec-Block body is = ap (λ e. exec x e path s) is
      ∙ ap (λ (f : List Step → Execution). f path s) (fold-roll-Stmt (List Step → Execution) (stmt_step x) (Stmt-F.Block body))

  pub exec-Declare : (var : VarId) → e ≡ stmts.Declare var
      → exec x e path s ≡ (Ok Next, declare (variable_of x.program var).shape var s)
  unfolding exec stmts.roll-Stmt denote.Hole.Carrier.roll
  exec-Declare var is = ap (λ e. exec x e path s) is
      ∙ ap (λ (f : List Step → Execution). f path s) (fold-roll-Stmt (List Step → Execution) (stmt_step x) (Stmt-F.Declare var))

  pub exec-Init : (here : StmtId) (var : VarId) (value : Expr) → e ≡ stmts.Init here var value
      → exec x e path s ≡ then_do (given_value x path here (type_of x.program var) value s) (set_value var)
  unfolding exec stmts.roll-Stmt denote.Hole.Carrier.roll
  exec-Init here var value is = ap (λ e. exec x e path s) is
      ∙ ap (λ (f : List Step → Execution). f path s) (fold-roll-Stmt (List Step → Execution) (stmt_step x) (Stmt-F.Init here var value))

  pub exec-InitArray : (here : StmtId) (array : VarId) (values : Vec Expr) → e ≡ stmts.InitArray here array values
      → exec x e path s ≡ then_do (given_elements x path here array values.items s) (set_elements array)
  unfolding exec stmts.roll-Stmt denote.Hole.Carrier.roll
  exec-InitArray here array values is = ap (λ e. exec x e path s) is
      ∙ ap (λ (f : List Step → Execution). f path s) (fold-roll-Stmt (List Step → Execution) (stmt_step x) (Stmt-F.InitArray here array values))

  pub exec-Assign : (here : StmtId) (var : VarId) (value : Expr) → e ≡ stmts.Assign here var value
      → exec x e path s ≡ then_do (given_value x path here (type_of x.program var) value s) (set_value var)
  unfolding exec stmts.roll-Stmt denote.Hole.Carrier.roll
  exec-Assign here var value is = ap (λ e. exec x e path s) is
      ∙ ap (λ (f : List Step → Execution). f path s) (fold-roll-Stmt (List Step → Execution) (stmt_step x) (Stmt-F.Assign here var value))

  pub exec-Store : (here : StmtId) (array : VarId) (index value : Expr) → e ≡ stmts.Store here array index value
      → exec x e path s ≡ then_do (given_element x path here array index value s) (set_element here array)
  unfolding exec stmts.roll-Stmt denote.Hole.Carrier.roll
  exec-Store here array index value is = ap (λ e. exec x e path s) is
      ∙ ap (λ (f : List Step → Execution). f path s) (fold-roll-Stmt (List Step → Execution) (stmt_step x) (Stmt-F.Store here array index value))

  pub exec-If : (here : StmtId) (when : Expr) (a : Box Stmt) (b : Option (Box Stmt)) → e ≡ stmts.If here when a b
      → exec x e path s ≡ then_do (condition x path here when s) (fork (exec x a.value path) (otherwise x path b))
  unfolding exec stmts.roll-Stmt denote.Hole.Carrier.roll
  exec-If here when a Option.None is = ap (λ e. exec x e path s) is
      ∙ ap (λ (f : List Step → Execution). f path s) (fold-roll-Stmt (List Step → Execution) (stmt_step x) (Stmt-F.If here when a Option.None))
  exec-If here when a (Option.Some b) is = ap (λ e. exec x e path s) is
      ∙ ap (λ (f : List Step → Execution). f path s) (fold-roll-Stmt (List Step → Execution) (stmt_step x) (Stmt-F.If here when a (Option.Some b)))

  pub exec-Switch : (here : StmtId) (t : CType) (on : Expr) (starts : Vec Start) (other : Option ℕ) (body :
      Vec Stmt)
      → e ≡ stmts.Switch here t on starts other body
      → exec x e path s ≡ then_do (given_value x path here t on s) (labelled x path starts.items other
      body.items)
  unfolding exec exec_all stmts.roll-Stmt denote.Hole.Carrier.roll
  exec-Switch here t on starts other body is = ap (λ e. exec x e path s) is
      ∙ ap (λ (f : List Step → Execution). f path s)
      (fold-roll-Stmt (List Step → Execution) (stmt_step x) (Stmt-F.Switch here t on starts other body))
      ∙ (λ i. then_do (given_value x path here t on s)
      (λ z s. then_do (stmts_in_order path (entered-map (exec x) (label_at starts.items z other) body.items
      i) s)
      (λ flow. give (flow_after_loop flow))))

  pub exec-While : (here : StmtId) (when : Expr) (body : Box Stmt) → e ≡ stmts.While here when body
      → exec x e path s ≡ for_loop x path here when (exec x body.value) (λ inside. exec_all x inside []) s
  unfolding exec exec_all stmts.roll-Stmt denote.Hole.Carrier.roll
  exec-While here when body is = ap (λ e. exec x e path s) is
      ∙ ap (λ (f : List Step → Execution). f path s) (fold-roll-Stmt (List Step → Execution) (stmt_step x) (Stmt-F.While here when body))

  pub exec-DoWhile : (here : StmtId) (when : Expr) (body : Box Stmt) → e ≡ stmts.DoWhile here when body
      → exec x e path s ≡ do_loop x path here when (exec x body.value) s
  unfolding exec stmts.roll-Stmt denote.Hole.Carrier.roll
  exec-DoWhile here when body is = ap (λ e. exec x e path s) is
      ∙ ap (λ (f : List Step → Execution). f path s) (fold-roll-Stmt (List Step → Execution) (stmt_step x) (Stmt-F.DoWhile here when body))

  pub exec-For : (here : StmtId) (first : Vec Stmt) (when : Expr) (step : Vec Stmt) (body : Box Stmt) → e ≡ stmts.For here first when step body
      → exec x e path s ≡ then_do (exec_all x path first.items s) (after_part (for_loop x path here when (exec x body.value) (λ inside. exec_all x inside step.items)))
  unfolding exec exec_all stmts.roll-Stmt denote.Hole.Carrier.roll
  exec-For here first when step body is = ap (λ e. exec x e path s) is
      ∙ ap (λ (f : List Step → Execution). f path s) (fold-roll-Stmt (List Step → Execution) (stmt_step x) (Stmt-F.For here first when step body))

  pub exec-Break : e ≡ stmts.Break
      → exec x e path s ≡ (Ok (Leaves Break), s)
  unfolding exec stmts.roll-Stmt denote.Hole.Carrier.roll
  exec-Break is = ap (λ e. exec x e path s) is
      ∙ ap (λ (f : List Step → Execution). f path s) (fold-roll-Stmt (List Step → Execution) (stmt_step x) Stmt-F.Break)

  pub exec-Continue : e ≡ stmts.Continue
      → exec x e path s ≡ (Ok (Leaves Continue), s)
  unfolding exec stmts.roll-Stmt denote.Hole.Carrier.roll
  exec-Continue is = ap (λ e. exec x e path s) is
      ∙ ap (λ (f : List Step → Execution). f path s) (fold-roll-Stmt (List Step → Execution) (stmt_step x) Stmt-F.Continue)

  pub exec-Return : (here : StmtId) (value : Expr) → e ≡ stmts.Return here value
      → exec x e path s ≡ then_do (given_value x path here (unwrap_or x.result I32) value s) (λ z. give (Leaves (Return z)))
  unfolding exec stmts.roll-Stmt denote.Hole.Carrier.roll
  exec-Return here value is = ap (λ e. exec x e path s) is
      ∙ ap (λ (f : List Step → Execution). f path s) (fold-roll-Stmt (List Step → Execution) (stmt_step x) (Stmt-F.Return here value))

  pub exec-ReturnNone : e ≡ stmts.ReturnNone
      → exec x e path s ≡ (Ok (Leaves (Return (pos 0))), s)
  unfolding exec stmts.roll-Stmt denote.Hole.Carrier.roll
  exec-ReturnNone is = ap (λ e. exec x e path s) is
      ∙ ap (λ (f : List Step → Execution). f path s) (fold-roll-Stmt (List Step → Execution) (stmt_step x) Stmt-F.ReturnNone)

  pub exec-CallStmt : (here : StmtId) (call : CallId) (function : FnId) (args : Vec Arg) → e ≡ stmts.CallStmt here call function args
      → exec x e path s ≡ then_do (call_effect x path here call function args.items s) and_next
  unfolding exec stmts.roll-Stmt denote.Hole.Carrier.roll
  exec-CallStmt here call function args is = ap (λ e. exec x e path s) is
      ∙ ap (λ (f : List Step → Execution). f path s) (fold-roll-Stmt (List Step → Execution) (stmt_step x) (Stmt-F.CallStmt here call function args))

  pub exec-Print : (here : StmtId) (args : Vec Expr) → e ≡ stmts.Print here args
      → exec x e path s ≡ then_do (print_effect x path here args.items s) and_next
  unfolding exec stmts.roll-Stmt denote.Hole.Carrier.roll
  exec-Print here args is = ap (λ e. exec x e path s) is
      ∙ ap (λ (f : List Step → Execution). f path s) (fold-roll-Stmt (List Step → Execution) (stmt_step x) (Stmt-F.Print here args))

  pub exec-Assert : (here : StmtId) (when : Expr) → e ≡ stmts.Assert here when
      → exec x e path s ≡ then_do (eval x path here when s) (assert_that here)
  unfolding exec stmts.roll-Stmt denote.Hole.Carrier.roll
  exec-Assert here when is = ap (λ e. exec x e path s) is
      ∙ ap (λ (f : List Step → Execution). f path s) (fold-roll-Stmt (List Step → Execution) (stmt_step x) (Stmt-F.Assert here when))

pub ruleset equations = (eval-Const, eval-Var, eval-Element, eval-Unary, eval-Binary, eval-AndAlso, eval-OrElse, eval-Select, eval-Convert, eval-Call, eval_arg-Value, eval_arg-Array, exec-Block, exec-Declare, exec-Init, exec-InitArray, exec-Assign, exec-Store, exec-If, exec-Switch, exec-While, exec-DoWhile, exec-For, exec-Break, exec-Continue, exec-Return, exec-ReturnNone, exec-CallStmt, exec-Print, exec-Assert)
