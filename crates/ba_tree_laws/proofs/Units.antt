-- The tree of the Rust types costs what the tree in the standard's terms costs, by induction. So programs
-- with the same tree cost the same.
use Rattle.std.proofs.Common.{◌≡◌, suc, zero, ℕ, ◌+◌, ◌-◌, None, Some, List, [], ◌∷◌, map, refl, sym, ◌∙◌, ap, subst}
use Rattle.std.specs.Prelude.{length, sum_by}
use Rattle.std.specs.List.{sum}
use Rattle.std.proofs.lemmas.List.Sums.{sum-map}
use Rattle.ba_tree.specs.Run.{function_of, main_of}
use Rattle.ba_tree.specs.Units.{Lengths, Bodies, ArgUnits, length_at, element_units, operator_units, call_units, declaration_units, declared_length, bound_lengths, all_units, loop_units, arg_units_step, expr_units_step, stmt_units_step, units_of_expr, units_of_arg, units_of_stmt, units_of_body, bodies_at, units_of}
use Rattle.ba_tree.specs.declared.run.Bounds.{Bounds}
use Rattle.ba_tree.specs.declared.tree.Arg.{Arg}
use Rattle.ba_tree.specs.declared.tree.Arg.TheOpen.{Arg-F, Expr-F}
use Rattle.ba_tree.specs.declared.tree.Arg.TheFolds.{fold-roll-Arg, fold-roll-Expr, ind-Expr, ind-Arg, map-Arg, map-Expr}
use Rattle.ba_tree.specs.declared.tree.Arg.TheViews.{roll-Arg, roll-Expr}
use Rattle.ba_tree.specs.declared.tree.Expr.{Expr}
use Rattle.ba_tree.specs.declared.tree.Program.{Program}
use Rattle.ba_tree.specs.declared.tree.Stmt.{Stmt}
use Rattle.ba_tree.specs.declared.tree.Stmt.TheOpen.{Stmt-F}
use Rattle.ba_tree.specs.declared.tree.Stmt.TheFolds.{fold-roll-Stmt, ind-Stmt, map-Stmt}
use Rattle.ba_tree.specs.declared.tree.Stmt.TheViews.{roll-Stmt}
use Rattle.ba_tree.specs.declared.tree.Variable.{Variable}
use Rattle.ba_tree.specs.Trees.{ExprTree, ArgTree, StmtTree, args_of, stmts_of, arg_tree_step, expr_tree_step, stmt_tree_step, tree_of, tree_of_arg, tree_of_expr, tree_of_stmt}
use Rattle.ba_tree_laws.proofs.TreeRuns.{variable_in}
use Rattle.ba_tree_laws.proofs.TreeUnits.{expr_units, arg_units, args_units, args_units-map, stmt_units, stmts_units}
use Rattle.ba_tree_laws.proofs.Programs.{functions_same, main_same}

-- EXPRESSIONS

module _ (bodies : Bodies) where
  -- the units of an argument, with the lengths last
  abbrev whole_arg_units : Arg → Lengths → ArgUnits
  whole_arg_units a lengths = units_of_arg bodies lengths a

  abbrev SameArg : Arg → Type 0
  SameArg a = whole_arg_units a ≡ arg_units bodies (tree_of_arg a)

  abbrev SameExpr : Expr → Type 0
  SameExpr e = units_of_expr bodies e ≡ expr_units bodies (tree_of_expr e)

  abbrev InnerArg : Type 0
  InnerArg = (a : Arg) × SameArg a

  abbrev InnerExpr : Type 0
  InnerExpr = (e : Expr) × SameExpr e

  abbrev bare_arg : Arg-F InnerArg InnerExpr → Arg-F Arg Expr
  bare_arg = map-Arg InnerArg InnerExpr Arg Expr (λ a. a.0) (λ e. e.0)

  abbrev bare_expr : Expr-F InnerArg InnerExpr → Expr-F Arg Expr
  bare_expr = map-Expr InnerArg InnerExpr Arg Expr (λ a. a.0) (λ e. e.0)

  same_each : (args : List InnerArg) (lengths : Lengths)
      → map (λ (a : Lengths → ArgUnits). a lengths) (map whole_arg_units (map (λ a. a.0) args))
      ≡ map (λ a. arg_units bodies a lengths) (map tree_of_arg (map (λ a. a.0) args))
  same_each [] lengths = refl
  same_each (a ∷ args) lengths = λ i. a.1 i lengths ∷ same_each args lengths i

  same_args : (args : List InnerArg) (lengths : Lengths)
      → map (λ (a : Lengths → ArgUnits). a lengths) (map whole_arg_units (map (λ a. a.0) args))
      ≡ args_units bodies (args_of (map tree_of_arg (map (λ a. a.0) args))) lengths
  same_args args lengths = same_each args lengths
      ∙ sym (args_units-map bodies (map tree_of_arg (map (λ a. a.0) args)) lengths)

  arg_form : (y : Arg-F InnerArg InnerExpr)
      → arg_units_step (map-Arg Arg Expr (Lengths → ArgUnits) (Lengths → ℕ) whole_arg_units
      (units_of_expr bodies) (bare_arg y))
      ≡ arg_units bodies (arg_tree_step (map-Arg Arg Expr ArgTree ExprTree tree_of_arg tree_of_expr
      (bare_arg y)))
  arg_form (Arg-F.Value e) = λ i lengths. record { units = 1 + e.1 i lengths; elements = 0 }
  arg_form (Arg-F.Array v) = refl

  expr_form : (y : Expr-F InnerArg InnerExpr)
      → expr_units_step bodies (map-Expr Arg Expr (Lengths → ArgUnits) (Lengths → ℕ) whole_arg_units
      (units_of_expr bodies) (bare_expr y))
      ≡ expr_units bodies (expr_tree_step (map-Expr Arg Expr ArgTree ExprTree tree_of_arg tree_of_expr
      (bare_expr y)))
  expr_form (Expr-F.Const t z) = refl
  expr_form (Expr-F.Var v) = refl
  expr_form (Expr-F.Element v index) =
      λ i lengths. element_units (length_at lengths v) + index.value.1 i lengths
  expr_form (Expr-F.Unary op t a) = λ i lengths. 1 + a.value.1 i lengths
  expr_form (Expr-F.Binary op t a b) =
      λ i lengths. operator_units op + a.value.1 i lengths + b.value.1 i lengths
  expr_form (Expr-F.AndAlso a b) = λ i lengths. 1 + a.value.1 i lengths + b.value.1 i lengths
  expr_form (Expr-F.OrElse a b) = λ i lengths. 1 + a.value.1 i lengths + b.value.1 i lengths
  expr_form (Expr-F.Select t when a b) =
      λ i lengths. 1 + when.value.1 i lengths + a.value.1 i lengths + b.value.1 i lengths
  expr_form (Expr-F.Convert t a) = a.value.1
  expr_form (Expr-F.Call call f args) = λ i lengths. call_units bodies f (same_args args.items lengths i)

  arg_layer : (y : Arg-F InnerArg InnerExpr) → SameArg (roll-Arg (bare_arg y))
  unfolding tree_of_expr tree_of_arg
  arg_layer y =
      fold-roll-Arg (Lengths → ArgUnits) (Lengths → ℕ) arg_units_step (expr_units_step bodies) (bare_arg y)
      ∙ arg_form y
      ∙ ap (arg_units bodies) (sym (fold-roll-Arg ArgTree ExprTree arg_tree_step expr_tree_step (bare_arg y)))

  expr_layer : (y : Expr-F InnerArg InnerExpr) → SameExpr (roll-Expr (bare_expr y))
  unfolding tree_of_expr tree_of_arg
  expr_layer y =
      fold-roll-Expr (Lengths → ArgUnits) (Lengths → ℕ) arg_units_step (expr_units_step bodies) (bare_expr y)
      ∙ expr_form y
      ∙ ap (expr_units bodies)
      (sym (fold-roll-Expr ArgTree ExprTree arg_tree_step expr_tree_step (bare_expr y)))

  expr_is : (e : Expr) → SameExpr e
  expr_is = ind-Expr SameArg SameExpr
      (λ a y is. subst (λ a. SameArg (roll-Arg a)) is (arg_layer y))
      (λ e y is. subst (λ e. SameExpr (roll-Expr e)) is (expr_layer y))

  arg_is : (a : Arg) → SameArg a
  arg_is = ind-Arg SameArg SameExpr
      (λ a y is. subst (λ a. SameArg (roll-Arg a)) is (arg_layer y))
      (λ e y is. subst (λ e. SameExpr (roll-Expr e)) is (expr_layer y))

  each_is : (es : List Expr) (lengths : Lengths)
      → map (λ e. units_of_expr bodies e lengths) es
      ≡ map (λ e. expr_units bodies e lengths) (map tree_of_expr es)
  each_is [] lengths = refl
  each_is (e ∷ es) lengths = λ i. expr_is e i lengths ∷ each_is es lengths i

  sum_is : (es : List Expr) (lengths : Lengths)
      → sum_by (λ e. units_of_expr bodies e lengths) es
      ≡ sum (map (λ e. expr_units bodies e lengths) (map tree_of_expr es))
  sum_is es lengths = sym (sum-map (λ e. units_of_expr bodies e lengths) es)
      ∙ ap sum (each_is es lengths)

  args_are : (args : List Arg) (lengths : Lengths)
      → map (units_of_arg bodies lengths) args ≡ map (λ a. arg_units bodies a lengths) (map tree_of_arg args)
  args_are [] lengths = refl
  args_are (a ∷ args) lengths = λ i. arg_is a i lengths ∷ args_are args lengths i

-- STATEMENTS

module _ (p : Program) (turns : ℕ) (bodies : Bodies) where
  abbrev tree_units : StmtTree → Lengths → ℕ
  tree_units = stmt_units p.variables turns bodies

  abbrev SameStmt : Stmt → Type 0
  SameStmt a = units_of_stmt p turns bodies a ≡ tree_units (tree_of_stmt a)

  abbrev InnerStmt : Type 0
  InnerStmt = (a : Stmt) × SameStmt a

  abbrev bare_stmt : Stmt-F InnerStmt → Stmt-F Stmt
  bare_stmt = map-Stmt InnerStmt Stmt (λ a. a.0)

  same_stmts : (body : List InnerStmt) → map (units_of_stmt p turns bodies) (map (λ a. a.0) body)
      ≡ stmts_units p.variables turns bodies (stmts_of (map tree_of_stmt (map (λ a. a.0) body)))
  same_stmts [] = refl
  same_stmts (a ∷ body) = λ i. a.1 i ∷ same_stmts body i

  stmt_form : (y : Stmt-F InnerStmt)
      → stmt_units_step p turns bodies
      (map-Stmt Stmt (Lengths → ℕ) (units_of_stmt p turns bodies) (bare_stmt y))
      ≡ tree_units (stmt_tree_step (map-Stmt Stmt StmtTree tree_of_stmt (bare_stmt y)))
  stmt_form (Stmt-F.Block body) = λ i. all_units (same_stmts body.items i)
  stmt_form (Stmt-F.Declare v) = refl
  stmt_form (Stmt-F.Init stmt v e) = expr_is bodies e
  stmt_form (Stmt-F.InitArray stmt v es) = λ i lengths. sum_is bodies es.items lengths i
  stmt_form (Stmt-F.Assign stmt v e) = λ i lengths. 1 + expr_is bodies e i lengths
  stmt_form (Stmt-F.Store stmt v index e) = λ i lengths. 1 + element_units (length_at lengths v)
      + expr_is bodies index i lengths + expr_is bodies e i lengths
  stmt_form (Stmt-F.If stmt when a None) =
      λ i lengths. 1 + expr_is bodies when i lengths + a.value.1 i lengths + 0
  stmt_form (Stmt-F.If stmt when a (Some b)) =
      λ i lengths. 1 + expr_is bodies when i lengths + a.value.1 i lengths + b.value.1 i lengths
  stmt_form (Stmt-F.Switch stmt t on starts other body) = λ i lengths. 1 + expr_is bodies on i lengths
      + length starts.items + all_units (same_stmts body.items i) lengths
  stmt_form (Stmt-F.While stmt when body) =
      λ i lengths. loop_units turns (1 + expr_is bodies when i lengths) (body.value.1 i lengths) 0
  stmt_form (Stmt-F.DoWhile stmt when body) =
      λ i lengths. loop_units turns (1 + expr_is bodies when i lengths) (body.value.1 i lengths) 0
  stmt_form (Stmt-F.For stmt first when step body) = λ i lengths. all_units (same_stmts first.items i) lengths
      + loop_units turns (1 + expr_is bodies when i lengths) (body.value.1 i lengths)
      (all_units (same_stmts step.items i) lengths)
  stmt_form Stmt-F.Break = refl
  stmt_form Stmt-F.Continue = refl
  stmt_form (Stmt-F.Return stmt e) = λ i lengths. 1 + expr_is bodies e i lengths
  stmt_form Stmt-F.ReturnNone = refl
  stmt_form (Stmt-F.CallStmt stmt call f args) =
      λ i lengths. 1 + call_units bodies f (args_are bodies args.items lengths i)
  stmt_form (Stmt-F.Print stmt es) = λ i lengths. 1 + sum_is bodies es.items lengths i
  stmt_form (Stmt-F.Assert stmt when) = λ i lengths. 1 + expr_is bodies when i lengths

  stmt_layer : (y : Stmt-F InnerStmt) → SameStmt (roll-Stmt (bare_stmt y))
  unfolding tree_of_stmt
  stmt_layer y = fold-roll-Stmt (Lengths → ℕ) (stmt_units_step p turns bodies) (bare_stmt y)
      ∙ stmt_form y
      ∙ ap tree_units (sym (fold-roll-Stmt StmtTree stmt_tree_step (bare_stmt y)))

  stmt_is : (a : Stmt) → SameStmt a
  stmt_is = ind-Stmt SameStmt (λ a y is. subst (λ a. SameStmt (roll-Stmt a)) is (stmt_layer y))

  each_stmt_is : (body : List Stmt) (lengths : Lengths)
      → map (λ a. units_of_stmt p turns bodies a lengths) body
      ≡ map (λ a. tree_units a lengths) (map tree_of_stmt body)
  each_stmt_is [] lengths = refl
  each_stmt_is (a ∷ body) lengths = λ i. stmt_is a i lengths ∷ each_stmt_is body lengths i

  -- a body costs what its tree costs
  pub body_is : (body : List Stmt) (lengths : Lengths) → units_of_body p turns bodies body lengths
      ≡ sum (map (λ a. tree_units a lengths) (map tree_of_stmt body))
  body_is body lengths = sym (sum-map (λ a. units_of_stmt p turns bodies a lengths) body)
      ∙ ap sum (each_stmt_is body lengths)

-- PROGRAMS

module _ (p q : Program) (same : tree_of p ≡ tree_of q) where
  body_same : (turns : ℕ) (bodies others : Bodies) → bodies ≡ others → (body other : List Stmt)
      → map tree_of_stmt body ≡ map tree_of_stmt other → (lengths lasts : Lengths) → lengths ≡ lasts
      → units_of_body p turns bodies body lengths ≡ units_of_body q turns others other lasts
  body_same turns bodies others bodies_are body other equal lengths lasts lengths_are =
      body_is p turns bodies body lengths
      ∙ (λ i. sum (map (λ a. stmt_units (same i).variables turns (bodies_are i) a (lengths_are i)) (equal i)))
      ∙ sym (body_is q turns others other lasts)

  abbrev lengths_in : List Variable → Lengths
  lengths_in variables = map (λ (v : Variable). declared_length v.shape) variables

  bodies_same : (turns frames : ℕ) → bodies_at p turns frames ≡ bodies_at q turns frames
  bodies_same turns zero = refl
  bodies_same turns (suc frames) = λ i f given.
      body_same turns (bodies_at p turns frames) (bodies_at q turns frames) (bodies_same turns frames)
      (function_of p f).body (function_of q f).body (λ j. (functions_same p q same f f refl j).body)
      (bound_lengths (function_of p f).params given (lengths_in p.variables))
      (bound_lengths (function_of q f).params given (lengths_in q.variables))
      (λ j. bound_lengths (functions_same p q same f f refl j).params given (lengths_in (same j).variables)) i

  whole_same : (b : Bounds) (body other : List Stmt) → map tree_of_stmt body ≡ map tree_of_stmt other
      → units_of_body p b.turns (bodies_at p b.turns (b.frames - 1)) body (lengths_in p.variables)
      ≡ units_of_body q b.turns (bodies_at q b.turns (b.frames - 1)) other (lengths_in q.variables)
  whole_same b body other equal = body_same b.turns
      (bodies_at p b.turns (b.frames - 1)) (bodies_at q b.turns (b.frames - 1))
      (bodies_same b.turns (b.frames - 1)) body other equal
      (lengths_in p.variables) (lengths_in q.variables) (λ i. lengths_in (same i).variables)

  pub units_same : (b : Bounds) → units_of p b ≡ units_of q b
  units_same b = λ i.
      sum_by (λ v. declaration_units (variable_in (same i).variables v).shape) (same i).globals
      + whole_same b p.inits q.inits (λ j. (same j).inits) i
      + whole_same b (main_of p).body (main_of q).body (λ j. (main_same p q same j).body) i
