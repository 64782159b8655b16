-- The facts of typed statements, and that they are those of the Rust trees.
use Rattle.std.proofs.Common.{◌≡◌, ℕ, Bool, true, Option, None, Some, List, [], ◌∷◌, ◌++◌, map, length, refl, sym, ◌∙◌, ap, subst}
use Rattle.std.specs.Prelude.{◌&&◌}
use Rattle.ba_numbers.specs.declared.ids.StmtId.{StmtId}
use Rattle.ba_tree.specs.Facts.{ExprFacts, StmtFacts, leaf_facts, around, as_loop, as_switch, naming, initialising, calling, numbered, are_labels, are_simple, fits_array, fits_type, holds, is_own_array, is_value, is_array, has_variable, type_at, shape_at, is_call, givens, expr_facts, arg_facts, stmt_facts, stmt_facts_step}
use Rattle.ba_numbers.specs.Types.{is_promoted}
use Rattle.ba_numbers.specs.declared.numbers.CType.{CType}
use Rattle.ba_tree.specs.declared.tree.Start.{Start}
use Rattle.ba_tree.specs.declared.tree.Arg.{Arg}
use Rattle.ba_tree.specs.declared.tree.Expr.{Expr}
use Rattle.ba_tree.specs.declared.tree.Function.{Function}
use Rattle.ba_tree.specs.declared.tree.Parts.{Parts}
use Rattle.ba_tree.specs.declared.tree.Stmt.{Stmt}
use Rattle.ba_tree.specs.declared.tree.Stmt.TheOpen.{Stmt-F}
use Rattle.ba_tree.specs.declared.tree.Stmt.TheFolds.{fold-roll-Stmt, ind-Stmt, map-Stmt}
use Rattle.ba_tree.specs.declared.tree.Stmt.TheViews.{roll-Stmt}
use Rattle.ba_tree.specs.declared.tree.StmtKind.TheVariants as kind
use Rattle.ba_tree.specs.Trees.{ExprTree, StmtTree, StmtTrees, stmts_of, stmt_tree_step, tree_of_expr, tree_of_arg, tree_of_stmt}
use Rattle.ba_tree.specs.Trees as tree
use Rattle.ba_typing_facts.proofs.TreeFacts.{facts_of, arg_facts_of, expr_facts_are, arg_facts_are}

-- a condition, and what it controls
abbrev pub condition_facts : Parts → StmtId → ExprTree → Bool → List StmtFacts → StmtFacts
condition_facts p stmt when meets parts =
    around (leaf_facts (numbered stmt kind.Condition) (facts_of p when ∷ []) meets) parts

-- a `switch`, and its body
abbrev pub switch_facts : Parts → StmtId → CType → ExprTree → List Start → Option ℕ → List StmtFacts →
    StmtFacts
switch_facts p stmt t on starts other parts = as_switch (around
    (leaf_facts (numbered stmt kind.Switch) (facts_of p on ∷ [])
    (is_promoted t && fits_type t (facts_of p on) && are_labels t (length parts) starts other)) parts)

abbrev pub array_init_facts : Parts → StmtId → Rattle.ba_numbers.specs.declared.ids.VarId.VarId
    → List ExprFacts → StmtFacts
array_init_facts p stmt v es = initialising v
    (leaf_facts (numbered stmt kind.Initialiser) es (holds is_own_array (shape_at p v) && fits_array p v es))

abbrev mutual
  pub stmt_facts_of : Parts → Function → StmtTree → StmtFacts
  stmt_facts_of p f (tree.block body) = around (leaf_facts [] [] true) (stmts_facts_of p f body)
  stmt_facts_of p f (tree.declare v) = naming v (leaf_facts [] [] (has_variable f.locals v))
  stmt_facts_of p f (tree.init stmt v e) = initialising v (leaf_facts (numbered stmt kind.Initialiser)
      (facts_of p e ∷ []) (is_value p v && fits_type (type_at p v) (facts_of p e)))
  stmt_facts_of p f (tree.init_array stmt v es) = array_init_facts p stmt v (map (facts_of p) es)
  stmt_facts_of p f (tree.assign stmt v e) = naming v (leaf_facts (numbered stmt kind.Assignment)
      (facts_of p e ∷ []) (is_value p v && fits_type (type_at p v) (facts_of p e)))
  stmt_facts_of p f (tree.store stmt v i e) = naming v (leaf_facts (numbered stmt kind.Store)
      (facts_of p i ∷ facts_of p e ∷ [])
      (is_array p v && is_promoted (facts_of p i).t && fits_type (type_at p v) (facts_of p e)))
  stmt_facts_of p f (tree.if_then stmt when a) = condition_facts p stmt when true (stmt_facts_of p f a ∷ [])
  stmt_facts_of p f (tree.if_else stmt when a b) =
      condition_facts p stmt when true (stmt_facts_of p f a ∷ stmt_facts_of p f b ∷ [])
  stmt_facts_of p f (tree.switch stmt t on starts other body) =
      switch_facts p stmt t on starts other (stmts_facts_of p f body)
  stmt_facts_of p f (tree.while_loop stmt when body) =
      as_loop (condition_facts p stmt when true (stmt_facts_of p f body ∷ []))
  stmt_facts_of p f (tree.do_while stmt when body) =
      as_loop (condition_facts p stmt when true (stmt_facts_of p f body ∷ []))
  stmt_facts_of p f (tree.for_loop stmt first when step body) = as_loop (condition_facts p stmt when
      (are_simple (stmts_facts_of p f first) && are_simple (stmts_facts_of p f step))
      (stmts_facts_of p f first ++ stmts_facts_of p f step ++ stmt_facts_of p f body ∷ []))
  stmt_facts_of p f tree.break_loop = record (leaf_facts [] [] true) { breaks = true }
  stmt_facts_of p f tree.continue_loop = record (leaf_facts [] [] true) { continues = true }
  stmt_facts_of p f (tree.return_value stmt e) = leaf_facts (numbered stmt kind.Return) (facts_of p e ∷ [])
      (holds (λ t. fits_type t (facts_of p e)) f.result)
  stmt_facts_of p f tree.return_none = leaf_facts [] [] true
  stmt_facts_of p f (tree.call_stmt stmt c g args) = calling c (leaf_facts (numbered stmt kind.Call)
      (givens (map (arg_facts_of p) args)) (is_call p g (map (arg_facts_of p) args)))
  stmt_facts_of p f (tree.print stmt es) = leaf_facts (numbered stmt kind.Call) (map (facts_of p) es) true
  stmt_facts_of p f (tree.assert stmt when) = leaf_facts (numbered stmt kind.Assert)
      (facts_of p when ∷ []) true

  pub stmts_facts_of : Parts → Function → StmtTrees → List StmtFacts
  stmts_facts_of p f tree.no_stmts = []
  stmts_facts_of p f (tree.stmt_then s ss) = stmt_facts_of p f s ∷ stmts_facts_of p f ss

pub stmts_facts-map : (p : Parts) (f : Function) (ss : List StmtTree)
    → stmts_facts_of p f (stmts_of ss) ≡ map (stmt_facts_of p f) ss
stmts_facts-map p f [] = refl
stmts_facts-map p f (s ∷ ss) = ap (λ xs. stmt_facts_of p f s ∷ xs) (stmts_facts-map p f ss)

-- THE RUST TREES HAVE THE SAME FACTS

module _ (p : Parts) where
  exprs_facts_are : (es : List Expr) → map (expr_facts p) es ≡ map (facts_of p) (map tree_of_expr es)
  exprs_facts_are [] = refl
  exprs_facts_are (e ∷ es) = rw (expr_facts_are p e, exprs_facts_are es) refl

  args_facts_are : (args : List Arg) → map (arg_facts p) args ≡ map (arg_facts_of p) (map tree_of_arg args)
  args_facts_are [] = refl
  args_facts_are (a ∷ args) = rw (arg_facts_are p a, args_facts_are args) refl

  module _ (f : Function) where
    abbrev SameStmt : Stmt → Type 0
    SameStmt s = stmt_facts p f s ≡ stmt_facts_of p f (tree_of_stmt s)

    abbrev InnerStmt : Type 0
    InnerStmt = (s : Stmt) × SameStmt s

    abbrev bare_stmt : Stmt-F InnerStmt → Stmt-F Stmt
    bare_stmt = map-Stmt InnerStmt Stmt (λ s. s.0)

    same_each : (ss : List InnerStmt) → map (stmt_facts p f) (map (λ s. s.0) ss)
        ≡ map (stmt_facts_of p f) (map tree_of_stmt (map (λ s. s.0) ss))
    same_each [] = refl
    same_each (s ∷ ss) = rw (s.1, same_each ss) refl

    same_stmts : (ss : List InnerStmt) → map (stmt_facts p f) (map (λ s. s.0) ss)
        ≡ stmts_facts_of p f (stmts_of (map tree_of_stmt (map (λ s. s.0) ss)))
    same_stmts ss = same_each ss ∙ sym (stmts_facts-map p f (map tree_of_stmt (map (λ s. s.0) ss)))

    stmt_form : (y : Stmt-F InnerStmt)
        → stmt_facts_step p f (map-Stmt Stmt StmtFacts (stmt_facts p f) (bare_stmt y))
        ≡ stmt_facts_of p f (stmt_tree_step (map-Stmt Stmt StmtTree tree_of_stmt (bare_stmt y)))
    stmt_form (Stmt-F.Block body) = rw (same_stmts body.items) refl
    stmt_form (Stmt-F.Declare v) = refl
    stmt_form (Stmt-F.Init stmt v e) = rw (expr_facts_are p e) refl
    stmt_form (Stmt-F.InitArray stmt v es) = rw (exprs_facts_are es.items) refl
    stmt_form (Stmt-F.Assign stmt v e) = rw (expr_facts_are p e) refl
    stmt_form (Stmt-F.Store stmt v i e) = rw (expr_facts_are p i, expr_facts_are p e) refl
    stmt_form (Stmt-F.If stmt when a None) = rw (expr_facts_are p when, a.value.1) refl
    stmt_form (Stmt-F.If stmt when a (Some b)) = rw (expr_facts_are p when, a.value.1, b.value.1) refl
    stmt_form (Stmt-F.Switch stmt t on starts other body) =
        rw (expr_facts_are p on, same_stmts body.items) refl
    stmt_form (Stmt-F.While stmt when body) = rw (expr_facts_are p when, body.value.1) refl
    stmt_form (Stmt-F.DoWhile stmt when body) = rw (expr_facts_are p when, body.value.1) refl
    stmt_form (Stmt-F.For stmt first when step body) =
        rw (expr_facts_are p when, same_stmts first.items, same_stmts step.items, body.value.1) refl
    stmt_form Stmt-F.Break = refl
    stmt_form Stmt-F.Continue = refl
    stmt_form (Stmt-F.Return stmt e) = rw (expr_facts_are p e) refl
    stmt_form Stmt-F.ReturnNone = refl
    stmt_form (Stmt-F.CallStmt stmt c g args) = rw (args_facts_are args.items) refl
    stmt_form (Stmt-F.Print stmt args) = rw (exprs_facts_are args.items) refl
    stmt_form (Stmt-F.Assert stmt when) = rw (expr_facts_are p when) refl

    stmt_layer : (y : Stmt-F InnerStmt) → SameStmt (roll-Stmt (bare_stmt y))
    unfolding stmt_facts tree_of_stmt
    stmt_layer y = fold-roll-Stmt StmtFacts (stmt_facts_step p f) (bare_stmt y)
        ∙ stmt_form y
        ∙ ap (stmt_facts_of p f) (sym (fold-roll-Stmt StmtTree stmt_tree_step (bare_stmt y)))

    pub stmt_facts_are : (s : Stmt) → SameStmt s
    stmt_facts_are = ind-Stmt SameStmt (λ s y is. subst (λ s. SameStmt (roll-Stmt s)) is (stmt_layer y))

    pub all_facts_are : (ss : List Stmt) → map (stmt_facts p f) ss ≡ map (stmt_facts_of p f)
        (map tree_of_stmt ss)
    all_facts_are [] = refl
    all_facts_are (s ∷ ss) = rw (stmt_facts_are s, all_facts_are ss) refl
