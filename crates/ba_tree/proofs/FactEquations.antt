-- What there is to say of each form of an expression and of a statement, one equation a form.
use Rattle.std.proofs.Common.{◌≡◌, ◌&&◌, ◌++◌, ℕ, ℤ, Bool, true, Option, List, [], ◌∷◌, map, length, ◌∙◌, ap}
use Rattle.std.proofs.lemmas.List.{length-map}
use Rattle.std.specs.Prelude.{unwrap_or}
use Rattle.std.specs.Option.{is_some}
use Rattle.std.specs.Global.{Box, Vec}
use Rattle.ba_numbers.specs.Numbers.{is_in}
use Rattle.ba_numbers.specs.declared.ids.CallId.{CallId}
use Rattle.ba_numbers.specs.declared.ids.FnId.{FnId}
use Rattle.ba_numbers.specs.declared.ids.StmtId.{StmtId}
use Rattle.ba_numbers.specs.declared.ids.VarId.{VarId}
use Rattle.ba_numbers.specs.declared.numbers.BinOp.{BinOp}
use Rattle.ba_numbers.specs.declared.numbers.CType.{CType}
use Rattle.ba_numbers.specs.declared.numbers.UnOp.{UnOp}
use Rattle.ba_numbers.specs.declared.numbers.CType.TheVariants.{I32}
use Rattle.ba_tree.specs.Facts.{ArgFacts, ExprFacts, StmtFacts, are_labels, are_simple, arg_facts, arg_facts_step, around, as_loop, as_switch, calling, expr_facts, expr_facts_step, fits_array, fits_right, fits_type, givens, has_variable, holds, initialising, is_array, is_call, is_own_array, is_value, leaf_facts, naming, numbered, operator_facts, result_at, shape_at, stmt_facts, stmt_facts_step, type_at, with_call, with_variable}
use Rattle.ba_numbers.specs.Types.{is_promoted, same_type, type_of_binary, type_of_unary}
use Rattle.ba_tree.specs.declared.tree.Arg.{Arg}
use Rattle.ba_tree.specs.declared.tree.Arg as arg
use Rattle.ba_tree.specs.declared.tree.Expr.{Expr}
use Rattle.ba_tree.specs.declared.tree.Expr as tree
use Rattle.ba_tree.specs.declared.tree.Arg.TheOpen.{Arg-F, Expr-F}
use Rattle.ba_tree.specs.declared.tree.Arg.TheFolds.{fold-roll-Arg, fold-roll-Expr}
use Rattle.ba_tree.specs.declared.tree.Function.{Function}
use Rattle.ba_tree.specs.declared.tree.Parts.{Parts}
use Rattle.ba_tree.specs.declared.tree.Start.{Start}
use Rattle.ba_tree.specs.declared.tree.Stmt.{Stmt}
use Rattle.ba_tree.specs.declared.tree.Stmt as stmts
use Rattle.ba_tree.specs.declared.tree.Stmt.TheOpen.{Stmt-F}
use Rattle.ba_tree.specs.declared.tree.Stmt.TheFolds.{fold-roll-Stmt}
use Rattle.ba_tree.specs.declared.tree.StmtKind.TheVariants as kind

-- EXPRESSIONS

module _ (p : Parts) (e : Expr) where
  pub expr_facts-Const : (t : CType) (z : ℤ) → e ≡ tree.Const t z
      → expr_facts p e ≡ operator_facts t [] (is_in t z)
  unfolding expr_facts tree.roll-Expr denote.Hole.Carrier.roll
  expr_facts-Const t z is = ap (expr_facts p) is
      ∙ fold-roll-Expr ArgFacts ExprFacts (arg_facts_step p) (expr_facts_step p) (Expr-F.Const t z)

  pub expr_facts-Var : (v : VarId) → e ≡ tree.Var v
      → expr_facts p e ≡ with_variable v (operator_facts (type_at p v) [] (is_value p v))
  unfolding expr_facts tree.roll-Expr denote.Hole.Carrier.roll
  expr_facts-Var v is = ap (expr_facts p) is
      ∙ fold-roll-Expr ArgFacts ExprFacts (arg_facts_step p) (expr_facts_step p) (Expr-F.Var v)

  pub expr_facts-Element : (array : VarId) (index : Box Expr) → e ≡ tree.Element array index
      → expr_facts p e ≡ with_variable array (operator_facts (type_at p array) (expr_facts p index.value ∷ [])
      (is_array p array && is_promoted (expr_facts p index.value).t))
  unfolding expr_facts tree.roll-Expr denote.Hole.Carrier.roll
  expr_facts-Element array index is = ap (expr_facts p) is
      ∙ fold-roll-Expr ArgFacts ExprFacts (arg_facts_step p) (expr_facts_step p) (Expr-F.Element array index)

  pub expr_facts-Unary : (op : UnOp) (t : CType) (a : Box Expr) → e ≡ tree.Unary op t a
      → expr_facts p e ≡ operator_facts (type_of_unary op t) (expr_facts p a.value ∷ [])
      (is_promoted t && same_type (expr_facts p a.value).t t)
  unfolding expr_facts tree.roll-Expr denote.Hole.Carrier.roll
  expr_facts-Unary op t a is = ap (expr_facts p) is
      ∙ fold-roll-Expr ArgFacts ExprFacts (arg_facts_step p) (expr_facts_step p) (Expr-F.Unary op t a)

  pub expr_facts-Binary : (op : BinOp) (t : CType) (a b : Box Expr) → e ≡ tree.Binary op t a b
      → expr_facts p e ≡ operator_facts (type_of_binary op t) (expr_facts p a.value ∷ expr_facts p b.value
      ∷ [])
      (is_promoted t && same_type (expr_facts p a.value).t t && fits_right op t (expr_facts p b.value).t)
  unfolding expr_facts tree.roll-Expr denote.Hole.Carrier.roll
  expr_facts-Binary op t a b is = ap (expr_facts p) is
      ∙ fold-roll-Expr ArgFacts ExprFacts (arg_facts_step p) (expr_facts_step p) (Expr-F.Binary op t a b)

  pub expr_facts-AndAlso : (a b : Box Expr) → e ≡ tree.AndAlso a b
      → expr_facts p e ≡ operator_facts I32 (expr_facts p a.value ∷ expr_facts p b.value ∷ []) true
  unfolding expr_facts tree.roll-Expr denote.Hole.Carrier.roll
  expr_facts-AndAlso a b is = ap (expr_facts p) is
      ∙ fold-roll-Expr ArgFacts ExprFacts (arg_facts_step p) (expr_facts_step p) (Expr-F.AndAlso a b)

  pub expr_facts-OrElse : (a b : Box Expr) → e ≡ tree.OrElse a b
      → expr_facts p e ≡ operator_facts I32 (expr_facts p a.value ∷ expr_facts p b.value ∷ []) true
  unfolding expr_facts tree.roll-Expr denote.Hole.Carrier.roll
  expr_facts-OrElse a b is = ap (expr_facts p) is
      ∙ fold-roll-Expr ArgFacts ExprFacts (arg_facts_step p) (expr_facts_step p) (Expr-F.OrElse a b)

  pub expr_facts-Select : (t : CType) (when a b : Box Expr) → e ≡ tree.Select t when a b
      → expr_facts p e ≡ operator_facts t (expr_facts p when.value ∷ expr_facts p a.value ∷ expr_facts p
      b.value ∷ [])
      (is_promoted t && same_type (expr_facts p a.value).t t && same_type (expr_facts p b.value).t t)
  unfolding expr_facts tree.roll-Expr denote.Hole.Carrier.roll
  expr_facts-Select t when a b is = ap (expr_facts p) is
      ∙ fold-roll-Expr ArgFacts ExprFacts (arg_facts_step p) (expr_facts_step p) (Expr-F.Select t when a b)

  pub expr_facts-Convert : (t : CType) (a : Box Expr) → e ≡ tree.Convert t a
      → expr_facts p e ≡ record (expr_facts p a.value) { t = t }
  unfolding expr_facts tree.roll-Expr denote.Hole.Carrier.roll
  expr_facts-Convert t a is = ap (expr_facts p) is
      ∙ fold-roll-Expr ArgFacts ExprFacts (arg_facts_step p) (expr_facts_step p) (Expr-F.Convert t a)

  pub expr_facts-Call : (call : CallId) (function : FnId) (args : Vec Arg) → e ≡ tree.Call call function args
      → expr_facts p e ≡ with_call call (operator_facts (unwrap_or (result_at p function) I32) (givens (map
      (arg_facts p) args.items))
      (is_call p function (map (arg_facts p) args.items) && is_some (result_at p function)))
  unfolding expr_facts arg_facts tree.roll-Expr denote.Hole.Carrier.roll
  expr_facts-Call call function args is = ap (expr_facts p) is
      ∙ fold-roll-Expr ArgFacts ExprFacts (arg_facts_step p) (expr_facts_step p) (Expr-F.Call call function
      args)

-- ARGUMENTS

module _ (p : Parts) (a : Arg) where
  pub arg_facts-Value : (value : Expr) → a ≡ arg.Value value
      → arg_facts p a ≡ record { array = Option.None; given = expr_facts p value }
  unfolding expr_facts arg_facts arg.roll-Arg denote.Hole.Carrier.roll
  arg_facts-Value value is = ap (arg_facts p) is
      ∙ fold-roll-Arg ArgFacts ExprFacts (arg_facts_step p) (expr_facts_step p) (Arg-F.Value value)

  pub arg_facts-Array : (array : VarId) → a ≡ arg.Array array
      → arg_facts p a ≡ record {
        array = Option.Some array;
        given = with_variable array (operator_facts (type_at p array) [] (is_array p array));
      }
  unfolding arg_facts arg.roll-Arg denote.Hole.Carrier.roll
  arg_facts-Array array is = ap (arg_facts p) is
      ∙ fold-roll-Arg ArgFacts ExprFacts (arg_facts_step p) (expr_facts_step p) (Arg-F.Array array)

-- STATEMENTS

-- what follows `else`
abbrev pub otherwise_facts : Parts → Function → Option (Box Stmt) → List StmtFacts
otherwise_facts p f Option.None = []
otherwise_facts p f (Option.Some part) = stmt_facts p f part.value ∷ []

module _ (p : Parts) (f : Function) (s : Stmt) where
  pub stmt_facts-Block : (body : Vec Stmt) → s ≡ stmts.Block body
      → stmt_facts p f s ≡ around (leaf_facts [] [] true) (map (stmt_facts p f) body.items)
  unfolding stmt_facts stmts.roll-Stmt denote.Hole.Carrier.roll
  stmt_facts-Block body is = ap (stmt_facts p f) is ∙ fold-roll-Stmt StmtFacts (stmt_facts_step p f)
      (Stmt-F.Block body)

  pub stmt_facts-Declare : (v : VarId) → s ≡ stmts.Declare v
      → stmt_facts p f s ≡ naming v (leaf_facts [] [] (has_variable f.locals v))
  unfolding stmt_facts stmts.roll-Stmt denote.Hole.Carrier.roll
  stmt_facts-Declare v is = ap (stmt_facts p f) is ∙ fold-roll-Stmt StmtFacts (stmt_facts_step p f)
      (Stmt-F.Declare v)

  pub stmt_facts-Init : (stmt : StmtId) (v : VarId) (value : Expr) → s ≡ stmts.Init stmt v value
      → stmt_facts p f s ≡ initialising v (leaf_facts (numbered stmt kind.Initialiser) (expr_facts p value
      ∷ [])
      (is_value p v && fits_type (type_at p v) (expr_facts p value)))
  unfolding stmt_facts stmts.roll-Stmt denote.Hole.Carrier.roll
  stmt_facts-Init stmt v value is = ap (stmt_facts p f) is ∙ fold-roll-Stmt StmtFacts (stmt_facts_step p f)
      (Stmt-F.Init stmt v value)

  pub stmt_facts-InitArray : (stmt : StmtId) (array : VarId) (values : Vec Expr) → s ≡ stmts.InitArray stmt
      array values
      → stmt_facts p f s ≡ initialising array (leaf_facts (numbered stmt kind.Initialiser) (map (expr_facts
      p) values.items)
      (holds is_own_array (shape_at p array) && fits_array p array (map (expr_facts p) values.items)))
  unfolding stmt_facts stmts.roll-Stmt denote.Hole.Carrier.roll
  stmt_facts-InitArray stmt array values is = ap (stmt_facts p f) is ∙ fold-roll-Stmt StmtFacts
      (stmt_facts_step p f) (Stmt-F.InitArray stmt array values)

  pub stmt_facts-Assign : (stmt : StmtId) (v : VarId) (value : Expr) → s ≡ stmts.Assign stmt v value
      → stmt_facts p f s ≡ naming v (leaf_facts (numbered stmt kind.Assignment) (expr_facts p value ∷ [])
      (is_value p v && fits_type (type_at p v) (expr_facts p value)))
  unfolding stmt_facts stmts.roll-Stmt denote.Hole.Carrier.roll
  stmt_facts-Assign stmt v value is = ap (stmt_facts p f) is ∙ fold-roll-Stmt StmtFacts (stmt_facts_step p
      f) (Stmt-F.Assign stmt v value)

  pub stmt_facts-Store : (stmt : StmtId) (array : VarId) (index value : Expr) → s ≡ stmts.Store stmt array
      index value
      → stmt_facts p f s ≡ naming array (leaf_facts (numbered stmt kind.Store) (expr_facts p index ∷
      expr_facts p value ∷ [])
      (is_array p array && is_promoted (expr_facts p index).t && fits_type (type_at p array)
      (expr_facts p value)))
  unfolding stmt_facts stmts.roll-Stmt denote.Hole.Carrier.roll
  stmt_facts-Store stmt array index value is = ap (stmt_facts p f) is ∙ fold-roll-Stmt StmtFacts
      (stmt_facts_step p f) (Stmt-F.Store stmt array index value)

  pub stmt_facts-If : (stmt : StmtId) (when : Expr) (a : Box Stmt) (b : Option (Box Stmt)) → s ≡ stmts.If
      stmt when a b
      → stmt_facts p f s ≡ around (leaf_facts (numbered stmt kind.Condition) (expr_facts p when ∷ []) true)
      (stmt_facts p f a.value ∷ otherwise_facts p f b)
  unfolding stmt_facts stmts.roll-Stmt denote.Hole.Carrier.roll
  stmt_facts-If stmt when a Option.None is = ap (stmt_facts p f) is
      ∙ fold-roll-Stmt StmtFacts (stmt_facts_step p f) (Stmt-F.If stmt when a Option.None)
  stmt_facts-If stmt when a (Option.Some b) is = ap (stmt_facts p f) is
      ∙ fold-roll-Stmt StmtFacts (stmt_facts_step p f) (Stmt-F.If stmt when a (Option.Some b))

  -- a `switch` over an expression that is as it should be
  abbrev switch_facts : StmtId → CType → ExprFacts → Bool → List StmtFacts → StmtFacts
  switch_facts stmt t e labels parts = as_switch (around
      (leaf_facts (numbered stmt kind.Switch) (e ∷ []) (is_promoted t && fits_type t e && labels)) parts)

  pub stmt_facts-Switch : (stmt : StmtId) (t : CType) (on : Expr) (starts : Vec Start) (other : Option ℕ)
      (body : Vec Stmt) → s ≡ stmts.Switch stmt t on starts other body
      → stmt_facts p f s ≡ switch_facts stmt t (expr_facts p on)
      (are_labels t (length body.items) starts.items other) (map (stmt_facts p f) body.items)
  unfolding stmt_facts stmts.roll-Stmt denote.Hole.Carrier.roll
  stmt_facts-Switch stmt t on starts other body is = ap (stmt_facts p f) is
      ∙ fold-roll-Stmt StmtFacts (stmt_facts_step p f) (Stmt-F.Switch stmt t on starts other body)
      ∙ ap (λ n. switch_facts stmt t (expr_facts p on) (are_labels t n starts.items other)
      (map (stmt_facts p f) body.items)) (length-map body.items (stmt_facts p f))

  pub stmt_facts-While : (stmt : StmtId) (when : Expr) (body : Box Stmt) → s ≡ stmts.While stmt when body
      → stmt_facts p f s ≡ as_loop (around (leaf_facts (numbered stmt kind.Condition) (expr_facts p when ∷
      []) true)
      (stmt_facts p f body.value ∷ []))
  unfolding stmt_facts stmts.roll-Stmt denote.Hole.Carrier.roll
  stmt_facts-While stmt when body is = ap (stmt_facts p f) is ∙ fold-roll-Stmt StmtFacts (stmt_facts_step p
      f) (Stmt-F.While stmt when body)

  pub stmt_facts-DoWhile : (stmt : StmtId) (when : Expr) (body : Box Stmt) → s ≡ stmts.DoWhile stmt when body
      → stmt_facts p f s ≡ as_loop (around (leaf_facts (numbered stmt kind.Condition) (expr_facts p when ∷
      []) true)
      (stmt_facts p f body.value ∷ []))
  unfolding stmt_facts stmts.roll-Stmt denote.Hole.Carrier.roll
  stmt_facts-DoWhile stmt when body is = ap (stmt_facts p f) is ∙ fold-roll-Stmt StmtFacts (stmt_facts_step
      p f) (Stmt-F.DoWhile stmt when body)

  pub stmt_facts-For : (stmt : StmtId) (first : Vec Stmt) (when : Expr) (step : Vec Stmt) (body : Box Stmt)
      → s ≡ stmts.For stmt first when step body
      → stmt_facts p f s ≡ as_loop (around (leaf_facts (numbered stmt kind.Condition) (expr_facts p when ∷ [])
      (are_simple (map (stmt_facts p f) first.items) && are_simple (map (stmt_facts p f) step.items)))
      (map (stmt_facts p f) first.items ++ map (stmt_facts p f) step.items ++ stmt_facts p f body.value
      ∷ []))
  unfolding stmt_facts stmts.roll-Stmt denote.Hole.Carrier.roll
  stmt_facts-For stmt first when step body is = ap (stmt_facts p f) is ∙ fold-roll-Stmt StmtFacts
      (stmt_facts_step p f) (Stmt-F.For stmt first when step body)

  pub stmt_facts-Break : s ≡ stmts.Break
      → stmt_facts p f s ≡ record (leaf_facts [] [] true) { breaks = true }
  unfolding stmt_facts stmts.roll-Stmt denote.Hole.Carrier.roll
  stmt_facts-Break is = ap (stmt_facts p f) is ∙ fold-roll-Stmt StmtFacts (stmt_facts_step p f) Stmt-F.Break

  pub stmt_facts-Continue : s ≡ stmts.Continue
      → stmt_facts p f s ≡ record (leaf_facts [] [] true) { continues = true }
  unfolding stmt_facts stmts.roll-Stmt denote.Hole.Carrier.roll
  stmt_facts-Continue is = ap (stmt_facts p f) is ∙ fold-roll-Stmt StmtFacts (stmt_facts_step p f)
      Stmt-F.Continue

  pub stmt_facts-Return : (stmt : StmtId) (value : Expr) → s ≡ stmts.Return stmt value
      → stmt_facts p f s ≡ leaf_facts (numbered stmt kind.Return) (expr_facts p value ∷ [])
      (holds (λ t. fits_type t (expr_facts p value)) f.result)
  unfolding stmt_facts stmts.roll-Stmt denote.Hole.Carrier.roll
  stmt_facts-Return stmt value is = ap (stmt_facts p f) is ∙ fold-roll-Stmt StmtFacts (stmt_facts_step p f)
      (Stmt-F.Return stmt value)

  pub stmt_facts-ReturnNone : s ≡ stmts.ReturnNone
      → stmt_facts p f s ≡ leaf_facts [] [] true
  unfolding stmt_facts stmts.roll-Stmt denote.Hole.Carrier.roll
  stmt_facts-ReturnNone is = ap (stmt_facts p f) is ∙ fold-roll-Stmt StmtFacts (stmt_facts_step p f)
      Stmt-F.ReturnNone

  pub stmt_facts-CallStmt : (stmt : StmtId) (call : CallId) (function : FnId) (args : Vec Arg) → s ≡
      stmts.CallStmt stmt call function args
      → stmt_facts p f s ≡ calling call (leaf_facts (numbered stmt kind.Call) (givens (map (arg_facts p)
      args.items))
      (is_call p function (map (arg_facts p) args.items)))
  unfolding stmt_facts stmts.roll-Stmt denote.Hole.Carrier.roll
  stmt_facts-CallStmt stmt call function args is = ap (stmt_facts p f) is ∙ fold-roll-Stmt StmtFacts
      (stmt_facts_step p f) (Stmt-F.CallStmt stmt call function args)

  pub stmt_facts-Print : (stmt : StmtId) (args : Vec Expr) → s ≡ stmts.Print stmt args
      → stmt_facts p f s ≡ leaf_facts (numbered stmt kind.Call) (map (expr_facts p) args.items) true
  unfolding stmt_facts stmts.roll-Stmt denote.Hole.Carrier.roll
  stmt_facts-Print stmt args is = ap (stmt_facts p f) is ∙ fold-roll-Stmt StmtFacts (stmt_facts_step p f)
      (Stmt-F.Print stmt args)

  pub stmt_facts-Assert : (stmt : StmtId) (when : Expr) → s ≡ stmts.Assert stmt when
      → stmt_facts p f s ≡ leaf_facts (numbered stmt kind.Assert) (expr_facts p when ∷ []) true
  unfolding stmt_facts stmts.roll-Stmt denote.Hole.Carrier.roll
  stmt_facts-Assert stmt when is = ap (stmt_facts p f) is ∙ fold-roll-Stmt StmtFacts (stmt_facts_step p f)
      (Stmt-F.Assert stmt when)
