-- The editable nodes of each form of an expression and of a statement, one equation a form. x, y and z are
-- the parts as the code has them.
use Rattle.std.proofs.Common.{◌≡◌, ℕ, ℤ, Option, None, Some, List, [], ◌∷◌, ◌++◌, map, refl, sym, ◌∙◌, ap}
use Rattle.std.specs.Prelude.{flat_map, option_map}
use Rattle.std.specs.Global.{Box, Vec}
use Rattle.std.proofs.lemmas.List.Concat.{flat_map-cons}
use Rattle.ba_numbers.specs.declared.ids.CallId.{CallId}
use Rattle.ba_numbers.specs.declared.ids.FnId.{FnId}
use Rattle.ba_numbers.specs.declared.ids.StmtId.{StmtId}
use Rattle.ba_numbers.specs.declared.ids.VarId.{VarId}
use Rattle.ba_numbers.specs.declared.numbers.BinOp.{BinOp}
use Rattle.ba_numbers.specs.declared.numbers.CType.{CType}
use Rattle.ba_numbers.specs.declared.numbers.UnOp.{UnOp}
use Rattle.ba_tree.specs.declared.tree.Arg.{Arg}
use Rattle.ba_tree.specs.declared.tree.Arg as arguments
use Rattle.ba_tree.specs.declared.tree.Arg.TheOpen.{Arg-F}
use Rattle.ba_tree.specs.declared.tree.Arg.TheFolds.{fold-roll-Arg}
use Rattle.ba_tree.specs.declared.tree.Expr.{Expr}
use Rattle.ba_tree.specs.declared.tree.Expr as code
use Rattle.ba_tree.specs.declared.tree.Start.{Start}
use Rattle.ba_tree.specs.declared.tree.Stmt.{Stmt}
use Rattle.ba_tree.specs.declared.tree.Stmt as stmts
use Rattle.ba_tree.specs.Trees.{ArgTree, ExprTree, StmtTree, arg_tree_step, args_of, expr_tree_step, stmts_of, tree_of_arg, tree_of_expr, tree_of_stmt}
use Rattle.ba_tree.specs.Trees as tree
use Rattle.ba_typing.proofs.StmtForms as of_stmt
use Rattle.ba_typing.proofs.TreeForms as of_expr
use Rattle.ba_repair.specs.Nodes.{arg_nodes, args_nodes, body_nodes, expr_nodes, operator_nodes, own_nodes, stmt_nodes, stmts_nodes}
use Rattle.ba_repair.specs.declared.nodes.EditableNode.TheVariants as node
use Rattle.ba_repair.proofs.Appending.{own-append}

-- ROWS OF PARTS

pub args_nodes-row : (args : List ArgTree) → args_nodes (args_of args) ≡ flat_map arg_nodes args
args_nodes-row [] = refl
args_nodes-row (tree.value e ∷ args) = ap (λ xs. expr_nodes e ++ xs) (args_nodes-row args)
    ∙ sym (flat_map-cons arg_nodes (tree.value e) args)
args_nodes-row (tree.array v ∷ args) = args_nodes-row args
    ∙ sym (flat_map-cons arg_nodes (tree.array v) args)

pub stmts_nodes-row : (ss : List StmtTree) → stmts_nodes (stmts_of ss) ≡ body_nodes ss
stmts_nodes-row [] = refl
stmts_nodes-row (s ∷ ss) = ap (λ xs. stmt_nodes s ++ xs) (stmts_nodes-row ss)
    ∙ sym (flat_map-cons stmt_nodes s ss)

-- ARGUMENTS AS TREES

pub arg-Value : (value : Expr) → tree_of_arg (arguments.Value value) ≡ tree.value (tree_of_expr value)
unfolding tree_of_expr tree_of_arg arguments.roll-Arg denote.Hole.Carrier.roll
arg-Value value = fold-roll-Arg ArgTree ExprTree arg_tree_step expr_tree_step (Arg-F.Value value)

pub arg-Array : (array : VarId) → tree_of_arg (arguments.Array array) ≡ tree.array array
unfolding tree_of_arg arguments.roll-Arg denote.Hole.Carrier.roll
arg-Array array = fold-roll-Arg ArgTree ExprTree arg_tree_step expr_tree_step (Arg-F.Array array)

module _ (a : Arg) where
  pub value-tree : (value : Expr) → a ≡ arguments.Value value → tree_of_arg a ≡ tree.value (tree_of_expr
      value)
  value-tree value is = ap tree_of_arg is ∙ arg-Value value

  pub array-tree : (array : VarId) → a ≡ arguments.Array array → tree_of_arg a ≡ tree.array array
  array-tree array is = ap tree_of_arg is ∙ arg-Array array

-- EXPRESSIONS AS TREES

module _ (e : Expr) where
  pub const-tree : (t : CType) (z : ℤ) → e ≡ code.Const t z → tree_of_expr e ≡ tree.const t z
  const-tree t z is = ap tree_of_expr is ∙ of_expr.tree-Const t z

  pub var-tree : (v : VarId) → e ≡ code.Var v → tree_of_expr e ≡ tree.var v
  var-tree v is = ap tree_of_expr is ∙ of_expr.tree-Var v

  pub element-tree : (v : VarId) (a : Box Expr) (x : Expr) → e ≡ code.Element v a → x ≡ a.value
      → tree_of_expr e ≡ tree.element v (tree_of_expr x)
  element-tree v a x is at_x = ap tree_of_expr is ∙ of_expr.tree-Element v a x (sym at_x)

  pub unary-tree : (op : UnOp) (t : CType) (a : Box Expr) (x : Expr) → e ≡ code.Unary op t a → x ≡ a.value
      → tree_of_expr e ≡ tree.unary op t (tree_of_expr x)
  unary-tree op t a x is at_x = ap tree_of_expr is ∙ of_expr.tree-Unary op t a x (sym at_x)

  pub binary-tree : (op : BinOp) (t : CType) (a b : Box Expr) (x y : Expr) → e ≡ code.Binary op t a b
      → x ≡ a.value → y ≡ b.value
      → tree_of_expr e ≡ tree.binary op t (tree_of_expr x) (tree_of_expr y)
  binary-tree op t a b x y is at_x at_y =
      ap tree_of_expr is ∙ of_expr.tree-Binary op t a b x y (sym at_x) (sym at_y)

  pub and-tree : (a b : Box Expr) (x y : Expr) → e ≡ code.AndAlso a b → x ≡ a.value → y ≡ b.value
      → tree_of_expr e ≡ tree.and_also (tree_of_expr x) (tree_of_expr y)
  and-tree a b x y is at_x at_y = ap tree_of_expr is ∙ of_expr.tree-AndAlso a b x y (sym at_x) (sym at_y)

  pub or-tree : (a b : Box Expr) (x y : Expr) → e ≡ code.OrElse a b → x ≡ a.value → y ≡ b.value
      → tree_of_expr e ≡ tree.or_else (tree_of_expr x) (tree_of_expr y)
  or-tree a b x y is at_x at_y = ap tree_of_expr is ∙ of_expr.tree-OrElse a b x y (sym at_x) (sym at_y)

  pub select-tree : (t : CType) (a b d : Box Expr) (x y z : Expr) → e ≡ code.Select t a b d
      → x ≡ a.value → y ≡ b.value → z ≡ d.value
      → tree_of_expr e ≡ tree.select t (tree_of_expr x) (tree_of_expr y) (tree_of_expr z)
  select-tree t a b d x y z is at_x at_y at_z =
      ap tree_of_expr is ∙ of_expr.tree-Select t a b d x y z (sym at_x) (sym at_y) (sym at_z)

  pub convert-tree : (t : CType) (a : Box Expr) (x : Expr) → e ≡ code.Convert t a → x ≡ a.value
      → tree_of_expr e ≡ tree.convert t (tree_of_expr x)
  convert-tree t a x is at_x = ap tree_of_expr is ∙ of_expr.tree-Convert t a x (sym at_x)

  pub call-tree : (call : CallId) (f : FnId) (args : Vec Arg) (xs : List Arg) → e ≡ code.Call call f args
      → xs ≡ args.items → tree_of_expr e ≡ tree.call call f (args_of (map tree_of_arg xs))
  call-tree call f args xs is at_xs = ap tree_of_expr is ∙ of_expr.tree-Call call f args
      ∙ ap (λ xs. tree.call call f (args_of (map tree_of_arg xs))) (sym at_xs)

-- NODES OF EXPRESSIONS

module _ (e : Expr) where
  pub const-nodes : (t : CType) (z : ℤ) → e ≡ code.Const t z
      → expr_nodes (tree_of_expr e) ≡ node.Constant t z ∷ []
  const-nodes t z is = ap expr_nodes (const-tree e t z is)

  pub var-nodes : (v : VarId) → e ≡ code.Var v → expr_nodes (tree_of_expr e) ≡ []
  var-nodes v is = ap expr_nodes (var-tree e v is)

  pub element-nodes : (v : VarId) (a : Box Expr) (x : Expr) → e ≡ code.Element v a → x ≡ a.value
      → expr_nodes (tree_of_expr e) ≡ expr_nodes (tree_of_expr x)
  element-nodes v a x is at_x = ap expr_nodes (element-tree e v a x is at_x)

  pub unary-nodes : (op : UnOp) (t : CType) (a : Box Expr) (x : Expr) → e ≡ code.Unary op t a → x ≡ a.value
      → expr_nodes (tree_of_expr e) ≡ expr_nodes (tree_of_expr x)
  unary-nodes op t a x is at_x = ap expr_nodes (unary-tree e op t a x is at_x)

  pub binary-nodes : (op : BinOp) (t : CType) (a b : Box Expr) (x y : Expr) → e ≡ code.Binary op t a b
      → x ≡ a.value → y ≡ b.value
      → expr_nodes (tree_of_expr e)
      ≡ operator_nodes op ++ expr_nodes (tree_of_expr x) ++ expr_nodes (tree_of_expr y)
  binary-nodes op t a b x y is at_x at_y = ap expr_nodes (binary-tree e op t a b x y is at_x at_y)

  pub and-nodes : (a b : Box Expr) (x y : Expr) → e ≡ code.AndAlso a b → x ≡ a.value → y ≡ b.value
      → expr_nodes (tree_of_expr e)
      ≡ (node.And ∷ []) ++ expr_nodes (tree_of_expr x) ++ expr_nodes (tree_of_expr y)
  and-nodes a b x y is at_x at_y = ap expr_nodes (and-tree e a b x y is at_x at_y)

  pub or-nodes : (a b : Box Expr) (x y : Expr) → e ≡ code.OrElse a b → x ≡ a.value → y ≡ b.value
      → expr_nodes (tree_of_expr e)
      ≡ (node.Or ∷ []) ++ expr_nodes (tree_of_expr x) ++ expr_nodes (tree_of_expr y)
  or-nodes a b x y is at_x at_y = ap expr_nodes (or-tree e a b x y is at_x at_y)

  pub select-nodes : (t : CType) (a b d : Box Expr) (x y z : Expr) → e ≡ code.Select t a b d
      → x ≡ a.value → y ≡ b.value → z ≡ d.value
      → expr_nodes (tree_of_expr e)
      ≡ expr_nodes (tree_of_expr x) ++ expr_nodes (tree_of_expr y) ++ expr_nodes (tree_of_expr z)
  select-nodes t a b d x y z is at_x at_y at_z =
      ap expr_nodes (select-tree e t a b d x y z is at_x at_y at_z)

  pub convert-nodes : (t : CType) (a : Box Expr) (x : Expr) → e ≡ code.Convert t a → x ≡ a.value
      → expr_nodes (tree_of_expr e) ≡ expr_nodes (tree_of_expr x)
  convert-nodes t a x is at_x = ap expr_nodes (convert-tree e t a x is at_x)

  pub call-nodes : (call : CallId) (f : FnId) (args : Vec Arg) (xs : List Arg) → e ≡ code.Call call f args
      → xs ≡ args.items → expr_nodes (tree_of_expr e) ≡ flat_map arg_nodes (map tree_of_arg xs)
  call-nodes call f args xs is at_xs =
      ap expr_nodes (call-tree e call f args xs is at_xs) ∙ args_nodes-row (map tree_of_arg xs)

-- STATEMENTS AS TREES

-- an `if`, with an `else` or without
pub tree-If : (stmt : StmtId) (when : Expr) (a : Box Stmt) (b : Option (Box Stmt)) (x : Stmt) → x ≡ a.value
    → tree_of_stmt (stmts.If stmt when a b)
    ≡ tree.if_tree stmt (tree_of_expr when) (tree_of_stmt x) (option_map (λ (b : Box Stmt). tree_of_stmt
    b.value) b)
tree-If stmt when a None x at_x = of_stmt.tree-If stmt when a x (sym at_x)
tree-If stmt when a (Some b) x at_x = of_stmt.tree-IfElse stmt when a b x b.value (sym at_x) refl

module _ (s : Stmt) where
  pub block-tree : (body : Vec Stmt) (xs : List Stmt) → s ≡ stmts.Block body → xs ≡ body.items
      → tree_of_stmt s ≡ tree.block (stmts_of (map tree_of_stmt xs))
  block-tree body xs is at_xs = ap tree_of_stmt is ∙ of_stmt.tree-Block body
      ∙ ap (λ xs. tree.block (stmts_of (map tree_of_stmt xs))) (sym at_xs)

  pub declare-tree : (v : VarId) → s ≡ stmts.Declare v → tree_of_stmt s ≡ tree.declare v
  declare-tree v is = ap tree_of_stmt is ∙ of_stmt.tree-Declare v

  pub init-tree : (stmt : StmtId) (v : VarId) (e : Expr) → s ≡ stmts.Init stmt v e
      → tree_of_stmt s ≡ tree.init stmt v (tree_of_expr e)
  init-tree stmt v e is = ap tree_of_stmt is ∙ of_stmt.tree-Init stmt v e

  pub init_array-tree : (stmt : StmtId) (v : VarId) (es : Vec Expr) (xs : List Expr)
      → s ≡ stmts.InitArray stmt v es → xs ≡ es.items
      → tree_of_stmt s ≡ tree.init_array stmt v (map tree_of_expr xs)
  init_array-tree stmt v es xs is at_xs = ap tree_of_stmt is ∙ of_stmt.tree-InitArray stmt v es
      ∙ ap (λ xs. tree.init_array stmt v (map tree_of_expr xs)) (sym at_xs)

  pub assign-tree : (stmt : StmtId) (v : VarId) (e : Expr) → s ≡ stmts.Assign stmt v e
      → tree_of_stmt s ≡ tree.assign stmt v (tree_of_expr e)
  assign-tree stmt v e is = ap tree_of_stmt is ∙ of_stmt.tree-Assign stmt v e

  pub store-tree : (stmt : StmtId) (v : VarId) (index e : Expr) → s ≡ stmts.Store stmt v index e
      → tree_of_stmt s ≡ tree.store stmt v (tree_of_expr index) (tree_of_expr e)
  store-tree stmt v index e is = ap tree_of_stmt is ∙ of_stmt.tree-Store stmt v index e

  pub if-tree : (stmt : StmtId) (when : Expr) (a : Box Stmt) (b : Option (Box Stmt)) (x : Stmt)
      → s ≡ stmts.If stmt when a b → x ≡ a.value
      → tree_of_stmt s
      ≡ tree.if_tree stmt (tree_of_expr when) (tree_of_stmt x) (option_map (λ (b : Box Stmt). tree_of_stmt
      b.value) b)
  if-tree stmt when a b x is at_x = ap tree_of_stmt is ∙ tree-If stmt when a b x at_x

  pub if_then-tree : (stmt : StmtId) (when : Expr) (a : Box Stmt) (b : Option (Box Stmt)) (x : Stmt)
      → s ≡ stmts.If stmt when a b → x ≡ a.value → b ≡ None
      → tree_of_stmt s ≡ tree.if_then stmt (tree_of_expr when) (tree_of_stmt x)
  if_then-tree stmt when a b x is at_x none = if-tree stmt when a b x is at_x
      ∙ ap (λ b. tree.if_tree stmt (tree_of_expr when) (tree_of_stmt x)
      (option_map (λ (b : Box Stmt). tree_of_stmt b.value) b)) none

  pub if_else-tree : (stmt : StmtId) (when : Expr) (a : Box Stmt) (b : Option (Box Stmt)) (d : Box Stmt)
      (x y : Stmt) → s ≡ stmts.If stmt when a b → x ≡ a.value → b ≡ Some d → y ≡ d.value
      → tree_of_stmt s ≡ tree.if_else stmt (tree_of_expr when) (tree_of_stmt x) (tree_of_stmt y)
  if_else-tree stmt when a b d x y is at_x some at_y = if-tree stmt when a b x is at_x
      ∙ ap (λ b. tree.if_tree stmt (tree_of_expr when) (tree_of_stmt x)
      (option_map (λ (b : Box Stmt). tree_of_stmt b.value) b)) some
      ∙ ap (λ y. tree.if_else stmt (tree_of_expr when) (tree_of_stmt x) (tree_of_stmt y)) (sym at_y)

  pub switch-tree : (stmt : StmtId) (t : CType) (on : Expr) (starts : Vec Start) (other : Option ℕ)
      (body : Vec Stmt) (xs : List Stmt) → s ≡ stmts.Switch stmt t on starts other body → xs ≡ body.items
      → tree_of_stmt s
      ≡ tree.switch stmt t (tree_of_expr on) starts.items other (stmts_of (map tree_of_stmt xs))
  switch-tree stmt t on starts other body xs is at_xs = ap tree_of_stmt is
      ∙ of_stmt.tree-Switch stmt t on starts other body
      ∙ ap (λ xs. tree.switch stmt t (tree_of_expr on) starts.items other (stmts_of (map tree_of_stmt xs)))
      (sym at_xs)

  pub while-tree : (stmt : StmtId) (when : Expr) (a : Box Stmt) (x : Stmt) → s ≡ stmts.While stmt when a
      → x ≡ a.value → tree_of_stmt s ≡ tree.while_loop stmt (tree_of_expr when) (tree_of_stmt x)
  while-tree stmt when a x is at_x = ap tree_of_stmt is ∙ of_stmt.tree-While stmt when a x (sym at_x)

  pub do_while-tree : (stmt : StmtId) (when : Expr) (a : Box Stmt) (x : Stmt) → s ≡ stmts.DoWhile stmt when a
      → x ≡ a.value → tree_of_stmt s ≡ tree.do_while stmt (tree_of_expr when) (tree_of_stmt x)
  do_while-tree stmt when a x is at_x = ap tree_of_stmt is ∙ of_stmt.tree-DoWhile stmt when a x (sym at_x)

  pub for-tree : (stmt : StmtId) (first : Vec Stmt) (when : Expr) (step : Vec Stmt) (a : Box Stmt)
      (xs zs : List Stmt) (x : Stmt) → s ≡ stmts.For stmt first when step a → xs ≡ first.items
      → zs ≡ step.items → x ≡ a.value
      → tree_of_stmt s ≡ tree.for_loop stmt (stmts_of (map tree_of_stmt xs)) (tree_of_expr when)
      (stmts_of (map tree_of_stmt zs)) (tree_of_stmt x)
  for-tree stmt first when step a xs zs x is at_xs at_zs at_x = ap tree_of_stmt is
      ∙ of_stmt.tree-For stmt first when step a x (sym at_x)
      ∙ sym (λ i. tree.for_loop stmt (stmts_of (map tree_of_stmt (at_xs i))) (tree_of_expr when)
      (stmts_of (map tree_of_stmt (at_zs i))) (tree_of_stmt x))

  pub break-tree : s ≡ stmts.Break → tree_of_stmt s ≡ tree.break_loop
  break-tree is = ap tree_of_stmt is ∙ of_stmt.tree-Break

  pub continue-tree : s ≡ stmts.Continue → tree_of_stmt s ≡ tree.continue_loop
  continue-tree is = ap tree_of_stmt is ∙ of_stmt.tree-Continue

  pub return-tree : (stmt : StmtId) (e : Expr) → s ≡ stmts.Return stmt e
      → tree_of_stmt s ≡ tree.return_value stmt (tree_of_expr e)
  return-tree stmt e is = ap tree_of_stmt is ∙ of_stmt.tree-Return stmt e

  pub return_none-tree : s ≡ stmts.ReturnNone → tree_of_stmt s ≡ tree.return_none
  return_none-tree is = ap tree_of_stmt is ∙ of_stmt.tree-ReturnNone

  pub call_stmt-tree : (stmt : StmtId) (call : CallId) (f : FnId) (args : Vec Arg) (xs : List Arg)
      → s ≡ stmts.CallStmt stmt call f args → xs ≡ args.items
      → tree_of_stmt s ≡ tree.call_stmt stmt call f (map tree_of_arg xs)
  call_stmt-tree stmt call f args xs is at_xs = ap tree_of_stmt is ∙ of_stmt.tree-CallStmt stmt call f args
      ∙ ap (λ xs. tree.call_stmt stmt call f (map tree_of_arg xs)) (sym at_xs)

  pub print-tree : (stmt : StmtId) (args : Vec Expr) (xs : List Expr) → s ≡ stmts.Print stmt args
      → xs ≡ args.items → tree_of_stmt s ≡ tree.print stmt (map tree_of_expr xs)
  print-tree stmt args xs is at_xs = ap tree_of_stmt is ∙ of_stmt.tree-Print stmt args
      ∙ ap (λ xs. tree.print stmt (map tree_of_expr xs)) (sym at_xs)

  pub assert-tree : (stmt : StmtId) (when : Expr) → s ≡ stmts.Assert stmt when
      → tree_of_stmt s ≡ tree.assert stmt (tree_of_expr when)
  assert-tree stmt when is = ap tree_of_stmt is ∙ of_stmt.tree-Assert stmt when

-- NODES OF STATEMENTS

module _ (s : Stmt) where
  pub block-nodes : (body : Vec Stmt) (xs : List Stmt) → s ≡ stmts.Block body → xs ≡ body.items
      → stmt_nodes (tree_of_stmt s) ≡ body_nodes (map tree_of_stmt xs)
  block-nodes body xs is at_xs =
      ap stmt_nodes (block-tree s body xs is at_xs) ∙ stmts_nodes-row (map tree_of_stmt xs)

  pub store-nodes : (stmt : StmtId) (v : VarId) (index e : Expr) → s ≡ stmts.Store stmt v index e
      → stmt_nodes (tree_of_stmt s)
      ≡ own_nodes stmt (expr_nodes (tree_of_expr index)) ++ own_nodes stmt (expr_nodes (tree_of_expr e))
  store-nodes stmt v index e is = ap stmt_nodes (store-tree s stmt v index e is)
      ∙ own-append stmt (expr_nodes (tree_of_expr index)) (expr_nodes (tree_of_expr e))

  pub if_then-nodes : (stmt : StmtId) (when : Expr) (a : Box Stmt) (b : Option (Box Stmt)) (x : Stmt)
      → s ≡ stmts.If stmt when a b → x ≡ a.value → b ≡ None
      → stmt_nodes (tree_of_stmt s) ≡ own_nodes stmt (expr_nodes (tree_of_expr when)) ++ stmt_nodes
      (tree_of_stmt x)
  if_then-nodes stmt when a b x is at_x none = ap stmt_nodes (if_then-tree s stmt when a b x is at_x none)

  pub if_else-nodes : (stmt : StmtId) (when : Expr) (a : Box Stmt) (b : Option (Box Stmt)) (d : Box Stmt)
      (x y : Stmt) → s ≡ stmts.If stmt when a b → x ≡ a.value → b ≡ Some d → y ≡ d.value
      → stmt_nodes (tree_of_stmt s)
      ≡ own_nodes stmt (expr_nodes (tree_of_expr when)) ++ stmt_nodes (tree_of_stmt x)
      ++ stmt_nodes (tree_of_stmt y)
  if_else-nodes stmt when a b d x y is at_x some at_y =
      ap stmt_nodes (if_else-tree s stmt when a b d x y is at_x some at_y)

  pub switch-nodes : (stmt : StmtId) (t : CType) (on : Expr) (starts : Vec Start) (other : Option ℕ)
      (body : Vec Stmt) (xs : List Stmt) → s ≡ stmts.Switch stmt t on starts other body → xs ≡ body.items
      → stmt_nodes (tree_of_stmt s)
      ≡ own_nodes stmt (expr_nodes (tree_of_expr on)) ++ body_nodes (map tree_of_stmt xs)
  switch-nodes stmt t on starts other body xs is at_xs =
      ap stmt_nodes (switch-tree s stmt t on starts other body xs is at_xs)
      ∙ ap (λ ns. own_nodes stmt (expr_nodes (tree_of_expr on)) ++ ns) (stmts_nodes-row (map tree_of_stmt xs))

  pub while-nodes : (stmt : StmtId) (when : Expr) (a : Box Stmt) (x : Stmt) → s ≡ stmts.While stmt when a
      → x ≡ a.value
      → stmt_nodes (tree_of_stmt s) ≡ own_nodes stmt (expr_nodes (tree_of_expr when)) ++ stmt_nodes
      (tree_of_stmt x)
  while-nodes stmt when a x is at_x = ap stmt_nodes (while-tree s stmt when a x is at_x)

  pub do_while-nodes : (stmt : StmtId) (when : Expr) (a : Box Stmt) (x : Stmt) → s ≡ stmts.DoWhile stmt when a
      → x ≡ a.value
      → stmt_nodes (tree_of_stmt s) ≡ own_nodes stmt (expr_nodes (tree_of_expr when)) ++ stmt_nodes
      (tree_of_stmt x)
  do_while-nodes stmt when a x is at_x = ap stmt_nodes (do_while-tree s stmt when a x is at_x)

  pub for-nodes : (stmt : StmtId) (first : Vec Stmt) (when : Expr) (step : Vec Stmt) (a : Box Stmt)
      (xs zs : List Stmt) (x : Stmt) → s ≡ stmts.For stmt first when step a → xs ≡ first.items
      → zs ≡ step.items → x ≡ a.value
      → stmt_nodes (tree_of_stmt s)
      ≡ own_nodes stmt (expr_nodes (tree_of_expr when)) ++ body_nodes (map tree_of_stmt xs)
      ++ body_nodes (map tree_of_stmt zs) ++ stmt_nodes (tree_of_stmt x)
  for-nodes stmt first when step a xs zs x is at_xs at_zs at_x =
      ap stmt_nodes (for-tree s stmt first when step a xs zs x is at_xs at_zs at_x)
      ∙ (λ i. own_nodes stmt (expr_nodes (tree_of_expr when)) ++ stmts_nodes-row (map tree_of_stmt xs) i
      ++ stmts_nodes-row (map tree_of_stmt zs) i ++ stmt_nodes (tree_of_stmt x))
