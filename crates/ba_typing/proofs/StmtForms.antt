-- What each form of a typed statement is in the standard's terms, one equation a form.
use Rattle.std.proofs.Common.{◌≡◌, ℕ, Option, None, Some, map, ◌∙◌, ap}
use Rattle.std.specs.Global.{Box, Vec}
use Rattle.ba_numbers.specs.declared.ids.CallId.{CallId}
use Rattle.ba_numbers.specs.declared.ids.FnId.{FnId}
use Rattle.ba_numbers.specs.declared.ids.StmtId.{StmtId}
use Rattle.ba_numbers.specs.declared.ids.VarId.{VarId}
use Rattle.ba_numbers.specs.declared.numbers.CType.{CType}
use Rattle.ba_tree.specs.declared.tree.Arg.{Arg}
use Rattle.ba_tree.specs.declared.tree.Expr.{Expr}
use Rattle.ba_tree.specs.declared.tree.Start.{Start}
use Rattle.ba_tree.specs.declared.tree.Stmt.{Stmt}
use Rattle.ba_tree.specs.declared.tree.Stmt as code
use Rattle.ba_tree.specs.declared.tree.Stmt.TheFolds.{fold-roll-Stmt}
use Rattle.ba_tree.specs.declared.tree.Stmt.TheOpen.{Stmt-F}
use Rattle.ba_tree.specs.Trees.{StmtTree, stmt_tree_step, stmts_of, tree_of_arg, tree_of_expr, tree_of_stmt}
use Rattle.ba_tree.specs.Trees as tree

pub tree-Declare : (v : VarId)
    → tree_of_stmt (code.Declare v) ≡ tree.declare v
unfolding tree_of_stmt code.roll-Stmt denote.Hole.Carrier.roll
tree-Declare v = fold-roll-Stmt StmtTree stmt_tree_step (Stmt-F.Declare v)

pub tree-Init : (stmt : StmtId) (v : VarId) (e : Expr)
    → tree_of_stmt (code.Init stmt v e) ≡ tree.init stmt v (tree_of_expr e)
unfolding tree_of_stmt code.roll-Stmt denote.Hole.Carrier.roll
tree-Init stmt v e = fold-roll-Stmt StmtTree stmt_tree_step (Stmt-F.Init stmt v e)

pub tree-InitArray : (stmt : StmtId) (v : VarId) (es : Vec Expr)
    → tree_of_stmt (code.InitArray stmt v es) ≡ tree.init_array stmt v (map tree_of_expr es.items)
unfolding tree_of_stmt code.roll-Stmt denote.Hole.Carrier.roll
tree-InitArray stmt v es = fold-roll-Stmt StmtTree stmt_tree_step (Stmt-F.InitArray stmt v es)

pub tree-Assign : (stmt : StmtId) (v : VarId) (e : Expr)
    → tree_of_stmt (code.Assign stmt v e) ≡ tree.assign stmt v (tree_of_expr e)
unfolding tree_of_stmt code.roll-Stmt denote.Hole.Carrier.roll
tree-Assign stmt v e = fold-roll-Stmt StmtTree stmt_tree_step (Stmt-F.Assign stmt v e)

pub tree-Store : (stmt : StmtId) (v : VarId) (i : Expr) (e : Expr)
    → tree_of_stmt (code.Store stmt v i e) ≡ tree.store stmt v (tree_of_expr i) (tree_of_expr e)
unfolding tree_of_stmt code.roll-Stmt denote.Hole.Carrier.roll
tree-Store stmt v i e = fold-roll-Stmt StmtTree stmt_tree_step (Stmt-F.Store stmt v i e)

pub tree-Break : tree_of_stmt code.Break ≡ tree.break_loop
unfolding tree_of_stmt code.roll-Stmt denote.Hole.Carrier.roll
tree-Break = fold-roll-Stmt StmtTree stmt_tree_step Stmt-F.Break

pub tree-Continue : tree_of_stmt code.Continue ≡ tree.continue_loop
unfolding tree_of_stmt code.roll-Stmt denote.Hole.Carrier.roll
tree-Continue = fold-roll-Stmt StmtTree stmt_tree_step Stmt-F.Continue

pub tree-Return : (stmt : StmtId) (e : Expr)
    → tree_of_stmt (code.Return stmt e) ≡ tree.return_value stmt (tree_of_expr e)
unfolding tree_of_stmt code.roll-Stmt denote.Hole.Carrier.roll
tree-Return stmt e = fold-roll-Stmt StmtTree stmt_tree_step (Stmt-F.Return stmt e)

pub tree-ReturnNone : tree_of_stmt code.ReturnNone ≡ tree.return_none
unfolding tree_of_stmt code.roll-Stmt denote.Hole.Carrier.roll
tree-ReturnNone = fold-roll-Stmt StmtTree stmt_tree_step Stmt-F.ReturnNone

pub tree-CallStmt : (stmt : StmtId) (call : CallId) (f : FnId) (args : Vec Arg)
    → tree_of_stmt (code.CallStmt stmt call f args) ≡ tree.call_stmt stmt call f (map tree_of_arg args.items)
unfolding tree_of_stmt code.roll-Stmt denote.Hole.Carrier.roll
tree-CallStmt stmt call f args = fold-roll-Stmt StmtTree stmt_tree_step (Stmt-F.CallStmt stmt call f args)

pub tree-Print : (stmt : StmtId) (es : Vec Expr)
    → tree_of_stmt (code.Print stmt es) ≡ tree.print stmt (map tree_of_expr es.items)
unfolding tree_of_stmt code.roll-Stmt denote.Hole.Carrier.roll
tree-Print stmt es = fold-roll-Stmt StmtTree stmt_tree_step (Stmt-F.Print stmt es)

pub tree-Assert : (stmt : StmtId) (e : Expr)
    → tree_of_stmt (code.Assert stmt e) ≡ tree.assert stmt (tree_of_expr e)
unfolding tree_of_stmt code.roll-Stmt denote.Hole.Carrier.roll
tree-Assert stmt e = fold-roll-Stmt StmtTree stmt_tree_step (Stmt-F.Assert stmt e)

pub tree-Block : (body : Vec Stmt)
    → tree_of_stmt (code.Block body) ≡ tree.block (stmts_of (map tree_of_stmt body.items))
unfolding tree_of_stmt code.roll-Stmt denote.Hole.Carrier.roll
tree-Block body = fold-roll-Stmt StmtTree stmt_tree_step (Stmt-F.Block body)

pub tree-Switch : (stmt : StmtId) (t : CType) (on : Expr) (starts : Vec Start) (other : Option ℕ) (body :
    Vec Stmt)
    → tree_of_stmt (code.Switch stmt t on starts other body)
    ≡ tree.switch stmt t (tree_of_expr on) starts.items other (stmts_of (map tree_of_stmt body.items))
unfolding tree_of_stmt code.roll-Stmt denote.Hole.Carrier.roll
tree-Switch stmt t on starts other body =
    fold-roll-Stmt StmtTree stmt_tree_step (Stmt-F.Switch stmt t on starts other body)

-- STATEMENTS THAT HOLD OTHERS, if the code has these as values of its own

pub tree-If : (stmt : StmtId) (when : Expr) (a : Box Stmt) (s : Stmt) → a.value ≡ s
    → tree_of_stmt (code.If stmt when a None) ≡ tree.if_then stmt (tree_of_expr when) (tree_of_stmt s)
unfolding tree_of_stmt code.roll-Stmt denote.Hole.Carrier.roll
tree-If stmt when a s a_is = fold-roll-Stmt StmtTree stmt_tree_step (Stmt-F.If stmt when a None)
    ∙ ap (λ s. tree.if_then stmt (tree_of_expr when) (tree_of_stmt s)) a_is

pub tree-IfElse : (stmt : StmtId) (when : Expr) (a b : Box Stmt) (s t : Stmt) → a.value ≡ s → b.value ≡ t
    → tree_of_stmt (code.If stmt when a (Some b))
    ≡ tree.if_else stmt (tree_of_expr when) (tree_of_stmt s) (tree_of_stmt t)
unfolding tree_of_stmt code.roll-Stmt denote.Hole.Carrier.roll
tree-IfElse stmt when a b s t a_is b_is =
    fold-roll-Stmt StmtTree stmt_tree_step (Stmt-F.If stmt when a (Some b))
    ∙ ap (λ s. tree.if_else stmt (tree_of_expr when) (tree_of_stmt s) (tree_of_stmt b.value)) a_is
    ∙ ap (λ t. tree.if_else stmt (tree_of_expr when) (tree_of_stmt s) (tree_of_stmt t)) b_is

pub tree-While : (stmt : StmtId) (when : Expr) (a : Box Stmt) (s : Stmt) → a.value ≡ s
    → tree_of_stmt (code.While stmt when a) ≡ tree.while_loop stmt (tree_of_expr when) (tree_of_stmt s)
unfolding tree_of_stmt code.roll-Stmt denote.Hole.Carrier.roll
tree-While stmt when a s a_is = fold-roll-Stmt StmtTree stmt_tree_step (Stmt-F.While stmt when a)
    ∙ ap (λ s. tree.while_loop stmt (tree_of_expr when) (tree_of_stmt s)) a_is

pub tree-DoWhile : (stmt : StmtId) (when : Expr) (a : Box Stmt) (s : Stmt) → a.value ≡ s
    → tree_of_stmt (code.DoWhile stmt when a) ≡ tree.do_while stmt (tree_of_expr when) (tree_of_stmt s)
unfolding tree_of_stmt code.roll-Stmt denote.Hole.Carrier.roll
tree-DoWhile stmt when a s a_is = fold-roll-Stmt StmtTree stmt_tree_step (Stmt-F.DoWhile stmt when a)
    ∙ ap (λ s. tree.do_while stmt (tree_of_expr when) (tree_of_stmt s)) a_is

pub tree-For : (stmt : StmtId) (first : Vec Stmt) (when : Expr) (step : Vec Stmt) (a : Box Stmt) (s : Stmt)
    → a.value ≡ s
    → tree_of_stmt (code.For stmt first when step a)
    ≡ tree.for_loop stmt (stmts_of (map tree_of_stmt first.items)) (tree_of_expr when)
    (stmts_of (map tree_of_stmt step.items)) (tree_of_stmt s)
unfolding tree_of_stmt code.roll-Stmt denote.Hole.Carrier.roll
tree-For stmt first when step a s a_is =
    fold-roll-Stmt StmtTree stmt_tree_step (Stmt-F.For stmt first when step a)
    ∙ ap (λ s. tree.for_loop stmt (stmts_of (map tree_of_stmt first.items)) (tree_of_expr when)
    (stmts_of (map tree_of_stmt step.items)) (tree_of_stmt s)) a_is
