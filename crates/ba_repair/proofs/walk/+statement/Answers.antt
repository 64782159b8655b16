use Rattle.std.proofs.Common.{◌++◌, sym, ◌∙◌, ap}
use Rattle.std.proofs.lemmas.List.Folds.{flat_map-map}
use Rattle.std.proofs.lemmas.Result.{on_ok_weaker}
use Rattle.ba_tree.specs.Trees.{tree_of_stmt}
use Rattle.ba_repair.specs.Nodes.{stmt_nodes}
use Rattle.ba_repair.proofs.Appending.{row-end, row-next, whole-four, whole-none, whole-one, whole-three, whole-two}
use Rattle.ba_repair.proofs.NodeForms as forms
use Rattle.ba_typing.proofs.Walks.{next_item}
use Rattle.ba_repair.proofs.walk.+statement.Goals as goal

pub add_stmt-returns-in-Block : goal.add_stmt-returns-in-Block
add_stmt-returns-in-Block t c = on_ok_weaker c.add_stmts.result
    (whole-one _ _ _ _ (forms.block-nodes c.args.stmt.now c.in-Block.body c.as_slice.result.now c.in-Block.is
    c.as_slice.ensures.value)) c.add_stmts.ensures

pub add_stmt-returns-in-Declare : goal.add_stmt-returns-in-Declare
add_stmt-returns-in-Declare t c = whole-none _ _ (ap stmt_nodes (forms.declare-tree c.args.stmt.now _
    c.in-Declare.is))

pub add_stmt-returns-in-Init : goal.add_stmt-returns-in-Init
add_stmt-returns-in-Init t c = on_ok_weaker c.add_expr.result
    (whole-one _ _ _ _ (ap stmt_nodes (forms.init-tree c.args.stmt.now _ _ _ c.in-Init.is)))
    c.add_expr.ensures

pub add_stmt-returns-in-InitArray : goal.add_stmt-returns-in-InitArray
add_stmt-returns-in-InitArray t c = on_ok_weaker c.add_exprs.result
    (whole-one _ _ _ _ (ap stmt_nodes (forms.init_array-tree c.args.stmt.now _ _ c.in-InitArray.values
    c.as_slice-in-InitArray.result.now c.in-InitArray.is c.as_slice-in-InitArray.ensures.value)))
    c.add_exprs.ensures

pub add_stmt-returns-in-Assign : goal.add_stmt-returns-in-Assign
add_stmt-returns-in-Assign t c = on_ok_weaker c.add_expr-in-Assign.result
    (whole-one _ _ _ _ (ap stmt_nodes (forms.assign-tree c.args.stmt.now _ _ _ c.in-Assign.is)))
    c.add_expr-in-Assign.ensures

pub add_stmt-returns-in_ok-add_expr-in-Store : goal.add_stmt-returns-in_ok-add_expr-in-Store
add_stmt-returns-in_ok-add_expr-in-Store t c = on_ok_weaker c.add_expr-in-Store-2.result
    (whole-two _ _ _ _ _ _ (forms.store-nodes c.args.stmt.now _ _ _ _ c.in-Store.is)
    c.in_ok-add_expr-in-Store.ensures) c.add_expr-in-Store-2.ensures

pub add_stmt-returns-in-None : goal.add_stmt-returns-in-None
add_stmt-returns-in-None t c = whole-two _ _ _ _ _ _ (forms.if_then-nodes c.args.stmt.now _ _ c.in-If.yes
    c.in-If.no c.deref.result.now c.in-If.is c.deref.ensures c.in-None.is)
    c.in_ok-add_expr-in-If.ensures c.in_ok-add_stmt-in-If.ensures

pub add_stmt-returns-in-Some : goal.add_stmt-returns-in-Some
add_stmt-returns-in-Some t c = on_ok_weaker c.add_stmt-in-Some.result
    (whole-three _ _ _ _ _ _ _ _ (forms.if_else-nodes c.args.stmt.now _ _ c.in-If.yes c.in-If.no c.in-Some.no
    c.deref.result.now c.deref-in-Some.result.now c.in-If.is c.deref.ensures c.in-Some.is
    c.deref-in-Some.ensures)
    c.in_ok-add_expr-in-If.ensures c.in_ok-add_stmt-in-If.ensures) c.add_stmt-in-Some.ensures

pub add_stmt-returns-in_ok-add_expr-in-Switch : goal.add_stmt-returns-in_ok-add_expr-in-Switch
add_stmt-returns-in_ok-add_expr-in-Switch t c = on_ok_weaker c.add_stmts-in-Switch.result
    (whole-two _ _ _ _ _ _
    (forms.switch-nodes c.args.stmt.now _ _ _ c.in-Switch.starts _ c.in-Switch.body
    c.as_slice-in-Switch.result.now c.in-Switch.is c.as_slice-in-Switch.ensures.value)
    c.in_ok-add_expr-in-Switch.ensures) c.add_stmts-in-Switch.ensures

pub add_stmt-returns-in_ok-add_expr-in-While : goal.add_stmt-returns-in_ok-add_expr-in-While
add_stmt-returns-in_ok-add_expr-in-While t c = on_ok_weaker c.add_stmt-in-While.result
    (whole-two _ _ _ _ _ _ (forms.while-nodes c.args.stmt.now _ _ c.in-While.body c.deref-in-While.result.now
    c.in-While.is c.deref-in-While.ensures)
    c.in_ok-add_expr-in-While.ensures) c.add_stmt-in-While.ensures

pub add_stmt-returns-in_ok-add_expr-in-DoWhile : goal.add_stmt-returns-in_ok-add_expr-in-DoWhile
add_stmt-returns-in_ok-add_expr-in-DoWhile t c = on_ok_weaker c.add_stmt-in-DoWhile.result
    (whole-two _ _ _ _ _ _ (forms.do_while-nodes c.args.stmt.now _ _ c.in-DoWhile.body
    c.deref-in-DoWhile.result.now c.in-DoWhile.is c.deref-in-DoWhile.ensures)
    c.in_ok-add_expr-in-DoWhile.ensures) c.add_stmt-in-DoWhile.ensures

pub add_stmt-returns-in_ok-add_stmts-in-For-2 : goal.add_stmt-returns-in_ok-add_stmts-in-For-2
add_stmt-returns-in_ok-add_stmts-in-For-2 t c = on_ok_weaker c.add_stmt-in-For.result
    (whole-four _ _ _ _ _ _ _ _ _ _
    (forms.for-nodes c.args.stmt.now _ c.in-For.first _ c.in-For.step c.in-For.body
    c.as_slice-in-For.result.now c.as_slice-in-For-2.result.now c.deref-in-For.result.now c.in-For.is
    c.as_slice-in-For.ensures.value c.as_slice-in-For-2.ensures.value c.deref-in-For.ensures)
    c.in_ok-add_expr-in-For.ensures c.in_ok-add_stmts-in-For.ensures c.in_ok-add_stmts-in-For-2.ensures)
    c.add_stmt-in-For.ensures

pub add_stmt-returns-in-Break : goal.add_stmt-returns-in-Break
add_stmt-returns-in-Break t c = whole-none _ _ (ap stmt_nodes (forms.break-tree c.args.stmt.now
    c.in-Break.is))

pub add_stmt-returns-in-Continue : goal.add_stmt-returns-in-Continue
add_stmt-returns-in-Continue t c = whole-none _ _ (ap stmt_nodes (forms.continue-tree c.args.stmt.now
    c.in-Continue.is))

pub add_stmt-returns-in-ReturnNone : goal.add_stmt-returns-in-ReturnNone
add_stmt-returns-in-ReturnNone t c = whole-none _ _ (ap stmt_nodes (forms.return_none-tree c.args.stmt.now
    c.in-ReturnNone.is))

pub add_stmt-returns-in-Return : goal.add_stmt-returns-in-Return
add_stmt-returns-in-Return t c = on_ok_weaker c.add_expr-in-Return.result
    (whole-one _ _ _ _ (ap stmt_nodes (forms.return-tree c.args.stmt.now _ _ c.in-Return.is)))
    c.add_expr-in-Return.ensures

pub add_stmt-returns-in-CallStmt : goal.add_stmt-returns-in-CallStmt
add_stmt-returns-in-CallStmt t c = on_ok_weaker c.add_args.result
    (whole-one _ _ _ _ (ap stmt_nodes (forms.call_stmt-tree c.args.stmt.now _ _ _ c.in-CallStmt.args
    c.as_slice-in-CallStmt.result.now c.in-CallStmt.is c.as_slice-in-CallStmt.ensures.value)))
    c.add_args.ensures

pub add_stmt-returns-in-Print : goal.add_stmt-returns-in-Print
add_stmt-returns-in-Print t c = on_ok_weaker c.add_exprs-in-Print.result
    (whole-one _ _ _ _ (ap stmt_nodes (forms.print-tree c.args.stmt.now _ c.in-Print.args
    c.as_slice-in-Print.result.now c.in-Print.is c.as_slice-in-Print.ensures.value)))
    c.add_exprs-in-Print.ensures

pub add_stmt-returns-in-Assert : goal.add_stmt-returns-in-Assert
add_stmt-returns-in-Assert t c = on_ok_weaker c.add_expr-in-Assert.result
    (whole-one _ _ _ _ (ap stmt_nodes (forms.assert-tree c.args.stmt.now _ _ c.in-Assert.is)))
    c.add_expr-in-Assert.ensures

pub add_stmts-loop-stmt-preserved : goal.add_stmts-loop-stmt-preserved
add_stmts-loop-stmt-preserved t c = row-next (λ stmt. stmt_nodes (tree_of_stmt stmt)) c.args.stmts.now
    c.loop-stmt.stmt-index c.loop-stmt.found.items _ c.loop-stmt.invariant c.stmt-item.result _
    c.in_ok-add_stmt.ensures
    (next_item c.args.stmts.now c.loop-stmt.stmt-index c.stmt-item.result c.loop-stmt-test.true
    c.stmt-item.is)

pub add_stmts-returns : goal.add_stmts-returns
add_stmts-returns t c = row-end (λ stmt. stmt_nodes (tree_of_stmt stmt)) c.args.stmts.now
    c.loop-stmt.stmt-index c.loop-stmt.found.items _ c.loop-stmt.invariant c.loop-stmt-test.false
    ∙ ap (λ xs. c.args.found.now.items ++ xs) (sym (flat_map-map stmt_nodes tree_of_stmt c.args.stmts.now))
