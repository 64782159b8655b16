use Rattle.std.proofs.Common.{◌∙◌}
use Rattle.std.proofs.lemmas.Result.{IfOk-weaker}
use Rattle.ba_tree.specs.Trees.{tree_of_stmt}
use Rattle.ba_typing.proofs.Walks.{next_item}
use Rattle.ba_repair.specs.Changes.{changed_stmt}
use Rattle.ba_repair.proofs.Copying.{copied-Assert, copied-Assign, copied-Block, copied-Break, copied-CallStmt, copied-Continue, copied-Declare, copied-DoWhile, copied-For, copied-If, copied-Init, copied-InitArray, copied-Print, copied-Return, copied-ReturnNone, copied-Store, copied-Switch, copied-While, copies-end, copies-next}
use Rattle.ba_repair.proofs.statements.+copying.Goals as goal

pub copy_stmt-returns-in_ok-body-in-Block : goal.copy_stmt-returns-in_ok-body-in-Block
copy_stmt-returns-in_ok-body-in-Block t c = copied-Block c.args.edit c.args.stmt.now c.in-Block.body
    c.in_ok-body-in-Block.body c.as_slice.result.now c.in-Block.is c.as_slice.ensures.value
    c.in_ok-body-in-Block.ensures

pub copy_stmt-returns-in-Declare : goal.copy_stmt-returns-in-Declare
copy_stmt-returns-in-Declare t c = copied-Declare c.args.edit c.args.stmt.now _ c.in-Declare.is

pub copy_stmt-returns-in_ok-value-in-Init : goal.copy_stmt-returns-in_ok-value-in-Init
copy_stmt-returns-in_ok-value-in-Init t c = copied-Init c.args.edit c.args.stmt.now _ _ _ _ c.in-Init.is
    c.in_ok-value-in-Init.ensures

pub copy_stmt-returns-in_ok-values-in-InitArray : goal.copy_stmt-returns-in_ok-values-in-InitArray
copy_stmt-returns-in_ok-values-in-InitArray t c = copied-InitArray c.args.edit c.args.stmt.now _ _
    c.in-InitArray.values c.in_ok-values-in-InitArray.values c.as_slice-in-InitArray.result.now _
    c.in-InitArray.is c.as_slice-in-InitArray.ensures.value c.node_in.ensures
    c.in_ok-values-in-InitArray.ensures

pub copy_stmt-returns-in_ok-value-in-Assign : goal.copy_stmt-returns-in_ok-value-in-Assign
copy_stmt-returns-in_ok-value-in-Assign t c = copied-Assign c.args.edit c.args.stmt.now _ _ _ _ c.in-Assign.is
    c.in_ok-value-in-Assign.ensures

pub copy_stmt-returns-in-Store : goal.copy_stmt-returns-in-Store
copy_stmt-returns-in-Store t c = IfOk-weaker c.copy_store.result _ _ (λ copy made. copied-Store c.args.edit
    c.args.stmt.now _ _ _ _ copy c.in-Store.is made) c.copy_store.ensures

pub copy_stmt-returns-in_ok-no-in-If : goal.copy_stmt-returns-in_ok-no-in-If
copy_stmt-returns-in_ok-no-in-If t c = copied-If c.args.edit c.args.stmt.now _ _ _ c.in-If.yes
    c.in_ok-yes-in-If.yes c.in-If.no c.in_ok-no-in-If.no c.deref.result.now c.in-If.is c.deref.ensures
    c.in_ok-when-in-If.ensures c.in_ok-yes-in-If.ensures c.in_ok-no-in-If.ensures

pub copy_stmt-returns-in_ok-body-in-Switch : goal.copy_stmt-returns-in_ok-body-in-Switch
copy_stmt-returns-in_ok-body-in-Switch t c = copied-Switch c.args.edit c.args.stmt.now _ _ _ _
    c.in-Switch.starts c.in_ok-starts-in-Switch.starts _ c.in-Switch.body c.in_ok-body-in-Switch.body
    c.as_slice-in-Switch-2.result.now c.in-Switch.is c.as_slice-in-Switch-2.ensures.value
    (c.in_ok-starts-in-Switch.ensures ∙ c.as_slice-in-Switch.ensures.value) c.in_ok-on-in-Switch.ensures
    c.in_ok-body-in-Switch.ensures

pub copy_stmt-returns-in_ok-body-in-While : goal.copy_stmt-returns-in_ok-body-in-While
copy_stmt-returns-in_ok-body-in-While t c = copied-While c.args.edit c.args.stmt.now _ _ _ c.in-While.body
    c.in_ok-body-in-While.body c.deref-in-While.result.now c.in-While.is c.deref-in-While.ensures
    c.in_ok-when-in-While.ensures c.in_ok-body-in-While.ensures

pub copy_stmt-returns-in_ok-body-in-DoWhile : goal.copy_stmt-returns-in_ok-body-in-DoWhile
copy_stmt-returns-in_ok-body-in-DoWhile t c = copied-DoWhile c.args.edit c.args.stmt.now _ _ _
    c.in-DoWhile.body c.in_ok-body-in-DoWhile.body c.deref-in-DoWhile.result.now c.in-DoWhile.is
    c.deref-in-DoWhile.ensures c.in_ok-when-in-DoWhile.ensures c.in_ok-body-in-DoWhile.ensures

pub copy_stmt-returns-in_ok-body-in-For : goal.copy_stmt-returns-in_ok-body-in-For
copy_stmt-returns-in_ok-body-in-For t c = copied-For c.args.edit c.args.stmt.now _ c.in-For.first
    c.in_ok-first-in-For.first _ _ c.in-For.step c.in_ok-step-in-For.step c.in-For.body
    c.in_ok-body-in-For.body c.as_slice-in-For.result.now c.as_slice-in-For-2.result.now
    c.deref-in-For.result.now c.in-For.is c.as_slice-in-For.ensures.value c.as_slice-in-For-2.ensures.value
    c.deref-in-For.ensures c.in_ok-first-in-For.ensures c.in_ok-when-in-For.ensures
    c.in_ok-step-in-For.ensures c.in_ok-body-in-For.ensures

pub copy_stmt-returns-in-Break : goal.copy_stmt-returns-in-Break
copy_stmt-returns-in-Break t c = copied-Break c.args.edit c.args.stmt.now c.in-Break.is

pub copy_stmt-returns-in-Continue : goal.copy_stmt-returns-in-Continue
copy_stmt-returns-in-Continue t c = copied-Continue c.args.edit c.args.stmt.now c.in-Continue.is

pub copy_stmt-returns-in-ReturnNone : goal.copy_stmt-returns-in-ReturnNone
copy_stmt-returns-in-ReturnNone t c = copied-ReturnNone c.args.edit c.args.stmt.now c.in-ReturnNone.is

pub copy_stmt-returns-in_ok-value-in-Return : goal.copy_stmt-returns-in_ok-value-in-Return
copy_stmt-returns-in_ok-value-in-Return t c = copied-Return c.args.edit c.args.stmt.now _ _ _ c.in-Return.is
    c.in_ok-value-in-Return.ensures

pub copy_stmt-returns-in_ok-args-in-CallStmt : goal.copy_stmt-returns-in_ok-args-in-CallStmt
copy_stmt-returns-in_ok-args-in-CallStmt t c = copied-CallStmt c.args.edit c.args.stmt.now _ _ _
    c.in-CallStmt.args c.in_ok-args-in-CallStmt.args c.as_slice-in-CallStmt.result.now c.in-CallStmt.is
    c.as_slice-in-CallStmt.ensures.value c.in_ok-args-in-CallStmt.ensures

pub copy_stmt-returns-in_ok-args-in-Print : goal.copy_stmt-returns-in_ok-args-in-Print
copy_stmt-returns-in_ok-args-in-Print t c = copied-Print c.args.edit c.args.stmt.now _ c.in-Print.args
    c.in_ok-args-in-Print.args c.as_slice-in-Print.result.now _ c.in-Print.is
    c.as_slice-in-Print.ensures.value c.node_in-in-Print.ensures c.in_ok-args-in-Print.ensures

pub copy_stmt-returns-in_ok-when-in-Assert : goal.copy_stmt-returns-in_ok-when-in-Assert
copy_stmt-returns-in_ok-when-in-Assert t c = copied-Assert c.args.edit c.args.stmt.now _ _ _ c.in-Assert.is
    c.in_ok-when-in-Assert.ensures

pub copy_stmts-loop-stmt-preserved : goal.copy_stmts-loop-stmt-preserved
copy_stmts-loop-stmt-preserved t c = copies-next tree_of_stmt (changed_stmt c.args.edit) c.args.stmts.now
    c.loop-stmt.stmt-index
    c.loop-stmt.copies.items _ c.loop-stmt.invariant c.stmt-item.result c.in_ok-copy.copy _
    (next_item c.args.stmts.now c.loop-stmt.stmt-index c.stmt-item.result c.loop-stmt-test.true
    c.stmt-item.is)
    c.in_ok-copy.ensures c.in_ok-push.ensures.items

pub copy_stmts-returns : goal.copy_stmts-returns
copy_stmts-returns t c = copies-end tree_of_stmt (changed_stmt c.args.edit) c.args.stmts.now
    c.loop-stmt.stmt-index
    c.loop-stmt.copies.items _ c.loop-stmt.invariant c.loop-stmt-test.false
