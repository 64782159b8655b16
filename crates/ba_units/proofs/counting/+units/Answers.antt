use Rattle.std.proofs.Common.{rules, ◌≡◌, ◌+◌, ◌-◌, ◌*◌, ◌<◌, suc, [], length, sum_by, refl, ◌∙◌, ap}
use Rattle.ba_tree.specs.Heights.{weight, weights, arg_weight, arg_weights, height, heights, tallest}
use Rattle.ba_tree.specs.Units.{element_units}
use Rattle.ba_units.specs.Counts.{arg_units, expr_units, stmt_units}
use Rattle.ba_units.proofs.CallForms.{call-body, call-none, call-past}
use Rattle.ba_units.proofs.ExpressionForms as forms
use Rattle.ba_tree.proofs.Falling.{body-below, item-below}
use Rattle.ba_units.proofs.Remainders.{behind-four, behind-none, behind-one, behind-three, behind-two, row-all, row-more, row-spent}
use Rattle.ba_units.proofs.StatementForms as stmts
use Rattle.ba_units.proofs.counting.+units.Goals as goal

-- EXPRESSIONS

pub left_after_expr-returns-in-Const : goal.left_after_expr-returns-in-Const
left_after_expr-returns-in-Const t c = behind-none _ c.args.left
    (forms.expr-Const c.args.setting.now c.args.frames c.args.frame.now c.args.expr.now c.in-Const.t
    c.in-Const.value c.in-Const.is)

pub left_after_expr-returns-in-Var : goal.left_after_expr-returns-in-Var
left_after_expr-returns-in-Var t c = behind-none _ c.args.left
    (forms.expr-Var c.args.setting.now c.args.frames c.args.frame.now c.args.expr.now c.in-Var.var
    c.in-Var.is)

pub left_after_expr-returns-in-Element : goal.left_after_expr-returns-in-Element
left_after_expr-returns-in-Element t c = behind-two _ _ _ c.args.left _ _
    (forms.expr-Element c.args.setting.now c.args.frames c.args.frame.now c.args.expr.now c.in-Element.array
    c.in-Element.index c.deref.result.now c.in-Element.is c.deref.ensures)
    (c.saturating_sub-left.ensures ∙ ap (λ k. c.args.left - k) (c.element_units.ensures
    ∙ ap element_units c.length_of-length.ensures)) c.left_after_expr.ensures

pub left_after_expr-returns-in-Unary : goal.left_after_expr-returns-in-Unary
left_after_expr-returns-in-Unary t c = behind-two _ _ _ c.args.left _ _
    (forms.expr-Unary c.args.setting.now c.args.frames c.args.frame.now c.args.expr.now c.in-Unary.op
    c.in-Unary.t c.in-Unary.a c.deref-in-Unary.result.now c.in-Unary.is c.deref-in-Unary.ensures)
    c.saturating_sub-left-in-Unary.ensures c.left_after_expr-in-Unary.ensures

pub left_after_expr-returns-in-Binary : goal.left_after_expr-returns-in-Binary
left_after_expr-returns-in-Binary t c = behind-three _ _ _ _ c.args.left _ _ _
    (forms.expr-Binary c.args.setting.now c.args.frames c.args.frame.now c.args.expr.now c.in-Binary.op
    c.in-Binary.t
    c.in-Binary.a c.in-Binary.b c.deref-in-Binary.result.now c.deref-in-Binary-2.result.now c.in-Binary.is
    c.deref-in-Binary.ensures c.deref-in-Binary-2.ensures)
    (c.saturating_sub-left-in-Binary.ensures ∙ ap (λ k. c.args.left - k) c.operator_units.ensures)
    c.left_after_expr-left.ensures c.left_after_expr-in-Binary.ensures

pub left_after_expr-returns-in-AndAlso : goal.left_after_expr-returns-in-AndAlso
left_after_expr-returns-in-AndAlso t c = behind-three _ _ _ _ c.args.left _ _ _
    (forms.expr-AndAlso c.args.setting.now c.args.frames c.args.frame.now c.args.expr.now c.in-AndAlso.a
    c.in-AndAlso.b
    c.deref-in-AndAlso.result.now c.deref-in-AndAlso-2.result.now c.in-AndAlso.is c.deref-in-AndAlso.ensures
    c.deref-in-AndAlso-2.ensures)
    c.saturating_sub-left-in-AndAlso.ensures c.left_after_expr-left-in-AndAlso.ensures
    c.left_after_expr-in-AndAlso.ensures

pub left_after_expr-returns-in-OrElse : goal.left_after_expr-returns-in-OrElse
left_after_expr-returns-in-OrElse t c = behind-three _ _ _ _ c.args.left _ _ _
    (forms.expr-OrElse c.args.setting.now c.args.frames c.args.frame.now c.args.expr.now c.in-OrElse.a
    c.in-OrElse.b
    c.deref-in-OrElse.result.now c.deref-in-OrElse-2.result.now c.in-OrElse.is c.deref-in-OrElse.ensures
    c.deref-in-OrElse-2.ensures)
    c.saturating_sub-left-in-OrElse.ensures c.left_after_expr-left-in-OrElse.ensures
    c.left_after_expr-in-OrElse.ensures

pub left_after_expr-returns-in-Select : goal.left_after_expr-returns-in-Select
left_after_expr-returns-in-Select t c = behind-four _ _ _ _ _ c.args.left _ _ _ _
    (forms.expr-Select c.args.setting.now c.args.frames c.args.frame.now c.args.expr.now c.in-Select.t
    c.in-Select.when
    c.in-Select.yes c.in-Select.no c.deref-in-Select.result.now c.deref-in-Select-2.result.now
    c.deref-in-Select-3.result.now c.in-Select.is c.deref-in-Select.ensures c.deref-in-Select-2.ensures
    c.deref-in-Select-3.ensures)
    c.saturating_sub-left-in-Select.ensures c.left_after_expr-left-in-Select.ensures
    c.left_after_expr-left-in-Select-2.ensures c.left_after_expr-in-Select.ensures

pub left_after_expr-returns-in-Convert : goal.left_after_expr-returns-in-Convert
left_after_expr-returns-in-Convert t c = behind-one _ _ c.args.left _
    (forms.expr-Convert c.args.setting.now c.args.frames c.args.frame.now c.args.expr.now c.in-Convert.t
    c.in-Convert.a c.deref-in-Convert.result.now c.in-Convert.is c.deref-in-Convert.ensures)
    c.left_after_expr-in-Convert.ensures

pub left_after_expr-returns-in-Call : goal.left_after_expr-returns-in-Call
left_after_expr-returns-in-Call t c = behind-one _ _ c.args.left _
    (forms.expr-Call c.args.setting.now c.args.frames c.args.frame.now c.args.expr.now c.in-Call.call
    c.in-Call.function c.in-Call.args c.as_slice.result.now c.in-Call.is c.as_slice.ensures.value)
    c.left_after_call.ensures

pub left_after_exprs-loop-expr-preserved : goal.left_after_exprs-loop-expr-preserved
left_after_exprs-loop-expr-preserved t c = row-more
    (expr_units c.args.setting.now c.args.frames c.args.frame.now)
    c.args.exprs.now c.loop-expr.expr-index c.args.left c.loop-expr.rest c.loop-expr.invariant
    c.expr-item.result
    c.left_after_expr-rest.result c.loop-expr-test.true c.expr-item.is c.left_after_expr-rest.ensures

pub left_after_exprs-returns : goal.left_after_exprs-returns
left_after_exprs-returns t c = row-all (expr_units c.args.setting.now c.args.frames c.args.frame.now)
    c.args.exprs.now
    c.loop-expr.expr-index c.args.left c.loop-expr.rest c.loop-expr.invariant c.loop-expr-test.false

pub left_after_exprs-left_after_expr-rest-requires : goal.left_after_exprs-left_after_expr-rest-requires
left_after_exprs-left_after_expr-rest-requires t c = let h : weight c.expr-item.result < weights
    c.args.exprs.now =
    item-below weight c.args.exprs.now c.loop-expr.expr-index c.expr-item.result (search rules)
    (search rules) in
    search (rules, h)

-- CALLS

pub left_after_arg-returns-in-Value : goal.left_after_arg-returns-in-Value
left_after_arg-returns-in-Value t c = behind-two _ _ _ c.args.left _ _
    (forms.arg-Value c.args.setting.now c.args.frames c.args.frame.now c.args.arg.now c.in-Value.value
    c.in-Value.is) c.saturating_sub-left.ensures c.left_after_expr.ensures

pub left_after_arg-returns-in-Array : goal.left_after_arg-returns-in-Array
left_after_arg-returns-in-Array t c = behind-none _ c.args.left
    (forms.arg-Array c.args.setting.now c.args.frames c.args.frame.now c.args.arg.now _ c.in-Array.is)

pub left_after_args-loop-arg-preserved : goal.left_after_args-loop-arg-preserved
left_after_args-loop-arg-preserved t c = row-more
    (arg_units c.args.setting.now c.args.frames c.args.frame.now)
    c.args.args.now c.loop-arg.arg-index c.args.left c.loop-arg.rest c.loop-arg.invariant c.arg-item.result
    c.left_after_arg-rest.result c.loop-arg-test.true c.arg-item.is c.left_after_arg-rest.ensures

pub left_after_args-returns : goal.left_after_args-returns
left_after_args-returns t c = row-all (arg_units c.args.setting.now c.args.frames c.args.frame.now)
    c.args.args.now
    c.loop-arg.arg-index c.args.left c.loop-arg.rest c.loop-arg.invariant c.loop-arg-test.false

pub left_after_args-left_after_arg-rest-requires : goal.left_after_args-left_after_arg-rest-requires
left_after_args-left_after_arg-rest-requires t c = let h : arg_weight c.arg-item.result < arg_weights
    c.args.args.now =
    item-below arg_weight c.args.args.now c.loop-arg.arg-index c.arg-item.result (search rules)
    (search rules) in
    search (rules, h)

pub left_after_call-returns-then-frames-eq0 : goal.left_after_call-returns-then-frames-eq0
left_after_call-returns-then-frames-eq0 t c = behind-two _ _ _ c.args.left _ _
    (call-past c.args.setting.now c.args.frames c.args.frame.now c.args.function c.args.args.now
    c.if-frames-eq0.true) c.saturating_sub-left.ensures c.left_after_args-left.ensures

pub left_after_call-returns-in_default : goal.left_after_call-returns-in_default
left_after_call-returns-in_default t c = behind-two _ _ _ c.args.left _ _
    (call-none c.args.setting.now c.args.frames c.args.frame.now c.args.function c.args.args.now
    (c.args.frames - 1)
    (search rules) c.in_default.ensures) c.saturating_sub-left.ensures c.left_after_args-left.ensures

pub left_after_call-returns : goal.left_after_call-returns
left_after_call-returns t c = behind-three _ _ _ _ c.args.left _ _ _
    (call-body c.args.setting.now c.args.frames c.args.frame.now c.args.function c.args.args.now
    (c.args.frames - 1)
    c.in-Some.function.now c.called-inside.result c.as_slice.result.now c.as_slice-2.result.now (search rules)
    c.in-Some.ensures.1 c.as_slice.ensures c.as_slice-2.ensures
    (c.called-inside.ensures c.args.setting.now.program.now))
    c.saturating_sub-left.ensures c.left_after_args-left.ensures c.left_after_stmts.ensures

pub left_after_call-left_after_stmts-requires : goal.left_after_call-left_after_stmts-requires
left_after_call-left_after_stmts-requires t c = let frames : c.args.frames
    ≡ suc (c.args.frames - 1) = search rules in
    let h : (c.args.frames - 1) * tallest c.args.setting.now.program.now +
    (heights c.in-Some.function.now.body + 1)
    < c.args.frames * tallest c.args.setting.now.program.now =
    body-below c.args.setting.now.program.now c.in-Some.function.now c.args.function.0 c.args.frames
    (c.args.frames - 1)
    frames c.in-Some.ensures.0 c.in-Some.ensures.1 in
    search (rules, h, c.as_slice-2.ensures)

-- STATEMENTS

pub left_after_stmt-returns-in-Block : goal.left_after_stmt-returns-in-Block
left_after_stmt-returns-in-Block t c = behind-one _ _ c.args.left _
    (stmts.stmt-Block c.args.setting.now c.args.frames c.args.frame.now c.args.stmt.now c.in-Block.body
    c.as_slice.result.now c.in-Block.is c.as_slice.ensures.value) c.left_after_stmts.ensures

pub left_after_stmt-returns-in-Declare : goal.left_after_stmt-returns-in-Declare
left_after_stmt-returns-in-Declare t c = behind-one _ _ c.args.left _
    (stmts.stmt-Declare c.args.setting.now c.args.frames c.args.frame.now c.args.stmt.now c.in-Declare.var
    c.in-Declare.is) c.left_after_declaration.ensures

pub left_after_stmt-returns-in-Init : goal.left_after_stmt-returns-in-Init
left_after_stmt-returns-in-Init t c = behind-one _ _ c.args.left _
    (stmts.stmt-Init c.args.setting.now c.args.frames c.args.frame.now c.args.stmt.now c.in-Init.stmt
    c.in-Init.var c.in-Init.value c.in-Init.is) c.left_after_expr.ensures

pub left_after_stmt-returns-in-InitArray : goal.left_after_stmt-returns-in-InitArray
left_after_stmt-returns-in-InitArray t c = behind-one _ _ c.args.left _
    (stmts.stmt-InitArray c.args.setting.now c.args.frames c.args.frame.now c.args.stmt.now
    c.in-InitArray.stmt
    c.in-InitArray.array c.in-InitArray.values c.as_slice-in-InitArray.result.now c.in-InitArray.is
    c.as_slice-in-InitArray.ensures.value) c.left_after_exprs.ensures

pub left_after_stmt-returns-in-Assign : goal.left_after_stmt-returns-in-Assign
left_after_stmt-returns-in-Assign t c = behind-two _ _ _ c.args.left _ _
    (stmts.stmt-Assign c.args.setting.now c.args.frames c.args.frame.now c.args.stmt.now c.in-Assign.stmt
    c.in-Assign.var c.in-Assign.value c.in-Assign.is)
    c.saturating_sub-left.ensures c.left_after_expr-in-Assign.ensures

pub left_after_stmt-returns-in-Store : goal.left_after_stmt-returns-in-Store
left_after_stmt-returns-in-Store t c = behind-four _ _ _ _ _ c.args.left _ _ _ _
    (stmts.stmt-Store c.args.setting.now c.args.frames c.args.frame.now c.args.stmt.now c.in-Store.stmt
    c.in-Store.array c.in-Store.index c.in-Store.value c.in-Store.is) c.saturating_sub.ensures
    (c.saturating_sub-left-in-Store.ensures ∙ ap (λ k. c.saturating_sub.result - k) (c.element_units.ensures
    ∙ ap element_units c.length_of-length.ensures))
    c.left_after_expr-left.ensures c.left_after_expr-in-Store.ensures

pub left_after_stmt-returns-in-None : goal.left_after_stmt-returns-in-None
left_after_stmt-returns-in-None t c = behind-three _ _ _ _ c.args.left _ _ _
    (stmts.stmt-If-None c.args.setting.now c.args.frames c.args.frame.now c.args.stmt.now c.in-If.stmt
    c.in-If.when c.in-If.yes c.in-If.no c.deref.result.now c.in-If.is c.deref.ensures c.in-None.is)
    c.saturating_sub-left-in-If.ensures c.left_after_expr-left-in-If.ensures c.left_after_stmt-left.ensures

pub left_after_stmt-returns-in-Some : goal.left_after_stmt-returns-in-Some
left_after_stmt-returns-in-Some t c = behind-four _ _ _ _ _ c.args.left _ _ _ _
    (stmts.stmt-If-Some c.args.setting.now c.args.frames c.args.frame.now c.args.stmt.now c.in-If.stmt
    c.in-If.when
    c.in-If.yes c.in-If.no c.in-Some.no c.deref.result.now c.deref-in-Some.result.now c.in-If.is
    c.deref.ensures c.in-Some.is c.deref-in-Some.ensures)
    c.saturating_sub-left-in-If.ensures c.left_after_expr-left-in-If.ensures c.left_after_stmt-left.ensures
    c.left_after_stmt.ensures

pub left_after_stmt-returns-in-Switch : goal.left_after_stmt-returns-in-Switch
left_after_stmt-returns-in-Switch t c = behind-four _ _ _ _ _ c.args.left _ _ _ _
    (stmts.stmt-Switch c.args.setting.now c.args.frames c.args.frame.now c.args.stmt.now c.in-Switch.stmt
    c.in-Switch.t c.in-Switch.on c.in-Switch.starts c.in-Switch.other c.in-Switch.body
    c.as_slice-in-Switch-2.result.now c.in-Switch.is c.as_slice-in-Switch-2.ensures.value)
    c.saturating_sub-left-in-Switch.ensures c.left_after_expr-left-in-Switch.ensures
    (c.left_after_labels-left.ensures
    ∙ ap (λ starts. c.left_after_expr-left-in-Switch.result - length starts)
    c.as_slice-in-Switch.ensures.value)
    c.left_after_stmts-in-Switch.ensures

pub left_after_stmt-returns-in-While : goal.left_after_stmt-returns-in-While
left_after_stmt-returns-in-While t c = behind-one _ _ c.args.left _
    (stmts.stmt-While c.args.setting.now c.args.frames c.args.frame.now c.args.stmt.now c.in-While.stmt
    c.in-While.when
    c.in-While.body c.deref-in-While.result.now [] c.in-While.is c.deref-in-While.ensures refl)
    c.left_after_loop.ensures

pub left_after_stmt-returns-in-DoWhile : goal.left_after_stmt-returns-in-DoWhile
left_after_stmt-returns-in-DoWhile t c = behind-one _ _ c.args.left _
    (stmts.stmt-DoWhile c.args.setting.now c.args.frames c.args.frame.now c.args.stmt.now c.in-DoWhile.stmt
    c.in-DoWhile.when c.in-DoWhile.body c.deref-in-DoWhile.result.now [] c.in-DoWhile.is
    c.deref-in-DoWhile.ensures refl) c.left_after_loop-in-DoWhile.ensures

pub left_after_stmt-returns-in-For : goal.left_after_stmt-returns-in-For
left_after_stmt-returns-in-For t c = behind-two _ _ _ c.args.left _ _
    (stmts.stmt-For c.args.setting.now c.args.frames c.args.frame.now c.args.stmt.now c.in-For.stmt
    c.in-For.first
    c.in-For.when c.in-For.step c.in-For.body c.as_slice-in-For.result.now c.as_slice-in-For-2.result.now
    c.deref-in-For.result.now c.in-For.is c.as_slice-in-For.ensures.value c.deref-in-For.ensures
    c.as_slice-in-For-2.ensures.value) c.left_after_stmts-left.ensures c.left_after_loop-in-For.ensures

pub left_after_stmt-returns-in-Break : goal.left_after_stmt-returns-in-Break
left_after_stmt-returns-in-Break t c = behind-one _ _ c.args.left _
    (stmts.stmt-Break c.args.setting.now c.args.frames c.args.frame.now c.args.stmt.now c.in-Break.is)
    c.saturating_sub-in-Break.ensures

pub left_after_stmt-returns-in-Continue : goal.left_after_stmt-returns-in-Continue
left_after_stmt-returns-in-Continue t c = behind-one _ _ c.args.left _
    (stmts.stmt-Continue c.args.setting.now c.args.frames c.args.frame.now c.args.stmt.now c.in-Continue.is)
    c.saturating_sub-in-Continue.ensures

pub left_after_stmt-returns-in-Return : goal.left_after_stmt-returns-in-Return
left_after_stmt-returns-in-Return t c = behind-two _ _ _ c.args.left _ _
    (stmts.stmt-Return c.args.setting.now c.args.frames c.args.frame.now c.args.stmt.now c.in-Return.stmt
    c.in-Return.value c.in-Return.is)
    c.saturating_sub-left-in-Return.ensures c.left_after_expr-in-Return.ensures

pub left_after_stmt-returns-in-ReturnNone : goal.left_after_stmt-returns-in-ReturnNone
left_after_stmt-returns-in-ReturnNone t c = behind-one _ _ c.args.left _
    (stmts.stmt-ReturnNone c.args.setting.now c.args.frames c.args.frame.now c.args.stmt.now
    c.in-ReturnNone.is) c.saturating_sub-in-ReturnNone.ensures

pub left_after_stmt-returns-in-CallStmt : goal.left_after_stmt-returns-in-CallStmt
left_after_stmt-returns-in-CallStmt t c = behind-two _ _ _ c.args.left _ _
    (stmts.stmt-CallStmt c.args.setting.now c.args.frames c.args.frame.now c.args.stmt.now c.in-CallStmt.stmt
    c.in-CallStmt.call c.in-CallStmt.function c.in-CallStmt.args c.as_slice-in-CallStmt.result.now
    c.in-CallStmt.is c.as_slice-in-CallStmt.ensures.value)
    c.saturating_sub-left-in-CallStmt.ensures c.left_after_call.ensures

pub left_after_stmt-returns-in-Print : goal.left_after_stmt-returns-in-Print
left_after_stmt-returns-in-Print t c = behind-two _ _ _ c.args.left _ _
    (stmts.stmt-Print c.args.setting.now c.args.frames c.args.frame.now c.args.stmt.now c.in-Print.stmt
    c.in-Print.args c.as_slice-in-Print.result.now c.in-Print.is c.as_slice-in-Print.ensures.value)
    c.saturating_sub-left-in-Print.ensures c.left_after_exprs-in-Print.ensures

pub left_after_stmt-returns-in-Assert : goal.left_after_stmt-returns-in-Assert
left_after_stmt-returns-in-Assert t c = behind-two _ _ _ c.args.left _ _
    (stmts.stmt-Assert c.args.setting.now c.args.frames c.args.frame.now c.args.stmt.now c.in-Assert.stmt
    c.in-Assert.when c.in-Assert.is)
    c.saturating_sub-left-in-Assert.ensures c.left_after_expr-in-Assert.ensures

pub left_after_stmts-returns-then-rest-eq0 : goal.left_after_stmts-returns-then-rest-eq0
left_after_stmts-returns-then-rest-eq0 t c = row-spent
    (stmt_units c.args.setting.now c.args.frames c.args.frame.now)
    c.args.body.now c.loop-stmt.stmt-index c.args.left c.loop-stmt.rest c.loop-stmt.invariant
    c.if-rest-eq0.true

pub left_after_stmts-loop-stmt-preserved : goal.left_after_stmts-loop-stmt-preserved
left_after_stmts-loop-stmt-preserved t c = row-more
    (stmt_units c.args.setting.now c.args.frames c.args.frame.now)
    c.args.body.now c.loop-stmt.stmt-index c.args.left c.loop-stmt.rest c.loop-stmt.invariant
    c.stmt-item.result
    c.left_after_stmt-rest.result c.loop-stmt-test.true c.stmt-item.is c.left_after_stmt-rest.ensures

pub left_after_stmts-returns : goal.left_after_stmts-returns
left_after_stmts-returns t c = row-all (stmt_units c.args.setting.now c.args.frames c.args.frame.now)
    c.args.body.now
    c.loop-stmt.stmt-index c.args.left c.loop-stmt.rest c.loop-stmt.invariant c.loop-stmt-test.false

pub left_after_stmts-left_after_stmt-rest-requires : goal.left_after_stmts-left_after_stmt-rest-requires
left_after_stmts-left_after_stmt-rest-requires t c = let h : height c.stmt-item.result < heights
    c.args.body.now =
    item-below height c.args.body.now c.loop-stmt.stmt-index c.stmt-item.result (search rules)
    (search rules) in
    search (rules, h)

-- a condition and an iteration are counted once
pub left_after_loop-returns : goal.left_after_loop-returns
left_after_loop-returns t c = c.left_after_turns.ensures _ _ _
    (behind-two _ 1 _ c.args.left _ _ refl c.saturating_sub.ensures c.left_after_expr-condition.ensures)
    (c.left_after_stmts-turn.ensures
    ∙ ap (λ k. k - sum_by (stmt_units c.args.setting.now c.args.frames c.args.frame.now)
    c.args.step.now) c.left_after_stmt-turn.ensures)
