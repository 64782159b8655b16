use Rattle.std.proofs.Common.{rules, [], ◌∷◌, ◌++◌, SFits, w64, to_z-of_z, sym, ◌∙◌, ap}
use Rattle.std.proofs.lemmas.Result.{on_ok_weaker}
use Rattle.ba_tree.specs.Trees.{tree_of_arg}
use Rattle.ba_repair.specs.Nodes.{arg_nodes, own_nodes}
use Rattle.ba_repair.proofs.Appending.{own-none, own-one, own-row, own-three, row-end, row-next}
use Rattle.ba_repair.proofs.NodeForms as forms
use Rattle.ba_typing.proofs.Walks.{next_item}
use Rattle.ba_repair.specs.declared.nodes.EditableNode.TheVariants as node
use Rattle.ba_repair.proofs.walk.+expression.Goals as goal

pub add_expr-returns-in_ok-push-in-Const : goal.add_expr-returns-in_ok-push-in-Const
add_expr-returns-in_ok-push-in-Const t c = let fits : SFits w64 c.in-Const.value = search rules in
    own-one c.args.stmt _ (node.Constant c.in-Const.t c.in-Const.value ∷ []) c.args.found.now.items _
    (forms.const-nodes c.args.expr.now _ _ c.in-Const.is)
    (c.in_ok-push-in-Const.ensures.items
    ∙ ap (λ z. c.args.found.now.items ++ own_nodes c.args.stmt (node.Constant c.in-Const.t z ∷ [])) (to_z-of_z
    fits))

pub add_expr-returns-in-Var : goal.add_expr-returns-in-Var
add_expr-returns-in-Var t c = own-none c.args.stmt _ _ (forms.var-nodes c.args.expr.now _ c.in-Var.is)

pub add_expr-returns-in-Element : goal.add_expr-returns-in-Element
add_expr-returns-in-Element t c = on_ok_weaker c.add_expr.result
    (own-one c.args.stmt _ _ _ _ (forms.element-nodes c.args.expr.now _ c.in-Element.index c.deref.result.now
    c.in-Element.is c.deref.ensures)) c.add_expr.ensures

pub add_expr-returns-in-Unary : goal.add_expr-returns-in-Unary
add_expr-returns-in-Unary t c = on_ok_weaker c.add_expr-in-Unary.result
    (own-one c.args.stmt _ _ _ _ (forms.unary-nodes c.args.expr.now _ _ c.in-Unary.a
    c.deref-in-Unary.result.now c.in-Unary.is c.deref-in-Unary.ensures)) c.add_expr-in-Unary.ensures

pub add_expr-returns-in_ok-add_expr-in-Binary : goal.add_expr-returns-in_ok-add_expr-in-Binary
add_expr-returns-in_ok-add_expr-in-Binary t c = on_ok_weaker c.add_expr-in-Binary-2.result
    (own-three c.args.stmt _ _ _ _ _ _ _ _
    (forms.binary-nodes c.args.expr.now _ _ c.in-Binary.a c.in-Binary.b c.deref-in-Binary.result.now
    c.deref-in-Binary-2.result.now c.in-Binary.is c.deref-in-Binary.ensures c.deref-in-Binary-2.ensures)
    c.in_ok-add_operator-in-Binary.ensures c.in_ok-add_expr-in-Binary.ensures) c.add_expr-in-Binary-2.ensures

pub add_expr-returns-in_ok-add_expr-in-AndAlso : goal.add_expr-returns-in_ok-add_expr-in-AndAlso
add_expr-returns-in_ok-add_expr-in-AndAlso t c = on_ok_weaker c.add_expr-in-AndAlso-2.result
    (own-three c.args.stmt _ (node.And ∷ []) _ _ _ _ _ _
    (forms.and-nodes c.args.expr.now c.in-AndAlso.a c.in-AndAlso.b c.deref-in-AndAlso.result.now
    c.deref-in-AndAlso-2.result.now c.in-AndAlso.is c.deref-in-AndAlso.ensures c.deref-in-AndAlso-2.ensures)
    c.in_ok-push-in-AndAlso.ensures.items c.in_ok-add_expr-in-AndAlso.ensures) c.add_expr-in-AndAlso-2.ensures

pub add_expr-returns-in_ok-add_expr-in-OrElse : goal.add_expr-returns-in_ok-add_expr-in-OrElse
add_expr-returns-in_ok-add_expr-in-OrElse t c = on_ok_weaker c.add_expr-in-OrElse-2.result
    (own-three c.args.stmt _ (node.Or ∷ []) _ _ _ _ _ _
    (forms.or-nodes c.args.expr.now c.in-OrElse.a c.in-OrElse.b c.deref-in-OrElse.result.now
    c.deref-in-OrElse-2.result.now c.in-OrElse.is c.deref-in-OrElse.ensures c.deref-in-OrElse-2.ensures)
    c.in_ok-push-in-OrElse.ensures.items c.in_ok-add_expr-in-OrElse.ensures) c.add_expr-in-OrElse-2.ensures

pub add_expr-returns-in_ok-add_expr-in-Select-2 : goal.add_expr-returns-in_ok-add_expr-in-Select-2
add_expr-returns-in_ok-add_expr-in-Select-2 t c = on_ok_weaker c.add_expr-in-Select-3.result
    (own-three c.args.stmt _ _ _ _ _ _ _ _
    (forms.select-nodes c.args.expr.now _ c.in-Select.when c.in-Select.yes c.in-Select.no
    c.deref-in-Select.result.now c.deref-in-Select-2.result.now c.deref-in-Select-3.result.now c.in-Select.is
    c.deref-in-Select.ensures c.deref-in-Select-2.ensures c.deref-in-Select-3.ensures)
    c.in_ok-add_expr-in-Select.ensures c.in_ok-add_expr-in-Select-2.ensures) c.add_expr-in-Select-3.ensures

pub add_expr-returns-in-Convert : goal.add_expr-returns-in-Convert
add_expr-returns-in-Convert t c = on_ok_weaker c.add_expr-in-Convert.result
    (own-one c.args.stmt _ _ _ _ (forms.convert-nodes c.args.expr.now _ c.in-Convert.a
    c.deref-in-Convert.result.now c.in-Convert.is c.deref-in-Convert.ensures)) c.add_expr-in-Convert.ensures

pub add_expr-returns-in-Call : goal.add_expr-returns-in-Call
add_expr-returns-in-Call t c = on_ok_weaker c.add_args.result
    (own-one c.args.stmt _ _ _ _
    (forms.call-nodes c.args.expr.now _ _ c.in-Call.args c.as_slice.result.now c.in-Call.is
    c.as_slice.ensures.value)) c.add_args.ensures

pub add_arg-returns-in-Value : goal.add_arg-returns-in-Value
add_arg-returns-in-Value t c = on_ok_weaker c.add_expr.result
    (own-one c.args.stmt _ _ _ _
    (ap arg_nodes (forms.value-tree c.args.arg.now c.in-Value.value c.in-Value.is))) c.add_expr.ensures

pub add_arg-returns-in-Array : goal.add_arg-returns-in-Array
add_arg-returns-in-Array t c = own-none c.args.stmt _ _
    (ap arg_nodes (forms.array-tree c.args.arg.now _ c.in-Array.is))

pub add_args-loop-arg-preserved : goal.add_args-loop-arg-preserved
add_args-loop-arg-preserved t c = row-next (λ arg. own_nodes c.args.stmt (arg_nodes (tree_of_arg arg)))
    c.args.args.now
    c.loop-arg.arg-index c.loop-arg.found.items _ c.loop-arg.invariant c.arg-item.result _
    c.in_ok-add_arg.ensures
    (next_item c.args.args.now c.loop-arg.arg-index c.arg-item.result c.loop-arg-test.true c.arg-item.is)

pub add_args-returns : goal.add_args-returns
add_args-returns t c = row-end (λ arg. own_nodes c.args.stmt (arg_nodes (tree_of_arg arg))) c.args.args.now
    c.loop-arg.arg-index c.loop-arg.found.items _ c.loop-arg.invariant c.loop-arg-test.false
    ∙ ap (λ xs. c.args.found.now.items ++ xs) (sym (own-row c.args.stmt arg_nodes tree_of_arg
    c.args.args.now))
