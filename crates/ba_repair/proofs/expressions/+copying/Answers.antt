use Rattle.std.proofs.Common.{rules, ◌<◌, [], ◌∷◌, SFits, w64, to_z-of_z, refl, sym, ◌∙◌, ap}
use Rattle.ba_tree.specs.Heights.{arg_weight, arg_weights}
use Rattle.ba_tree.specs.Trees.{value}
use Rattle.ba_tree.proofs.Falling.{item-below}
use Rattle.ba_typing.proofs.Walks.{next_item}
use Rattle.ba_repair.specs.Changes.{changed_arg, changed_value}
use Rattle.ba_repair.specs.Nodes.{arg_nodes}
use Rattle.ba_repair.specs.declared.nodes.EditableNode.TheVariants as node
use Rattle.ba_repair.proofs.Copying.{args-end, args-left-end, args-left-next, args-next, copied-And, copied-Binary, copied-Call, copied-Const, copied-Convert, copied-Element, copied-Or, copied-Select, copied-Unary, copied-Var}
use Rattle.ba_repair.proofs.Counting.{left-none, left-one, left-three}
use Rattle.ba_repair.proofs.NodeForms as forms
use Rattle.ba_repair.proofs.expressions.+copying.Goals as goal

pub copy_expr-returns-in-Const : goal.copy_expr-returns-in-Const
copy_expr-returns-in-Const t c =
    let fits : SFits w64 c.in-Const.value = search rules in
    let changed : SFits w64 c.changed_value.result = search rules in
    record {
      copy = copied-Const c.args.change c.args.left.now c.args.expr.now _ _ _ _ c.in-Const.is
          c.change_here-change.ensures.here
          (to_z-of_z changed ∙ c.changed_value.ensures
          ∙ ap (changed_value c.change_here-change.result) (to_z-of_z fits));
      left = left-one _ (_ ∷ []) _ _ (forms.const-nodes c.args.expr.now _ _ c.in-Const.is)
          c.change_here-change.ensures.left;
    }

pub copy_expr-returns-in-Var : goal.copy_expr-returns-in-Var
copy_expr-returns-in-Var t c = record {
  copy = copied-Var c.args.change c.args.left.now c.args.expr.now _ c.in-Var.is;
  left = left-none _ _ (forms.var-nodes c.args.expr.now _ c.in-Var.is);
}

pub copy_expr-returns-in_ok-index-in-Element : goal.copy_expr-returns-in_ok-index-in-Element
copy_expr-returns-in_ok-index-in-Element t c = record {
  copy = copied-Element c.args.change c.args.left.now c.args.expr.now _ c.in-Element.index
      c.in_ok-index-in-Element.index c.deref.result.now c.in-Element.is c.deref.ensures
      c.in_ok-index-in-Element.ensures.copy;
  left = left-one _ _ _ _ (forms.element-nodes c.args.expr.now _ c.in-Element.index c.deref.result.now
      c.in-Element.is c.deref.ensures) c.in_ok-index-in-Element.ensures.left;
}

pub copy_expr-returns-in_ok-a-in-Unary : goal.copy_expr-returns-in_ok-a-in-Unary
copy_expr-returns-in_ok-a-in-Unary t c = record {
  copy = copied-Unary c.args.change c.args.left.now c.args.expr.now _ _ c.in-Unary.a c.in_ok-a-in-Unary.a
      c.deref-in-Unary.result.now c.in-Unary.is c.deref-in-Unary.ensures c.in_ok-a-in-Unary.ensures.copy;
  left = left-one _ _ _ _ (forms.unary-nodes c.args.expr.now _ _ c.in-Unary.a c.deref-in-Unary.result.now
      c.in-Unary.is c.deref-in-Unary.ensures) c.in_ok-a-in-Unary.ensures.left;
}

pub copy_expr-returns-in_ok-a-in-Convert : goal.copy_expr-returns-in_ok-a-in-Convert
copy_expr-returns-in_ok-a-in-Convert t c = record {
  copy = copied-Convert c.args.change c.args.left.now c.args.expr.now _ c.in-Convert.a c.in_ok-a-in-Convert.a
      c.deref-in-Convert.result.now c.in-Convert.is c.deref-in-Convert.ensures
      c.in_ok-a-in-Convert.ensures.copy;
  left = left-one _ _ _ _ (forms.convert-nodes c.args.expr.now _ c.in-Convert.a c.deref-in-Convert.result.now
      c.in-Convert.is c.deref-in-Convert.ensures) c.in_ok-a-in-Convert.ensures.left;
}

pub copy_expr-returns-in_ok-a-in-Binary : goal.copy_expr-returns-in_ok-a-in-Binary
copy_expr-returns-in_ok-a-in-Binary t c = record {
  copy = copied-Binary c.args.change c.args.left.now c.args.expr.now _ _ _ c.in-Binary.a c.in-Binary.b
      c.in_ok-a-in-Binary.a c.in_ok-a-in-Binary.b c.deref-in-Binary.result.now c.deref-in-Binary-2.result.now
      _ c.in-Binary.is c.deref-in-Binary.ensures c.deref-in-Binary-2.ensures c.operator_here-op.ensures.here
      c.operator_here-op.ensures.left c.in_ok-a-in-Binary.ensures.first c.in_ok-a-in-Binary.ensures.second;
  left = left-three _ _ _ _ _ _ _ _ (forms.binary-nodes c.args.expr.now _ _ c.in-Binary.a c.in-Binary.b
      c.deref-in-Binary.result.now c.deref-in-Binary-2.result.now c.in-Binary.is c.deref-in-Binary.ensures
      c.deref-in-Binary-2.ensures) c.operator_here-op.ensures.left refl c.in_ok-a-in-Binary.ensures.left;
}

pub copy_expr-returns-in_ok-a-in-AndAlso : goal.copy_expr-returns-in_ok-a-in-AndAlso
copy_expr-returns-in_ok-a-in-AndAlso t c = record {
  copy = copied-And c.args.change c.args.left.now c.args.expr.now c.in-AndAlso.a c.in-AndAlso.b
      c.in_ok-a-in-AndAlso.a c.in_ok-a-in-AndAlso.b c.deref-in-AndAlso.result.now
      c.deref-in-AndAlso-2.result.now _ _ c.changed_and.result c.in-AndAlso.is c.deref-in-AndAlso.ensures
      c.deref-in-AndAlso-2.ensures c.change_here-here.ensures.here c.change_here-here.ensures.left
      c.in_ok-a-in-AndAlso.ensures.first c.in_ok-a-in-AndAlso.ensures.second c.changed_and.ensures;
  left = left-three _ (node.And ∷ []) _ _ _ _ _ _ (forms.and-nodes c.args.expr.now c.in-AndAlso.a
      c.in-AndAlso.b c.deref-in-AndAlso.result.now c.deref-in-AndAlso-2.result.now c.in-AndAlso.is
      c.deref-in-AndAlso.ensures c.deref-in-AndAlso-2.ensures) c.change_here-here.ensures.left refl
      c.in_ok-a-in-AndAlso.ensures.left;
}

pub copy_expr-returns-in_ok-a-in-OrElse : goal.copy_expr-returns-in_ok-a-in-OrElse
copy_expr-returns-in_ok-a-in-OrElse t c = record {
  copy = copied-Or c.args.change c.args.left.now c.args.expr.now c.in-OrElse.a c.in-OrElse.b
      c.in_ok-a-in-OrElse.a c.in_ok-a-in-OrElse.b c.deref-in-OrElse.result.now c.deref-in-OrElse-2.result.now
      _ _ c.changed_or.result c.in-OrElse.is c.deref-in-OrElse.ensures c.deref-in-OrElse-2.ensures
      c.change_here-here-in-OrElse.ensures.here c.change_here-here-in-OrElse.ensures.left
      c.in_ok-a-in-OrElse.ensures.first c.in_ok-a-in-OrElse.ensures.second c.changed_or.ensures;
  left = left-three _ (node.Or ∷ []) _ _ _ _ _ _ (forms.or-nodes c.args.expr.now c.in-OrElse.a c.in-OrElse.b
      c.deref-in-OrElse.result.now c.deref-in-OrElse-2.result.now c.in-OrElse.is c.deref-in-OrElse.ensures
      c.deref-in-OrElse-2.ensures) c.change_here-here-in-OrElse.ensures.left refl
      c.in_ok-a-in-OrElse.ensures.left;
}

pub copy_expr-returns-in_ok-yes-in-Select : goal.copy_expr-returns-in_ok-yes-in-Select
copy_expr-returns-in_ok-yes-in-Select t c = record {
  copy = copied-Select c.args.change c.args.left.now c.args.expr.now _ c.in-Select.when c.in-Select.yes
      c.in-Select.no c.in_ok-when-in-Select.when c.in_ok-yes-in-Select.yes c.in_ok-yes-in-Select.no
      c.deref-in-Select.result.now c.deref-in-Select-2.result.now c.deref-in-Select-3.result.now _
      c.in-Select.is c.deref-in-Select.ensures c.deref-in-Select-2.ensures c.deref-in-Select-3.ensures
      c.in_ok-when-in-Select.ensures.left c.in_ok-when-in-Select.ensures.copy
      c.in_ok-yes-in-Select.ensures.first c.in_ok-yes-in-Select.ensures.second;
  left = left-three _ _ _ _ _ _ _ _ (forms.select-nodes c.args.expr.now _ c.in-Select.when c.in-Select.yes
      c.in-Select.no c.deref-in-Select.result.now c.deref-in-Select-2.result.now
      c.deref-in-Select-3.result.now c.in-Select.is c.deref-in-Select.ensures c.deref-in-Select-2.ensures
      c.deref-in-Select-3.ensures) c.in_ok-when-in-Select.ensures.left refl
      c.in_ok-yes-in-Select.ensures.left;
}

pub copy_expr-returns-in_ok-args-in-Call : goal.copy_expr-returns-in_ok-args-in-Call
copy_expr-returns-in_ok-args-in-Call t c = record {
  copy = copied-Call c.args.change c.args.left.now c.args.expr.now _ _ c.in-Call.args
      c.in_ok-args-in-Call.args c.as_slice.result.now c.in-Call.is c.as_slice.ensures.value
      c.in_ok-args-in-Call.ensures.copies;
  left = left-one _ _ _ _ (forms.call-nodes c.args.expr.now _ _ c.in-Call.args c.as_slice.result.now
      c.in-Call.is c.as_slice.ensures.value) c.in_ok-args-in-Call.ensures.left;
}

pub copy_arg-returns-in_ok-copy_expr-in-Value : goal.copy_arg-returns-in_ok-copy_expr-in-Value
copy_arg-returns-in_ok-copy_expr-in-Value t c = record {
  copy = forms.arg-Value _ ∙ ap value c.in_ok-copy_expr-in-Value.ensures.copy
      ∙ ap (changed_arg c.args.change c.args.left.now) (sym (forms.value-tree c.args.arg.now _ c.in-Value.is));
  left = left-one _ _ _ _ (ap arg_nodes (forms.value-tree c.args.arg.now _ c.in-Value.is))
      c.in_ok-copy_expr-in-Value.ensures.left;
}

pub copy_arg-returns-in-Array : goal.copy_arg-returns-in-Array
copy_arg-returns-in-Array t c = record {
  copy = forms.arg-Array _
      ∙ ap (changed_arg c.args.change c.args.left.now) (sym (forms.array-tree c.args.arg.now _ c.in-Array.is));
  left = left-none _ _ (ap arg_nodes (forms.array-tree c.args.arg.now _ c.in-Array.is));
}

pub copy_args-loop-arg-preserved : goal.copy_args-loop-arg-preserved
copy_args-loop-arg-preserved t c = (
  args-next c.args.change c.args.args.now c.loop-arg.arg-index c.loop-arg.left c.loop-arg.copies.items _
      c.loop-arg.invariant.0 c.arg-item.result c.in_ok-copy.copy _ _
      (next_item c.args.args.now c.loop-arg.arg-index c.arg-item.result c.loop-arg-test.true c.arg-item.is)
      c.in_ok-copy.ensures.copy c.in_ok-copy.ensures.left c.in_ok-push.ensures.items,
  args-left-next c.args.args.now c.loop-arg.arg-index c.loop-arg.left _ c.loop-arg.invariant.1
      c.arg-item.result _
      (next_item c.args.args.now c.loop-arg.arg-index c.arg-item.result c.loop-arg-test.true c.arg-item.is)
      c.in_ok-copy.ensures.left,
)

pub copy_args-returns : goal.copy_args-returns
copy_args-returns t c = record {
  copies = args-end c.args.change c.args.args.now c.loop-arg.arg-index c.loop-arg.left c.loop-arg.copies.items
      _
      c.loop-arg.invariant.0 c.loop-arg-test.false;
  left = args-left-end c.args.args.now c.loop-arg.arg-index c.loop-arg.left _ c.loop-arg.invariant.1
      c.loop-arg-test.false;
}

pub copy_args-copy_arg-requires : goal.copy_args-copy_arg-requires
copy_args-copy_arg-requires t c = let h : arg_weight c.arg-item.result < arg_weights c.args.args.now =
    item-below arg_weight c.args.args.now c.loop-arg.arg-index c.arg-item.result (search rules) (search rules)
    in
    search (rules, h)
