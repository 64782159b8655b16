use Rattle.std.proofs.Common.{[], ◌∷◌, refl, ◌∙◌, ap}
use Rattle.ba_numbers.specs.Numbers.{value_of}
use Rattle.ba_typing.specs.Expressions.{typed_value, tree_as, value_as, both_then}
use Rattle.ba_expressions.specs.Inferring.{Infers, typed_from}
use Rattle.ba_tree.specs.Trees.{tree_of_expr}
use Rattle.ba_tree.specs.Trees as tree
use Rattle.ba_expressions.proofs.Inferences.{as-over, if-ok, inferred-two, value-is}
use Rattle.ba_expressions.proofs.inferred.value.Goals as goal

pub returns : goal.returns
returns c = if-ok c.over.result _ _ (λ j over s u left right.
    inferred-two (λ s u. Infers j (typed_value c.args.op s u)) c.args.a c.args.b s u left right (λ m n fs gs.
    let s = typed_from c.args.a m fs in let u = typed_from c.args.b n gs in
    let t = c.working_type-t.result in let r = c.right_type-right_t.result in
    value-is j s u c.args.op t r c.working_type-t.ensures c.right_type-right_t.ensures
    (as-over j s.first (s ∷ u ∷ []) c.type_of_binary.result _ (tree_of_expr c.in_ok-expr.expr)
    (tree.binary c.args.op t (tree_as t s) (tree_as r u))
    c.value_of-value.result (both_then (value_of c.args.op t) (value_as t s) (value_as r u))
    c.type_of_binary.ensures
    (c.in_ok-expr.ensures
    ∙ ap (λ x. tree.binary c.args.op t x (tree_of_expr c.in_ok-right.right)) (c.in_ok-left.ensures s refl)
    ∙ ap (tree.binary c.args.op t (tree_as t s)) (c.in_ok-right.ensures u refl))
    (c.value_of-value.ensures
    ∙ ap (λ y. both_then (value_of c.args.op t) y c.value_as-2.result) c.value_as.ensures
    ∙ ap (both_then (value_of c.args.op t) (value_as t s)) c.value_as-2.ensures)
    (over (s ∷ u ∷ []) (c.behind-operands.ensures s (u ∷ []) refl (c.behind.ensures u [] refl
    c.none.ensures)))))) c.over.ensures
