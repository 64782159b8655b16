use Rattle.std.proofs.Common.{[], ◌∷◌, refl, ◌∙◌, ap}
use Rattle.ba_numbers.specs.declared.numbers.CType.TheVariants.{I32}
use Rattle.ba_typing.specs.Expressions.{typed_binary, tree_as}
use Rattle.ba_expressions.specs.Inferring.{Infers, typed_from}
use Rattle.ba_tree.specs.Trees.{tree_of_expr}
use Rattle.ba_tree.specs.Trees as tree
use Rattle.ba_typing.specs.declared.names.Operator.TheVariants.{AndAlso}
use Rattle.ba_expressions.proofs.Inferences.{as-over, if-ok, inferred-two, and_also-is}
use Rattle.ba_expressions.proofs.inferred.and_also.Goals as goal

pub returns : goal.returns
returns c = if-ok c.over.result _ _ (λ j over s u left right.
    inferred-two (λ s u. Infers j (typed_binary AndAlso s u)) c.args.a c.args.b s u left right (λ m n fs gs.
    let s = typed_from c.args.a m fs in let u = typed_from c.args.b n gs in
    let t = c.promoted-left_t.result in let r = c.promoted-right_t.result in
    and_also-is j s u t r c.promoted-left_t.ensures c.promoted-right_t.ensures
    (as-over j s.first (s ∷ u ∷ []) I32 I32 (tree_of_expr c.in_ok-expr.expr)
    (tree.and_also (tree_as t s) (tree_as r u)) c.and_also-value.result _ refl
    (c.in_ok-expr.ensures
    ∙ ap (λ x. tree.and_also x (tree_of_expr c.in_ok-right.right)) (c.in_ok-left.ensures s refl)
    ∙ ap (tree.and_also (tree_as t s)) (c.in_ok-right.ensures u refl))
    c.and_also-value.ensures
    (over (s ∷ u ∷ []) (c.behind-operands.ensures s (u ∷ []) refl (c.behind.ensures u [] refl
    c.none.ensures)))))) c.over.ensures
