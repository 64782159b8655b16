use Rattle.std.proofs.Common.{[], ◌∷◌, cond, refl, ◌∙◌, ap}
use Rattle.std.specs.Prelude.{option_and_then}
use Rattle.ba_typing.specs.Expressions.{typed_select, tree_as, value_as, is_true}
use Rattle.ba_expressions.specs.Inferring.{Infers, typed_from}
use Rattle.ba_tree.specs.Trees.{tree_of_expr}
use Rattle.ba_tree.specs.Trees as tree
use Rattle.ba_expressions.proofs.Inferences.{as-over, if-ok, inferred, inferred-two, select-is}
use Rattle.ba_expressions.proofs.inferred.select.Goals as goal

pub returns : goal.returns
returns c = if-ok c.over.result _ _ (λ j over w s u first left right.
    inferred (λ w. Infers j (typed_select w s u)) c.args.when w first (λ k es.
    inferred-two (λ s u. Infers j (typed_select (typed_from c.args.when k es) s u)) c.args.a c.args.b s u left
    right (λ m n fs gs.
    let w = typed_from c.args.when k es in let s = typed_from c.args.a m fs in let u = typed_from c.args.b
    n gs in
    let t = c.usual-t.result in
    select-is j s u w t c.usual-t.ensures
    (as-over j w.first (w ∷ s ∷ u ∷ []) t t (tree_of_expr c.in_ok-expr.expr)
    (tree.select t w.tree (tree_as t s) (tree_as t u)) c.select-value.result _ refl
    (c.in_ok-expr.ensures
    ∙ ap (λ x. tree.select t w.tree x (tree_of_expr c.in_ok-no.no)) (c.in_ok-yes.ensures s refl)
    ∙ ap (tree.select t w.tree (tree_as t s)) (c.in_ok-no.ensures u refl))
    (c.select-value.ensures
    ∙ ap (λ y. option_and_then (λ z. cond (is_true z) y c.value_as-2.result) w.value) c.value_as.ensures
    ∙ ap (λ y. option_and_then (λ z. cond (is_true z) (value_as t s) y) w.value) c.value_as-2.ensures)
    (over (w ∷ s ∷ u ∷ []) (c.behind-operands.ensures w (s ∷ u ∷ []) refl
    (c.behind-2.ensures s (u ∷ []) refl (c.behind.ensures u [] refl c.none.ensures)))))))) c.over.ensures
