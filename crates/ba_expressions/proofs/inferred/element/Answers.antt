use Rattle.std.proofs.Common.{[], ◌∷◌, None, refl, ◌∙◌, ap}
use Rattle.ba_typing.specs.Expressions.{typed_element, tree_as}
use Rattle.ba_expressions.specs.Inferring.{Infers, typed_from}
use Rattle.ba_tree.specs.Trees.{tree_of_expr}
use Rattle.ba_tree.specs.Trees as tree
use Rattle.ba_expressions.proofs.Inferences.{as-over, element-is, inferred}
use Rattle.ba_expressions.proofs.inferred.element.Goals as goal

pub returns : goal.returns
returns c s is = inferred (λ s. Infers c.named.result (typed_element c.args.at c.args.meaning.now s))
    c.args.index s is (λ m fs.
    let s = typed_from c.args.index m fs in
    element-is c.named.result c.args.at c.args.meaning.now s c.element_type.result c.promoted-t.result
    c.array_of.result
    c.element_type.ensures c.promoted-t.ensures c.array_of.ensures
    (c.named.ensures _ _ (as-over c.in_ok-j.j c.args.at (s ∷ []) c.element_type.result c.element_type.result
    (tree_of_expr c.in_ok-expr.expr) (tree.element c.array_of.result (tree_as c.promoted-t.result s)) None
    None refl
    (c.in_ok-expr.ensures ∙ ap (tree.element c.array_of.result) (c.in_ok-index.ensures s refl)) refl
    (c.in_ok-j.ensures (s ∷ []) (c.behind-operands.ensures s [] refl c.none.ensures)))))
