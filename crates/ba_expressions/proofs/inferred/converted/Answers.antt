use Rattle.std.proofs.Common.{[], ◌∷◌, refl, ◌∙◌, ap}
use Rattle.ba_typing.specs.Expressions.{Typed, tree_as, value_as}
use Rattle.ba_tree.specs.Trees.{tree_of_expr}
use Rattle.ba_expressions.proofs.Inferences.{as-over, if-ok}
use Rattle.ba_expressions.proofs.inferred.converted.Goals as goal

pub returns : goal.returns
returns c = if-ok c.over.result _ _ (λ j over s is.
    as-over j c.args.first (s ∷ []) c.args.t c.args.t (tree_of_expr c.in_ok-expr.expr) (tree_as c.args.t s)
    c.value_as-value.result (value_as c.args.t s) refl (c.in_ok-expr.ensures s is)
    (c.value_as-value.ensures ∙ ap (λ (s : Typed). value_as c.args.t s) is)
    (over (s ∷ []) (c.behind-operands.ensures s [] is c.none.ensures))) c.over.ensures
