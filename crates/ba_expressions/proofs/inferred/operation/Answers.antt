use Rattle.std.proofs.Common.{[], ◌∷◌, ◌∙◌, ap}
use Rattle.std.specs.Prelude.{option_map}
use Rattle.ba_numbers.specs.Numbers.{value_of_one}
use Rattle.ba_typing.specs.Expressions.{Typed, tree_as, value_as}
use Rattle.ba_tree.specs.Trees.{tree_of_expr}
use Rattle.ba_tree.specs.Trees as tree
use Rattle.ba_expressions.proofs.Inferences.{as-over, if-ok}
use Rattle.ba_expressions.proofs.inferred.operation.Goals as goal

pub returns : goal.returns
returns c = if-ok c.over.result _ _ (λ j over s is.
    as-over j c.args.first (s ∷ []) c.type_of_unary.result _ (tree_of_expr c.in_ok-expr-2.expr)
    (tree.unary c.args.op c.args.t (tree_as c.args.t s))
    c.value_of_one-value.result (option_map (value_of_one c.args.op c.args.t) (value_as c.args.t s))
    c.type_of_unary.ensures
    (c.in_ok-expr-2.ensures ∙ ap (tree.unary c.args.op c.args.t) (c.in_ok-expr.ensures s is))
    (c.value_of_one-value.ensures
    ∙ ap (option_map (value_of_one c.args.op c.args.t)) (c.value_as.ensures ∙ ap (λ (s : Typed). value_as
    c.args.t s) is))
    (over (s ∷ []) (c.behind-operands.ensures s [] is c.none.ensures))) c.over.ensures
