use Rattle.std.proofs.Common.{◌∙◌, ap}
use Rattle.std.specs.Prelude.{unwrap_or}
use Rattle.ba_typing.specs.Expressions.{Typed, tree_as}
use Rattle.ba_tree.specs.Trees.{value}
use Rattle.ba_expressions.proofs.ArgumentSteps.{arg-Value}
use Rattle.ba_expressions.proofs.arguments.value_arg.Goals as goal

pub returns : goal.returns
returns c s is = arg-Value c.in_ok-expr.expr ∙ ap value (c.in_ok-expr.ensures s is
    ∙ ap (λ t. tree_as t s) (c.unwrap_or-t.ensures ∙ ap (λ (s : Typed). unwrap_or c.args.t s.t) is))
