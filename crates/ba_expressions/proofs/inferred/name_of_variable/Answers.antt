use Rattle.std.proofs.Common.{[], None, refl}
use Rattle.ba_typing.specs.Expressions.{operator_over}
use Rattle.ba_tree.specs.Trees.{tree_of_expr}
use Rattle.ba_expressions.proofs.Inferences.{as-over}
use Rattle.ba_typing.specs.Expressions.{variable_tree, variable_type}
use Rattle.ba_typing.specs.Faults.{value_name_faults}
use Rattle.ba_expressions.proofs.inferred.name_of_variable.Goals as goal

pub returns : goal.returns
returns c = let m = c.args.meaning.now in
    c.named.ensures (operator_over c.args.at [] (variable_type m) (variable_tree m) None)
    (value_name_faults m c.args.at)
    (as-over c.in_ok-j.j c.args.at [] c.variable_type.result (variable_type m) (tree_of_expr
    c.variable_tree-expr.result)
    (variable_tree m) None None c.variable_type.ensures c.variable_tree-expr.ensures refl
    (c.in_ok-j.ensures [] c.none.ensures))
