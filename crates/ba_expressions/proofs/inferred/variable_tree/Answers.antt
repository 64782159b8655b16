use Rattle.std.proofs.Common.{sym, ◌∙◌}
use Rattle.ba_expressions.proofs.Inferences.{variable-is}
use Rattle.ba_expressions.proofs.inferred.variable_tree.Goals as goal

pub returns-else-is_array : goal.returns-else-is_array
returns-else-is_array c =
    variable-is c.args.meaning.now c.in-Variable.object c.in-Variable.is (sym c.is_array.ensures ∙
    c.if-is_array.false)
