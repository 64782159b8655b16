use Rattle.std.proofs.Common.{map, ◌∙◌, sym}
use Rattle.ba_tree.specs.Trees.{tree_of_expr}
use Rattle.ba_statements.proofs.KeptValues.{init-all, init-one}
use Rattle.ba_statements.proofs.declarations.init_stmt.Goals as goal

pub returns-then-is_some : goal.returns-then-is_some
returns-then-is_some c es trees = init-all c.args.stmt c.args.d.var c.args.d.t c.args.values _ es
    (sym c.is_some.ensures ∙ c.if-is_some.true) trees

pub returns-else-is_some : goal.returns-else-is_some
returns-else-is_some c es trees = init-one c.args.stmt c.args.d.var c.args.d.t c.first_value.result
    (map tree_of_expr c.args.values.items) _ es (sym c.is_some.ensures ∙ c.if-is_some.false)
    c.first_value.ensures trees
