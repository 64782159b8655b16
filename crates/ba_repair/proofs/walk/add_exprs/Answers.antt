use Rattle.std.proofs.Common.{◌++◌, sym, ◌∙◌, ap}
use Rattle.ba_tree.specs.Trees.{tree_of_expr}
use Rattle.ba_repair.specs.Nodes.{expr_nodes, own_nodes}
use Rattle.ba_repair.proofs.Appending.{own-row, row-end}
use Rattle.ba_repair.proofs.walk.add_exprs.Goals as goal

pub returns : goal.returns
returns c = row-end (λ e. own_nodes c.args.stmt (expr_nodes (tree_of_expr e))) c.args.exprs.now
    c.loop-expr.expr-index c.loop-expr.found.items _ c.loop-expr.invariant c.loop-expr-test.false
    ∙ ap (λ xs. c.args.found.now.items ++ xs)
    (sym (own-row c.args.stmt expr_nodes tree_of_expr c.args.exprs.now))
