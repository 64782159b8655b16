use Rattle.std.proofs.Common.{◌≡◌, ◌++◌, drop}
use Rattle.std.specs.Prelude.{flat_map}
use Rattle.ba_tree.specs.Trees.{tree_of_expr}
use Rattle.ba_repair.specs.Nodes.{expr_nodes, own_nodes}
use Rattle.ba_repair.proofs.walk.add_exprs.Given as goal

abbrev pub invariant-loop-expr : goal.invariant-loop-expr
invariant-loop-expr l =
    l.found.items ++ flat_map (λ e. own_nodes l.stmt (expr_nodes (tree_of_expr e))) (drop l.expr-index
    l.exprs)
    ≡ l.initial.found.items ++ flat_map (λ e. own_nodes l.stmt (expr_nodes (tree_of_expr e))) l.exprs
