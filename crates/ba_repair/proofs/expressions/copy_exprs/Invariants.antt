use Rattle.std.proofs.Common.{◌≡◌, ◌++◌, map, drop}
use Rattle.ba_tree.specs.Trees.{tree_of_expr}
use Rattle.ba_repair.specs.Changes.{changed_exprs}
use Rattle.ba_repair.proofs.expressions.copy_exprs.Given as goal

abbrev pub invariant-loop-expr : goal.invariant-loop-expr
invariant-loop-expr l =
    map tree_of_expr l.copies.items ++ changed_exprs l.change l.left (map tree_of_expr (drop l.expr-index
    l.exprs))
    ≡ changed_exprs l.change l.initial.left (map tree_of_expr l.exprs)
