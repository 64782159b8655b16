use Rattle.std.proofs.Common.{◌≡◌, ◌+◌, ◌-◌, ◌*◌, ◌++◌, length, map, drop}
use Rattle.std.specs.Prelude.{flat_map}
use Rattle.ba_tree.specs.Heights.{arg_weight, arg_weights, weight}
use Rattle.ba_tree.specs.Trees.{tree_of_arg}
use Rattle.ba_repair.specs.Changes.{changed_arg_list}
use Rattle.ba_repair.specs.Nodes.{arg_nodes}
use Rattle.ba_repair.proofs.expressions.+copying.Given as goal

-- MEASURES: what is copied

abbrev pub decreases-copy_expr : goal.decreases-copy_expr
decreases-copy_expr l = 3 * weight l.expr.now

abbrev pub decreases-copy_boxed : goal.decreases-copy_boxed
decreases-copy_boxed l = 3 * weight l.expr.now + 1

abbrev pub decreases-copy_two : goal.decreases-copy_two
decreases-copy_two l = 3 * weight l.a.now + 3 * weight l.b.now + 2

abbrev pub decreases-copy_arg : goal.decreases-copy_arg
decreases-copy_arg l = 3 * arg_weight l.arg.now

abbrev pub decreases-copy_args : goal.decreases-copy_args
decreases-copy_args l = 3 * arg_weights l.args.now + 2

-- ROWS: what is copied, and the rest

abbrev pub invariant-copy_args-loop-arg : goal.invariant-copy_args-loop-arg
invariant-copy_args-loop-arg l =
    (map tree_of_arg l.copies.items ++ changed_arg_list l.change l.left (map tree_of_arg (drop l.arg-index
    l.args))
    ≡ changed_arg_list l.change l.initial.left (map tree_of_arg l.args))
    × (l.left - length (flat_map arg_nodes (map tree_of_arg (drop l.arg-index l.args)))
    ≡ l.initial.left - length (flat_map arg_nodes (map tree_of_arg l.args)))
