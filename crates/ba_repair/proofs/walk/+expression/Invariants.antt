use Rattle.std.proofs.Common.{◌≡◌, ◌++◌, drop}
use Rattle.std.specs.Prelude.{flat_map}
use Rattle.ba_tree.specs.Trees.{tree_of_arg}
use Rattle.ba_repair.specs.Nodes.{arg_nodes, own_nodes}
use Rattle.ba_repair.proofs.walk.+expression.Given as goal

abbrev pub invariant-add_args-loop-arg : goal.invariant-add_args-loop-arg
invariant-add_args-loop-arg l =
    l.found.items ++ flat_map (λ arg. own_nodes l.stmt (arg_nodes (tree_of_arg arg))) (drop l.arg-index
    l.args)
    ≡ l.initial.found.items ++ flat_map (λ arg. own_nodes l.stmt (arg_nodes (tree_of_arg arg))) l.args
