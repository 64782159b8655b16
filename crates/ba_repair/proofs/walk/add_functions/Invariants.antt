use Rattle.std.proofs.Common.{◌≡◌, ◌++◌, drop}
use Rattle.std.specs.Prelude.{flat_map}
use Rattle.ba_tree.specs.Trees.{tree_of_function}
use Rattle.ba_tree.specs.declared.tree.Function.{Function}
use Rattle.ba_repair.specs.Nodes.{body_nodes}
use Rattle.ba_repair.proofs.walk.add_functions.Given as goal

abbrev pub invariant-loop-function : goal.invariant-loop-function
invariant-loop-function l =
    l.found.items
    ++ flat_map (λ (f : Function). body_nodes (tree_of_function f).body) (drop l.function-index l.functions)
    ≡ l.initial.found.items ++ flat_map (λ (f : Function). body_nodes (tree_of_function f).body) l.functions
