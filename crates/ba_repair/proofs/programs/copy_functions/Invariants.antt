use Rattle.std.proofs.Common.{◌≡◌, ◌++◌, map, drop}
use Rattle.ba_tree.specs.Trees.{tree_of_function}
use Rattle.ba_repair.specs.Changes.{changed_function}
use Rattle.ba_repair.proofs.programs.copy_functions.Given as goal

abbrev pub invariant-loop-function : goal.invariant-loop-function
invariant-loop-function l =
    map tree_of_function l.copies
    ++ map (changed_function l.edit) (map tree_of_function (drop l.function-index l.functions))
    ≡ map (changed_function l.edit) (map tree_of_function l.functions)
