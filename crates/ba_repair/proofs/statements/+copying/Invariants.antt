use Rattle.std.proofs.Common.{◌≡◌, ◌++◌, map, drop}
use Rattle.ba_tree.specs.Trees.{tree_of_stmt}
use Rattle.ba_repair.specs.Changes.{changed_stmt}
use Rattle.ba_repair.proofs.statements.+copying.Given as goal

abbrev pub invariant-copy_stmts-loop-stmt : goal.invariant-copy_stmts-loop-stmt
invariant-copy_stmts-loop-stmt l =
    map tree_of_stmt l.copies.items ++ map (changed_stmt l.edit) (map tree_of_stmt (drop l.stmt-index
    l.stmts))
    ≡ map (changed_stmt l.edit) (map tree_of_stmt l.stmts)
