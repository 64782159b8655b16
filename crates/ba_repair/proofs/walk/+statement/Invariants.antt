use Rattle.std.proofs.Common.{◌≡◌, ◌++◌, drop}
use Rattle.std.specs.Prelude.{flat_map}
use Rattle.ba_tree.specs.Trees.{tree_of_stmt}
use Rattle.ba_repair.specs.Nodes.{stmt_nodes}
use Rattle.ba_repair.proofs.walk.+statement.Given as goal

abbrev pub invariant-add_stmts-loop-stmt : goal.invariant-add_stmts-loop-stmt
invariant-add_stmts-loop-stmt l =
    l.found.items ++ flat_map (λ stmt. stmt_nodes (tree_of_stmt stmt)) (drop l.stmt-index l.stmts)
    ≡ l.initial.found.items ++ flat_map (λ stmt. stmt_nodes (tree_of_stmt stmt)) l.stmts
