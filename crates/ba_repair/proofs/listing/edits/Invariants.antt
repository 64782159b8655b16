use Rattle.std.proofs.Common.{◌≡◌, ◌++◌, drop}
use Rattle.std.specs.Prelude.{flat_map}
use Rattle.ba_numbers.specs.declared.ids.StmtId.{StmtId}
use Rattle.ba_tree.specs.Trees.{tree_of}
use Rattle.ba_repair.specs.Edits.{edits_at}
use Rattle.ba_repair.proofs.listing.edits.Given as goal

abbrev pub invariant-loop-stmt : goal.invariant-loop-stmt
invariant-loop-stmt l =
    l.edits.items ++ flat_map (λ (stmt : StmtId). edits_at (tree_of l.program) stmt.0) (drop l.stmt-index
    l.stmts)
    ≡ flat_map (λ (stmt : StmtId). edits_at (tree_of l.program) stmt.0) l.stmts
