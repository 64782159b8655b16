use Rattle.std.proofs.Common.{List, map, ◌∙◌, ap}
use Rattle.ba_tree.specs.declared.tree.Stmt.{Stmt}
use Rattle.ba_tree.specs.Trees.{stmts_of, tree_of_stmt}
use Rattle.ba_tree.specs.Trees as tree
use Rattle.ba_typing.proofs.StmtForms.{tree-Block}
use Rattle.ba_statements.proofs.control.no_stmt.Goals as goal

pub returns : goal.returns
returns c = tree-Block c.new.result
    ∙ ap (λ (xs : List Stmt). tree.block (stmts_of (map tree_of_stmt xs))) c.new.ensures.items
