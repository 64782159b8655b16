use Rattle.std.proofs.Common.{[], ◌∷◌, ◌++◌, map, ◌∙◌, ap}
use Rattle.std.proofs.lemmas.Result.{on_ok_weaker}
use Rattle.ba_tree.specs.Trees.{StmtTree, tree_of_stmt}
use Rattle.ba_typing.proofs.StmtForms.{tree-While}
use Rattle.ba_statements.proofs.control.put_while.Goals as goal

pub returns : goal.returns
returns c = on_ok_weaker c.put.result (λ pushed. pushed
    ∙ ap (λ (x : StmtTree). map tree_of_stmt c.args.stmts.now.items ++ x ∷ [])
    (tree-While c.args.test.stmt c.args.test.when c.in_ok-body.body c.args.body c.in_ok-body.ensures.ok))
    c.put.ensures
