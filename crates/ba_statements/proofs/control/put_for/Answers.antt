use Rattle.std.proofs.Common.{[], ◌∷◌, ◌++◌, map, ◌∙◌, ap}
use Rattle.std.proofs.lemmas.Result.{on_ok_weaker}
use Rattle.ba_tree.specs.Trees.{StmtTree, tree_of_stmt}
use Rattle.ba_typing.proofs.StmtForms.{tree-For}
use Rattle.ba_statements.proofs.control.put_for.Goals as goal

pub returns : goal.returns
returns c = on_ok_weaker c.put.result (λ pushed. pushed
    ∙ ap (λ (x : StmtTree). map tree_of_stmt c.args.stmts.now.items ++ x ∷ [])
    (tree-For c.args.head.test.stmt c.args.head.first c.args.head.test.when c.args.head.step c.in_ok-body.body
    c.args.body c.in_ok-body.ensures.ok)) c.put.ensures
