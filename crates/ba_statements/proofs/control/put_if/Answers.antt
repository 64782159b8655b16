use Rattle.std.proofs.Common.{[], ◌∷◌, ◌++◌, map, ◌∙◌, ap}
use Rattle.std.proofs.lemmas.Result.{on_ok_weaker}
use Rattle.ba_tree.specs.Trees.{StmtTree, tree_of_stmt}
use Rattle.ba_typing.proofs.StmtForms.{tree-If}
use Rattle.ba_statements.proofs.control.put_if.Goals as goal

pub returns : goal.returns
returns c = on_ok_weaker c.put.result (λ pushed. pushed
    ∙ ap (λ (x : StmtTree). map tree_of_stmt c.args.stmts.now.items ++ x ∷ [])
    (tree-If c.args.guarded.test.stmt c.args.guarded.test.when c.in_ok-yes.yes c.args.guarded.body
    c.in_ok-yes.ensures.ok)) c.put.ensures
