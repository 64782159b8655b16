use Rattle.std.proofs.Common.{[], ◌∷◌, ◌++◌, map, ◌∙◌, ap}
use Rattle.std.proofs.lemmas.Result.{on_ok_weaker}
use Rattle.ba_tree.specs.Trees.{StmtTree, tree_of_stmt}
use Rattle.ba_typing.proofs.StmtForms.{tree-IfElse}
use Rattle.ba_statements.proofs.control.put_if_else.Goals as goal

pub returns : goal.returns
returns c = on_ok_weaker c.put.result (λ pushed. pushed
    ∙ ap (λ (x : StmtTree). map tree_of_stmt c.args.stmts.now.items ++ x ∷ [])
    (tree-IfElse c.args.guarded.test.stmt c.args.guarded.test.when c.in_ok-yes.yes c.in_ok-no.no
    c.args.guarded.body c.args.other c.in_ok-yes.ensures.ok c.in_ok-no.ensures.ok)) c.put.ensures
