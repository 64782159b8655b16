use Rattle.std.proofs.Common.{List, [], ◌∷◌, ◌++◌, map, ◌∙◌, ap}
use Rattle.std.proofs.lemmas.Result.{on_ok_weaker}
use Rattle.ba_tree.specs.declared.tree.Start.{Start}
use Rattle.ba_tree.specs.Trees.{StmtTree, stmts_of, tree_of_expr, tree_of_stmt}
use Rattle.ba_tree.specs.Trees as tree
use Rattle.ba_typing.proofs.StmtForms.{tree-Switch}
use Rattle.ba_statements.proofs.labels.put_switch.Goals as goal

pub returns : goal.returns
returns c =
    let on = c.args.controlling in
    on_ok_weaker c.put.result (λ pushed. pushed
    ∙ ap (λ (x : StmtTree). map tree_of_stmt c.args.stmts.now.items ++ x ∷ [])
    (tree-Switch on.stmt on.t on.on c.into_vec-starts.result c.args.labels.other c.args.body
    ∙ ap (λ (starts : List Start). tree.switch on.stmt on.t (tree_of_expr on.on) starts c.args.labels.other
    (stmts_of (map tree_of_stmt c.args.body.items))) c.into_vec-starts.ensures)) c.put.ensures
