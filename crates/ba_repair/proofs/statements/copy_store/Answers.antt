use Rattle.std.proofs.Common.{◌-◌, length, ◌∙◌, ap}
use Rattle.ba_tree.specs.Trees.{store, tree_of_expr}
use Rattle.ba_typing.proofs.StmtForms.{tree-Store}
use Rattle.ba_repair.specs.Changes.{changed_expr}
use Rattle.ba_repair.specs.Nodes.{expr_nodes}
use Rattle.ba_repair.proofs.statements.copy_store.Goals as goal

-- the nodes of the index come first
pub returns : goal.returns
returns c =
    let index = tree_of_expr c.args.index.now in
    let value = tree_of_expr c.args.value.now in
    let change = c.args.edit.change in
    tree-Store c.args.stmt c.args.array c.in_ok-index.index c.in_ok-value.value
    ∙ (λ i. store c.args.stmt c.args.array (c.in_ok-index.ensures.copy i) (c.in_ok-value.ensures.copy i))
    ∙ ap (λ k. store c.args.stmt c.args.array (changed_expr change c.node_in-left.result index)
    (changed_expr change k value)) c.in_ok-index.ensures.left
    ∙ ap (λ k. store c.args.stmt c.args.array (changed_expr change k index)
    (changed_expr change (k - length (expr_nodes index)) value)) c.node_in-left.ensures
