use Rattle.std.proofs.lemmas.List.{drop_more}
use Rattle.ba_repair.proofs.EditLists.{edits-end, edits-next}
use Rattle.ba_repair.proofs.listing.push_edits.Goals as goal

pub loop-node-preserved : goal.loop-node-preserved
loop-node-preserved c = edits-next c.args.stmt.0 c.args.nodes.now c.loop-node.node-index c.loop-node.number
    c.loop-node.edits.items _ c.loop-node.invariant _ c.in_ok-number.number _ c.in_ok-number.ensures
    c.in_ok-push_changes.ensures (drop_more c.args.nodes.now c.loop-node.node-index _ c.loop-node-test.true)

pub returns : goal.returns
returns c = edits-end c.args.stmt.0 c.args.nodes.now c.loop-node.node-index c.loop-node.number
    c.loop-node.edits.items _ c.loop-node.invariant c.loop-node-test.false
