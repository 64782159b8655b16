use Rattle.std.proofs.Common.{take_all, ◌∙◌, ap}
use Rattle.std.proofs.lemmas.List.{take_more}
use Rattle.ba_repair.specs.Nodes.{nodes_of}
use Rattle.ba_repair.proofs.RowForms.{rows-next}
use Rattle.ba_repair.proofs.rows.Rows.new.Goals as goal

pub loop-node-preserved : goal.loop-node-preserved
loop-node-preserved c = rows-next c.loop-node.rows _ c.args.found.now c.loop-node.node-index
    c.loop-node.invariant _ c.in_ok-add.ensures
    (take_more c.args.found.now c.loop-node.node-index _ c.loop-node-test.true)

pub returns : goal.returns
returns c n = c.loop-node.invariant n
    ∙ ap (nodes_of n) (take_all c.loop-node.node-index c.args.found.now c.loop-node-test.false)
