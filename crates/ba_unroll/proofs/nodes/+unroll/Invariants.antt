use Rattle.std.proofs.Common.{◌+◌, ◌-◌, take}
use Rattle.ba_unroll.proofs.Heights.{height, heights}
use Rattle.ba_unroll.proofs.nodes.+unroll.Given as goal
use Rattle.ba_unroll.specs.Unrolling.{Adds, all_inside, loop_inside, nodes_act, turns_act}

abbrev pub decreases-add_node : goal.decreases-add_node
decreases-add_node l = height l.node.now

abbrev pub decreases-add_nodes : goal.decreases-add_nodes
decreases-add_nodes l = heights l.nodes.now + 1

abbrev pub decreases-add_turn : goal.decreases-add_turn
decreases-add_turn l = heights l.parts.now.head.now + heights l.parts.now.body.now + heights
    l.parts.now.step.now + 2

abbrev pub decreases-add_turns : goal.decreases-add_turns
decreases-add_turns l = heights l.parts.now.head.now + heights l.parts.now.body.now + heights
    l.parts.now.step.now + 3

abbrev pub decreases-add_loop : goal.decreases-add_loop
decreases-add_loop l = heights l.parts.now.head.now + heights l.parts.now.body.now + heights
    l.parts.now.step.now + 4

-- the nodes so far
abbrev pub invariant-add_nodes-loop-node : goal.invariant-add_nodes-loop-node
invariant-add_nodes-loop-node l = Adds (nodes_act l.bound l.turns (take l.node-index l.nodes))
    (all_inside (take l.node-index l.nodes)) l.fn.out.items l.out.items

-- the last iterations, so many of them
abbrev pub invariant-add_turns-loop-left : goal.invariant-add_turns-loop-left
invariant-add_turns-loop-left l = Adds (turns_act l.bound l.turns l.parts l.left (l.bound - l.left + 1))
    (loop_inside l.parts) l.fn.out.items l.out.items
