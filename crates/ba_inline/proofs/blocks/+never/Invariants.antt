use Rattle.std.proofs.Common.{◌≡◌, drop}
use Rattle.ba_inline.specs.Leaving.{none_leaves}
use Rattle.ba_inline.proofs.blocks.+never.Given as goal

abbrev pub invariant-none_leaves-loop-node : goal.invariant-none_leaves-loop-node
invariant-none_leaves-loop-node l =
    none_leaves l.label l.nodes ≡ none_leaves l.label (drop l.node-index l.nodes)
