-- Measures of nodes, by which unrolling is seen to return.
use Rattle.std.proofs.Common.{ℕ, ◌+◌, List, map}
use Rattle.ba_code.specs.declared.nodes.Node.{Node}
use Rattle.ba_code.specs.declared.nodes.Node.TheOpen.{Node-F}
use Rattle.ba_code.specs.declared.nodes.Node.TheFolds.{fold-Node}
use Rattle.ba_tree.specs.Heights.{total}

abbrev pub height_step : Node-F ℕ → ℕ
height_step (Node-F.Pick place take keep) = total keep.items + 2
height_step (Node-F.If when if_not_zero if_zero) = total if_not_zero.items + total if_zero.items + 2
height_step (Node-F.Block label body) = total body.items + 2
height_step (Node-F.Loop after head when body step stmt) = total head.items + total body.items + total
    step.items + 5
height_step _ = 1

abbrev pub height : Node → ℕ
height = fold-Node ℕ height_step

abbrev pub heights : List Node → ℕ
heights nodes = total (map height nodes)
