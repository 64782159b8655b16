use Rattle.std.proofs.Common.{◌≡◌, drop, map}
use Rattle.ba_code.specs.Types.{all_typed, is_typed}
use Rattle.ba_code.proofs.fitting.+typed.Given as goal

abbrev pub invariant-are_typed-loop-node : goal.invariant-are_typed-loop-node
invariant-are_typed-loop-node l = all_typed (map (is_typed (record { vars = l.vars; arrays = l.arrays }))
    l.nodes)
    ≡ all_typed (map (is_typed (record { vars = l.vars; arrays = l.arrays })) (drop l.node-index l.nodes))
