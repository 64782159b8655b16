use Rattle.std.proofs.Common.{◌≡◌, drop, map}
use Rattle.ba_code.specs.Facts.{are_inside, fits_inside}
use Rattle.ba_code.proofs.fitting.+fits.Given as goal

abbrev pub invariant-all_fit-loop-node : goal.invariant-all_fit-loop-node
invariant-all_fit-loop-node l =
    are_inside l.labels (map (fits_inside (record { vars = l.vars; arrays = l.arrays })) l.nodes)
    ≡ are_inside l.labels (map (fits_inside (record { vars = l.vars; arrays = l.arrays })) (drop
    l.node-index l.nodes))
