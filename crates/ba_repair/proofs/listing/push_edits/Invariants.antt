use Rattle.std.proofs.Common.{◌≡◌, ◌+◌, ◌++◌, drop}
use Rattle.ba_repair.specs.Edits.{edits_from}
use Rattle.ba_repair.proofs.listing.push_edits.Given as goal

abbrev pub invariant-loop-node : goal.invariant-loop-node
invariant-loop-node l =
    l.edits.items ++ edits_from l.stmt.0 (l.number + 1) (drop l.node-index l.nodes)
    ≡ l.initial.edits.items ++ edits_from l.stmt.0 1 l.nodes
