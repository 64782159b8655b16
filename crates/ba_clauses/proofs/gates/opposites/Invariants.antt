use Rattle.std.proofs.Common.{◌≡◌, take, map}
use Rattle.ba_nodes.specs.Gates.{opposite}
use Rattle.ba_clauses.proofs.gates.opposites.Given as goal

abbrev pub invariant-loop-bit : goal.invariant-loop-bit
invariant-loop-bit l = l.others.items ≡ map opposite (take l.bit-index l.bits)
