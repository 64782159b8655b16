use Rattle.std.proofs.Common.{◌≤◌, ◌-◌, length}
use Rattle.ba_encode.specs.Selectors.{AreFree}
use Rattle.ba_nodes.specs.Gates.{Extends}
use Rattle.ba_encode.proofs.selectors.free_bits.Given as goal

abbrev pub invariant-loop-bits : goal.invariant-loop-bits
invariant-loop-bits l = record {
  many : length l.bits.items ≤ l.count;
  free : AreFree l.nodes l.bits.items;
  extends : Extends l.initial.nodes l.nodes;
}

abbrev pub decreases-loop-bits : goal.decreases-loop-bits
decreases-loop-bits l = l.count - length l.bits.items
