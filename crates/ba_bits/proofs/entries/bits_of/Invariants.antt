use Rattle.std.proofs.Common.{take}
use Rattle.ba_bits.specs.Bits.{AreEntries, AreOthersZero}
use Rattle.ba_nodes.specs.Gates.{Extends}
use Rattle.ba_bits.proofs.entries.bits_of.Given as goal

abbrev pub invariant-loop-i : goal.invariant-loop-i
invariant-loop-i l = record {
  extends : Extends l.fn.nodes l.nodes;
  are_entries : AreEntries l.fn.nodes (take l.i l.words) l.needed l.nodes l.entries.items;
  zeros : AreOthersZero l.needed l.entries.items;
}
