use Rattle.std.proofs.Common.{take}
use Rattle.std.specs.List.{list_all}
use Rattle.ba_encode.specs.Parts.{AreHeld, is_set}
use Rattle.ba_nodes.specs.Gates.{Extends}
use Rattle.ba_encode.proofs.required.met.Given as goal

abbrev pub invariant-loop-number : goal.invariant-loop-number
invariant-loop-number l = record {
  held : AreHeld l.nodes l.bits.items
      (λ free. list_all (is_set free l.initial.nodes l.entries) (take l.number-index l.require));
  extends : Extends l.initial.nodes l.nodes;
}
