use Rattle.std.proofs.Common.{take}
use Rattle.ba_encode.specs.Parts.{ArePlaces}
use Rattle.ba_nodes.specs.Gates.{Extends}
use Rattle.ba_encode.proofs.places.places_of.Given as goal

abbrev pub invariant-loop-i : goal.invariant-loop-i
invariant-loop-i l = record {
  places : ArePlaces l.initial.nodes l.list.words l.entries l.selectors l.nodes (take l.i l.words)
      (take l.i l.groups) l.places.items;
  extends : Extends l.initial.nodes l.nodes;
}
