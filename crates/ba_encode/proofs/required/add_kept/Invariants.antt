use Rattle.std.proofs.Common.{ℕ, Bool, ◌&&◌, take}
use Rattle.std.specs.List.{list_all}
use Rattle.ba_encode.specs.Parts.{AreHeld, stays}
use Rattle.ba_nodes.specs.Gates.{Extends, truth}
use Rattle.ba_encode.proofs.required.add_kept.Given as goal

abbrev pub invariant-loop-place : goal.invariant-loop-place
invariant-loop-place l = record {
  held : (value : (ℕ → Bool) → Bool) → AreHeld l.initial.nodes l.initial.required.items value
      → AreHeld l.nodes l.required.items
      (λ free. value free && list_all (stays (truth free l.initial.nodes)) (take l.place-index l.places));
  extends : Extends l.initial.nodes l.nodes;
}
