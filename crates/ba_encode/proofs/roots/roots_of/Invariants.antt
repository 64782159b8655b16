use Rattle.std.proofs.Common.{◌≡◌, ◌++◌, drop}
use Rattle.ba_encode.specs.Parts.{roots_along}
use Rattle.ba_encode.proofs.roots.roots_of.Given as goal

abbrev pub invariant-loop-i : goal.invariant-loop-i
invariant-loop-i l = l.roots.items ++ roots_along (drop l.i l.places) (drop l.i l.groups)
    ≡ l.list.require ++ roots_along l.places l.groups
