use Rattle.std.proofs.Common.{◌≡◌, ◌++◌, drop}
use Rattle.ba_encode.specs.Selectors.{with_selectors}
use Rattle.ba_encode.proofs.selectors.with_selectors.Given as goal

abbrev pub invariant-loop-i : goal.invariant-loop-i
invariant-loop-i l = l.named ++ with_selectors (drop l.i l.groups) (drop l.i l.readings)
    ≡ with_selectors l.groups l.readings
