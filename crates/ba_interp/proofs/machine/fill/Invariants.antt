use Rattle.std.proofs.Common.{◌≡◌, length, take}
use Rattle.ba_tree.specs.Meaning.{elements_with}
use Rattle.ba_interp.proofs.machine.fill.Given as goal

-- the first elements are set
abbrev pub invariant-loop-k : goal.invariant-loop-k
invariant-loop-k l = (length l.elements ≡ length l.initial.elements)
    × (take l.k l.elements ≡ take l.k (elements_with (length l.initial.elements) l.values))
