use Rattle.std.proofs.Common.{◌≡◌, take}
use Rattle.ba_choices.proofs.ValuesTryClone.try_clone.Given as goal

-- the clone so far is the values so far
abbrev pub invariant-loop-value : goal.invariant-loop-value
invariant-loop-value l = l.clone ≡ take l.value-index l.value-items
