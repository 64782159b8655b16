use Rattle.std.proofs.Common.{◌≡◌, take}
use Rattle.ba_items.proofs.ItemsTryClone.try_clone.Given as goal

-- the clones so far are the items so far
abbrev pub invariant-loop-item : goal.invariant-loop-item
invariant-loop-item g l = l.clones.items ≡ take l.item-index l.item-items
