use Rattle.std.proofs.Common.{◌≡◌, ◌≤◌, drop, length}
use Rattle.ba_places.specs.Order.{path_cmp}
use Rattle.ba_places.proofs.order.compare_paths.Given as goal

-- the paths are the same up to here
abbrev pub invariant-loop-i : goal.invariant-loop-i
invariant-loop-i l = (l.i ≤ length l.b) × (path_cmp (drop l.i l.a) (drop l.i l.b) ≡ path_cmp l.a l.b)
