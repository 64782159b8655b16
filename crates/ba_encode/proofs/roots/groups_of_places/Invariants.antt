use Rattle.std.proofs.Common.{◌≡◌, ◌++◌, drop, map}
use Rattle.ba_encode.specs.Groups.{group_of}
use Rattle.ba_encode.proofs.roots.groups_of_places.Given as goal

abbrev pub invariant-loop-place : goal.invariant-loop-place
invariant-loop-place l = l.found.items ++ map (group_of l.grouping l.groups) (drop l.place-index l.places)
    ≡ map (group_of l.grouping l.groups) l.places
