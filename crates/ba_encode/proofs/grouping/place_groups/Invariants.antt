use Rattle.std.proofs.Common.{◌≡◌, ◌+◌, ◌^◌, ◌<◌, ◌++◌, drop, length}
use Rattle.ba_encode.specs.Groups.{places_from}
use Rattle.ba_encode.proofs.grouping.place_groups.Given as goal

abbrev pub invariant-loop-i : goal.invariant-loop-i
invariant-loop-i l = record {
  groups : l.groups.items ++ places_from (l.i + 1) (drop l.i l.places) ≡ places_from 1 l.places;
  many : length l.groups.items ≡ l.i;
  few : l.i < 2 ^ 32;
}
