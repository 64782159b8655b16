use Rattle.std.proofs.Common.{◌≡◌, take}
use Rattle.ba_places.specs.Numbers.{places_at}
use Rattle.ba_places.proofs.numbers.places_at.Given as goal

abbrev pub invariant-loop-number : goal.invariant-loop-number
invariant-loop-number l = l.found ≡ places_at l.places (take l.number-index l.numbers)
