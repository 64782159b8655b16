use Rattle.std.proofs.Common.{◌≡◌, ◌++◌, drop}
use Rattle.std.specs.List.{flat_map}
use Rattle.ba_encode.specs.Parts.{bits_of}
use Rattle.ba_encode.proofs.reading.bits_read.Given as goal

abbrev pub invariant-loop-place : goal.invariant-loop-place
invariant-loop-place l = l.read.items ++ flat_map bits_of (drop l.place-index l.places)
    ≡ l.selectors ++ flat_map bits_of l.places
