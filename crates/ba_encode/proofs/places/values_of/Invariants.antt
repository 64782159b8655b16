use Rattle.std.proofs.Common.{◌≡◌, true, map, take}
use Rattle.ba_encode.specs.Parts.{are_long, value_bits}
use Rattle.ba_encode.proofs.places.values_of.Given as goal

abbrev pub invariant-loop-number : goal.invariant-loop-number
invariant-loop-number l = record {
  values : l.bits ≡ map (value_bits l.words l.entries) (take l.number-index l.values);
  long : are_long l.bits ≡ true;
}
