use Rattle.std.proofs.Common.{◌≡◌, drop, length, map, take}
use Rattle.std.specs.List.{flat_map}
use Rattle.ba_clauses.specs.declared.encoding.Reading.{Reading}
use Rattle.ba_encode.specs.Parts.{bits_of, place_by}
use Rattle.ba_nodes.specs.declared.Bit.{Bit}
use Rattle.ba_encode.proofs.reading.place_readings.Given as goal

abbrev pub invariant-loop-place : goal.invariant-loop-place
invariant-loop-place l = record {
  many : length l.rest ≡ length (flat_map bits_of (drop l.place-index l.places));
  rest : (reading : Bit → Reading) → l.readings ≡ map reading (flat_map bits_of l.places)
      → l.rest ≡ map reading (flat_map bits_of (drop l.place-index l.places));
  read : (reading : Bit → Reading) → l.readings ≡ map reading (flat_map bits_of l.places)
      → l.read ≡ flat_map (place_by reading) (take l.place-index l.places);
}
