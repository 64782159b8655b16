use Rattle.std.proofs.Common.{◌≡◌, drop, length, map, take}
use Rattle.std.specs.List.{flat_map}
use Rattle.ba_clauses.specs.declared.encoding.Reading.{Reading}
use Rattle.ba_encode.specs.Parts.{bits_of_value, value_by}
use Rattle.ba_nodes.specs.declared.Bit.{Bit}
use Rattle.ba_encode.proofs.reading.value_readings.Given as goal

abbrev pub invariant-loop-value : goal.invariant-loop-value
invariant-loop-value l = record {
  many : length l.rest ≡ length (flat_map bits_of_value (drop l.value-index l.values));
  rest : (reading : Bit → Reading) → l.readings ≡ map reading (flat_map bits_of_value l.values)
      → l.rest ≡ map reading (flat_map bits_of_value (drop l.value-index l.values));
  read : (reading : Bit → Reading) → l.readings ≡ map reading (flat_map bits_of_value l.values)
      → l.read ≡ map (value_by reading) (take l.value-index l.values);
}
