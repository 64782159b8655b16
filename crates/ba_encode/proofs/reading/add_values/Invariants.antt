use Rattle.std.proofs.Common.{◌≡◌, ◌++◌, drop}
use Rattle.std.specs.List.{flat_map}
use Rattle.ba_encode.specs.Parts.{bits_of_value}
use Rattle.ba_encode.proofs.reading.add_values.Given as goal

abbrev pub invariant-loop-value : goal.invariant-loop-value
invariant-loop-value l = l.read.items ++ flat_map bits_of_value (drop l.value-index l.values)
    ≡ l.initial.read.items ++ flat_map bits_of_value l.values
