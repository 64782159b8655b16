use Rattle.std.proofs.Common.{◌≡◌, ◌++◌, drop, map}
use Rattle.ba_encode.specs.Readings.{number_read}
use Rattle.ba_lits.specs.Satisfaction.{assignment_of}
use Rattle.ba_encode.proofs.choices.numbers_read.Given as goal

abbrev pub invariant-loop-value : goal.invariant-loop-value
invariant-loop-value l =
    l.numbers ++ map (number_read (assignment_of l.model.values)) (drop l.value-index l.values)
    ≡ map (number_read (assignment_of l.model.values)) l.values
