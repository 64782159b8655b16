use Rattle.std.proofs.Common.{◌≡◌, take}
use Rattle.std.specs.List.{flat_map}
use Rattle.ba_encode.specs.Readings.{choices_at}
use Rattle.ba_lits.specs.Satisfaction.{assignment_of}
use Rattle.ba_encode.proofs.choices.choices_of.Given as goal

abbrev pub invariant-loop-place : goal.invariant-loop-place
invariant-loop-place l =
    l.choices ≡ flat_map (choices_at (assignment_of l.model.values)) (take l.place-index l.encoded.places)
