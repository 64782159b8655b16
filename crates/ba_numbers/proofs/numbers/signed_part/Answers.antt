use Rattle.std.proofs.Common.{w64}
use Rattle.std.proofs.lemmas.Int.{to_z-of_z}
use Rattle.ba_numbers.proofs.Conversions.{centred_low}
use Rattle.ba_numbers.proofs.Parts.{part_read, centred_fits, below_half}
use Rattle.ba_numbers.proofs.numbers.signed_part.Goals as goal

pub overflow_cast-result : goal.overflow_cast-result
overflow_cast-result c =
    rw (part_read c.args.half c.args.value c.from-half.result c.rem_euclid.result c.requires.positive
    c.ranges.half
    c.requires.small c.ranges.value c.from-half.ensures c.rem_euclid.ensures.value)
    (centred_fits c.args.half c.args.value c.requires.positive c.ranges.half)

pub returns-clause-value : goal.returns-clause-value
returns-clause-value c =
    rw (part_read c.args.half c.args.value c.from-half.result c.rem_euclid.result c.requires.positive
    c.ranges.half
    c.requires.small c.ranges.value c.from-half.ensures c.rem_euclid.ensures.value)
    (to_z-of_z w64 _ (centred_fits c.args.half c.args.value c.requires.positive c.ranges.half))

pub returns-clause-low : goal.returns-clause-low
returns-clause-low c =
    rw (
      part_read c.args.half c.args.value c.from-half.result c.rem_euclid.result c.requires.positive
          c.ranges.half
          c.requires.small c.ranges.value c.from-half.ensures c.rem_euclid.ensures.value,
      to_z-of_z w64 _ (centred_fits c.args.half c.args.value c.requires.positive c.ranges.half),
    )
    (centred_low c.args.half c.args.value)

pub returns-clause-high : goal.returns-clause-high
returns-clause-high c =
    rw (
      part_read c.args.half c.args.value c.from-half.result c.rem_euclid.result c.requires.positive
          c.ranges.half
          c.requires.small c.ranges.value c.from-half.ensures c.rem_euclid.ensures.value,
      to_z-of_z w64 _ (centred_fits c.args.half c.args.value c.requires.positive c.ranges.half),
    )
    (below_half c.args.half c.args.value c.requires.positive)
