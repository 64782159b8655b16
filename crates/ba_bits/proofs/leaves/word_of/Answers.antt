use Rattle.std.proofs.Common.{rules, ap, ◌∙◌, pos, unsigned_abs, w64, FitsSigned}
use Rattle.std.specs.Int.{int_rem_euclid}
use Rattle.std.proofs.lemmas.Int.{to_z-of_z}
use Rattle.ba_bits.proofs.Computing.{number-same}
use Rattle.ba_bits.proofs.leaves.word_of.Goals as goal

pub returns : goal.returns
returns c nodes =
    let fits : FitsSigned w64 c.rem_euclid.result = search rules in
    number-same nodes c.constant_word.result _ _ (c.constant_word.ensures nodes)
    (λ free. ap unsigned_abs (to_z-of_z w64 c.rem_euclid.result fits ∙ c.rem_euclid.ensures.value
    ∙ ap (λ z. int_rem_euclid z (pos 0x100000000)) (to_z-of_z w64 c.args.value c.ranges.value)))
