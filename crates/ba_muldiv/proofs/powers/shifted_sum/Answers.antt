use Rattle.std.proofs.Common.{◌≡◌, ◌+◌, ◌-◌, ◌*◌, ◌^◌, ◌<◌, ◌≤◌, length, true, ◌&&◌, sym, ap, ◌∙◌, arith, rules}
use Rattle.ba_nodes.specs.Gates.{truth}
use Rattle.ba_words.specs.Words.{number_of, low_number, digit, bit_at}
use Rattle.ba_words.proofs.Carries.{are_bits-replicate, number-zeros}
use Rattle.ba_words.proofs.Digits.{digit_small}
use Rattle.ba_words.proofs.Places.{are_bits-extends, low_number-extends, low_number-more}
use Rattle.ba_words.proofs.Shapes.{number-split}
use Rattle.ba_words.proofs.Circuits.{number_small, low_number_below}
use Rattle.ba_words.proofs.Narrow.{extended_number}
use Rattle.ba_muldiv.specs.Division.{is_negative, high_number}
use Rattle.ba_muldiv.proofs.Rows.{sign_value}
use Rattle.ba_muldiv.proofs.SignedPowers.{sum_of_places}
use Rattle.ba_words.proofs.Outcomes.{makes_word}
use Rattle.ba_muldiv.proofs.powers.shifted_sum.Goals as goal

pub add_with_carry-requires-clause-words : goal.add_with_carry-requires-clause-words
add_with_carry-requires-clause-words c = record {
  first = c.upper_bits.ensures.bits c.args.nodes.now c.requires.first;
  second = are_bits-replicate c.args.nodes.now 32 c.constant-zero.result
      (c.constant-zero.ensures.value c.args.nodes.now).is_bit;
}

pub returns : goal.returns
returns c = makes_word (search rules)
    (let old = c.args.nodes.now in
    let middle = c.add_with_carry.new.nodes in
    let new = c.and.new.self in
    let by = c.args.by in
    let sums = c.in_ok-sum.sum in
    let long = c.in_ok-sum.ensures.bits.0 in
    let bits = c.in_ok-sum.ensures.bits.1 in
    let next : 31 - by + 1 ≡ 32 - by = omega arith in
    let inside : 32 - by ≤ length sums = omega (arith, long) in
    let within : 31 - by < length sums = omega (arith, long) in
    record {
      long = c.extended.ensures.long;
      are_bits = c.extended.ensures.bits new (are_bits-extends middle new sums
          c.and.ensures.makes.grows.extends bits) c.in_ok-sign.ensures.makes.value.is_bit;
      holds = λ free.
          let m = number_of free old c.args.a.now in
          let bit = truth free old c.args.bit in
          let top = truth free middle (bit_at sums (31 - by)) in
          let zeros = number-zeros free old 32 c.constant-zero.result ((c.constant-zero.ensures.value
          old).holds free) in
          let upper = c.upper_bits.ensures.number old free in
          let sign = c.add_with_carry.ensures.grows.extends.keeps free (bit_at c.args.a.now 31)
          (c.requires.first 31) ∙ sign_value free old c.args.a.now true c.told-a in
          let sign_is = c.in_ok-sign.ensures.makes.value.holds free ∙ ap (λ t. t && top) sign in
          sum_of_places by m (digit bit) (number_of free middle sums) (low_number free middle sums (32 - by))
          (low_number free middle sums (31 - by)) (high_number free middle sums (32 - by))
          (number_of free new c.extended.result) (truth free middle c.in_ok-sum.field-0-1) top c.requires.few
          (number_small free old c.args.a.now c.told-a) (digit_small bit)
          (c.in_ok-sum.ensures.sum free ∙ (λ i. upper i + zeros i + digit bit))
          (number-split free middle sums (32 - by) inside)
          (sym (ap (low_number free middle sums) next) ∙ low_number-more free middle sums (31 - by) within)
          (low_number_below free middle sums (31 - by) (omega (arith, within)))
          (extended_number free new c.extended.result sums (32 - by) c.in_ok-sign.sign (is_negative true m
          && top)
          (omega arith) c.extended.ensures.long long sign_is c.extended.ensures.places
          ∙ ap (λ n. n + digit (is_negative true m && top) * 2 ^ 32)
          (low_number-extends free middle new sums (32 - by) c.and.ensures.makes.grows.extends bits));
    })
