use Rattle.std.proofs.Common.{
  ◌≤◌,
  ◌≡◌,
  ◌+◌,
  ◌-◌,
  ◌^◌,
  ◌*◌,
  ℕ,
  Bool,
  false,
  not,
  ◌&&◌,
  ◌||◌,
  nat_le,
  sym,
  ap,
  ◌∙◌,
  arith,
}
use Rattle.ba_nodes.specs.Gates.{truth}
use Rattle.ba_nodes.proofs.Truths.{Extends-through}
use Rattle.ba_words.specs.Words.{digit, number_of, low_number, bit_at}
use Rattle.ba_words.proofs.Circuits.{HasValue-same}
use Rattle.ba_words.proofs.Places.{number_of-extends, low_number-extends}
use Rattle.ba_muldiv.proofs.Rows.{extended-number, fits_value, left_value, rest_value}
use Rattle.ba_muldiv.proofs.Steps.{le_false, chosen}
use Rattle.ba_muldiv.proofs.division.step.Goals as goal

-- what the low places of the remainder and of the divisor spell, and their sum with a carry
module _ (c : goal.In_ok-left) (free : ℕ → Bool) where
  few : c.least-kept.result ≤ 32
  few = omega (arith, c.least-kept.ensures.first, c.requires.width)

  none : truth free c.args.nodes.now c.constant-no.result ≡ false
  none = (c.constant-no.ensures.value c.args.nodes.now).holds free

  low_is : number_of free c.args.nodes.now c.extended-low.result ≡ low_number free c.args.nodes.now
      c.args.rest.now c.least-kept.result
  low_is = extended-number free c.args.nodes.now c.extended-low.result c.args.rest.now c.least-kept.result
      c.constant-no.result c.extended-low.ensures.long c.told-rest few
      none c.extended-low.ensures.places

  divisor_is : number_of free c.args.nodes.now c.extended.result ≡ low_number free c.args.nodes.now
      c.args.divisor.now c.least-kept.result
  divisor_is = extended-number free c.args.nodes.now c.extended.result c.args.divisor.now
      c.least-kept.result c.constant-no.result c.extended.ensures.long c.told-divisor few
      none c.extended.ensures.places

  sum : number_of free c.add_with_carry.new.nodes c.in_ok-difference.difference + 2 ^ 32 * digit (truth
      free c.add_with_carry.new.nodes c.in_ok-difference.carry)
      ≡ number_of free c.args.nodes.now c.extended-low.result + number_of free c.args.nodes.now
      c.flip-complement.result + 1
  sum = c.in_ok-difference.ensures.sum free
      ∙ ap (λ t. number_of free c.args.nodes.now c.extended-low.result + number_of free c.args.nodes.now
      c.flip-complement.result + digit t) ((c.constant.ensures.value c.args.nodes.now).holds free)

  fits_is : truth free c.and.new.self c.in_ok-fits.fits ≡ nat_le (number_of free c.args.nodes.now
      c.args.divisor.now) (number_of free c.args.nodes.now c.args.rest.now)
  fits_is =
      let lower = Extends-through c.args.nodes.now c.add_with_carry.new.nodes c.or.new.self
      c.add_with_carry.ensures.grows.extends c.or.ensures.makes.grows.extends in
      let above = ap (truth free c.add_with_carry.new.nodes) c.bit_at.ensures
      ∙ c.add_with_carry.ensures.grows.extends.keeps free (bit_at c.args.rest.now c.least-kept.result)
      (c.requires.words.first c.least-kept.result) in
      let enough = c.in_ok-enough.ensures.makes.value.holds free
      ∙ ap (λ t. truth free c.add_with_carry.new.nodes c.in_ok-difference.carry || t) above in
      let wider = c.not.ensures.value c.or.new.self free
      ∙ ap not (lower.keeps free c.args.wider c.requires.wider.is_bit ∙ c.requires.wider.holds free) in
      c.in_ok-fits.ensures.makes.value.holds free ∙ (λ i. enough i && wider i)
      ∙ fits_value free c.args.nodes.now c.add_with_carry.new.nodes c.args.rest.now c.args.divisor.now
      c.extended-low.result c.extended.result c.flip-complement.result c.in_ok-difference.difference
      c.in_ok-difference.carry c.args.width c.args.known c.least-kept.result c.told-rest c.told-divisor
      c.in_ok-difference.ensures.bits.0 c.requires.width c.least-kept.ensures.first c.least-kept.ensures.one
      (c.requires.small free) (c.requires.narrow free) c.requires.known (λ below. c.requires.twice below
      free) low_is divisor_is (c.flip-complement.ensures.number c.args.nodes.now free) sum

pub returns-clause-fits : goal.returns-clause-fits
returns-clause-fits c = record {
  is_bit = omega (arith, c.in_ok-fits.ensures.makes.value.is_bit, c.select.ensures.grows.extends.grows);
  holds = λ free. c.select.ensures.grows.extends.keeps free c.in_ok-fits.fits
      c.in_ok-fits.ensures.makes.value.is_bit ∙ fits_is c free;
}

pub returns-clause-left : goal.returns-clause-left
returns-clause-left c = record {
  long = c.in_ok-left.ensures.number.long;
  are_bits = c.in_ok-left.ensures.number.are_bits;
  holds = λ free.
      let upper = Extends-through c.add_with_carry.new.nodes c.or.new.self c.and.new.self
      c.or.ensures.makes.grows.extends c.and.ensures.makes.grows.extends in
      let all = Extends-through c.args.nodes.now c.add_with_carry.new.nodes c.and.new.self
      c.add_with_carry.ensures.grows.extends upper in
      let difference : number_of free c.and.new.self c.extended-2.result ≡ low_number free
      c.add_with_carry.new.nodes c.in_ok-difference.difference c.least-kept.result =
      extended-number free c.and.new.self c.extended-2.result c.in_ok-difference.difference
      c.least-kept.result c.constant-no.result c.extended-2.ensures.long
      c.in_ok-difference.ensures.bits.0 (few c free)
      ((c.constant-no.ensures.value c.and.new.self).holds free) c.extended-2.ensures.places
      ∙ low_number-extends free c.add_with_carry.new.nodes c.and.new.self c.in_ok-difference.difference
      c.least-kept.result upper c.in_ok-difference.ensures.bits.1 in
      let low_bits = c.extended-low.ensures.bits c.args.nodes.now c.requires.words.first
      ((c.constant-no.ensures.value c.args.nodes.now).is_bit) in
      let low : number_of free c.and.new.self c.extended-low.result ≡ low_number free c.args.nodes.now
      c.args.rest.now c.least-kept.result =
      number_of-extends free c.args.nodes.now c.and.new.self c.extended-low.result all low_bits ∙ low_is c
      free in
      c.in_ok-left.ensures.number.holds free
      ∙ chosen (truth free c.and.new.self c.in_ok-fits.fits) (nat_le (number_of free c.args.nodes.now
      c.args.divisor.now) (number_of free c.args.nodes.now c.args.rest.now))
      (number_of free c.and.new.self c.extended-2.result) (number_of free c.args.nodes.now c.args.rest.now
      - number_of free c.args.nodes.now c.args.divisor.now)
      (number_of free c.and.new.self c.extended-low.result) (number_of free c.args.nodes.now
      c.args.rest.now) (fits_is c free)
      (λ does. difference
      ∙ left_value free c.args.nodes.now c.add_with_carry.new.nodes c.args.rest.now c.args.divisor.now
      c.extended-low.result c.extended.result c.flip-complement.result c.in_ok-difference.difference
      c.in_ok-difference.carry c.args.width c.args.known c.least-kept.result c.told-rest c.told-divisor
      c.in_ok-difference.ensures.bits.0 c.requires.width c.least-kept.ensures.first c.least-kept.ensures.one
      (c.requires.small free) (c.requires.narrow free) c.requires.known (λ below. c.requires.twice below
      free) (low_is c free) (divisor_is c free) (c.flip-complement.ensures.number c.args.nodes.now free)
      (sum c free) does)
      (λ fails. low
      ∙ rest_value free c.args.nodes.now c.add_with_carry.new.nodes c.args.rest.now c.args.divisor.now
      c.extended-low.result c.extended.result c.flip-complement.result c.in_ok-difference.difference
      c.in_ok-difference.carry c.args.width c.args.known c.least-kept.result c.told-rest c.told-divisor
      c.in_ok-difference.ensures.bits.0 c.requires.width c.least-kept.ensures.first c.least-kept.ensures.one
      (c.requires.small free) (c.requires.narrow free) c.requires.known (λ below. c.requires.twice below
      free) (low_is c free) (divisor_is c free) (c.flip-complement.ensures.number c.args.nodes.now free)
      (sum c free) fails);
}

pub returns-then-is_surely_wider-clause-fits : goal.returns-then-is_surely_wider-clause-fits
returns-then-is_surely_wider-clause-fits c =
    HasValue-same c.args.nodes.now c.constant-no.result _ _ (c.constant-no.ensures.value c.args.nodes.now)
    (λ free.
    let wide : 2 ^ c.args.width ≤ number_of free c.args.nodes.now c.args.divisor.now =
    c.if-is_surely_wider.ensures c.args.nodes.now free in
    sym (le_false (number_of free c.args.nodes.now c.args.divisor.now) (number_of free c.args.nodes.now
    c.args.rest.now) (omega (arith, wide, c.requires.small free))))
