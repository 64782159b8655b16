use Rattle.std.proofs.Common.{◌≡◌, ◌+◌, ◌*◌, ◌%◌, ◌^◌, not, nat_le, refl, sym, ap, ◌∙◌, arith, rules}
use Rattle.ba_nodes.specs.Gates.{truth}
use Rattle.ba_nodes.proofs.Truths.{Extends-through}
use Rattle.ba_words.specs.Words.{digit, number_of, bit_at}
use Rattle.ba_words.proofs.Places.{are_bits-extends, number_of-extends}
use Rattle.ba_muldiv.specs.Division.{long_quotient, high_number}
use Rattle.ba_muldiv.proofs.Bounds.{none_fits, later_is, later_bounded, ones-extends, no_ones}
use Rattle.ba_muldiv.proofs.Rows.{high_number-more, high_number_below}
use Rattle.ba_muldiv.proofs.Steps.{le-not_lt, quotient_value, quotient_step}
use Rattle.ba_words.proofs.Outcomes.{makes_word}
use Rattle.ba_muldiv.proofs.division.quotient_by_steps.Goals as goal

pub fits_into_nonzero-requires-clause-none : goal.fits_into_nonzero-requires-clause-none
fits_into_nonzero-requires-clause-none c free none does =
    let below = c.in_ok-exceeds.ensures.below refl in
    let d = number_of free c.next_bounds.new.nodes c.args.divisor.now in
    let n = number_of free c.next_bounds.new.nodes c.brought_down-last.result in
    let extended = Extends-through c.args.nodes.now c.upper_steps.new.nodes c.next_bounds.new.nodes
    c.upper_steps.ensures.grows.extends c.next_bounds.ensures.grows.extends in
    let whole = Extends-through c.args.nodes.now c.next_bounds.new.nodes c.less.new.nodes extended
    c.less.ensures.grows.extends in
    no_ones free c.args.nodes.now c.less.new.nodes c.args.divisor.now c.args.above.now whole
    c.requires.words.second c.requires.above
    (number_of-extends free c.next_bounds.new.nodes c.less.new.nodes c.args.divisor.now
    c.less.ensures.grows.extends (are_bits-extends c.args.nodes.now c.next_bounds.new.nodes c.args.divisor.now
    extended c.requires.words.second)
    ∙ none_fits free c.next_bounds.new.nodes c.less.new.nodes c.in_ok-last_bounds.last_bounds d n
    (truth free c.less.new.nodes c.not.result) c.less.ensures.grows.extends c.in_ok-last_bounds.ensures.bits
    (later_bounded free c.args.nodes.now c.upper_steps.new.nodes c.next_bounds.new.nodes
    c.args.dividend.now c.in_ok-quotient.rest c.brought_down-last.result 31 (omega arith)
    c.requires.words.first c.in_ok-quotient.ensures.rest.are_bits c.upper_steps.ensures.grows.extends
    c.next_bounds.ensures.grows.extends
    (c.brought_down-last.ensures.number c.next_bounds.new.nodes free) c.in_ok-last_bounds.last_bounds
    (c.in_ok-last_bounds.ensures.more free (number_of free c.upper_steps.new.nodes c.in_ok-quotient.rest)
    (c.in_ok-quotient.ensures.bounds free)))
    (c.not.ensures.value c.less.new.nodes free ∙ ap not (below.holds free) ∙ le-not_lt d n) none does)

pub fits_into_nonzero-requires-clause-third : goal.fits_into_nonzero-requires-clause-third
fits_into_nonzero-requires-clause-third c =
    (ones-extends c.args.nodes.now c.less.new.nodes c.args.divisor.now c.args.above.now
    (Extends-through c.args.nodes.now c.next_bounds.new.nodes c.less.new.nodes (Extends-through
    c.args.nodes.now
    c.upper_steps.new.nodes c.next_bounds.new.nodes c.upper_steps.ensures.grows.extends
    c.next_bounds.ensures.grows.extends)
    c.less.ensures.grows.extends) c.requires.words.second c.requires.above 0 (omega arith)).is_bit

pub returns : goal.returns
returns c = makes_word (search rules)
    (let below = c.in_ok-exceeds.ensures.below refl in
    let extended = Extends-through c.args.nodes.now c.upper_steps.new.nodes c.next_bounds.new.nodes
    c.upper_steps.ensures.grows.extends c.next_bounds.ensures.grows.extends in
    let upper = Extends-through c.upper_steps.new.nodes c.less.new.nodes c.fits_into_nonzero.new.nodes
    (Extends-through c.upper_steps.new.nodes c.next_bounds.new.nodes c.less.new.nodes
    c.next_bounds.ensures.grows.extends c.less.ensures.grows.extends)
    c.fits_into_nonzero.ensures.grows.extends in
    record {
      long = c.brought_down.ensures.long;
      are_bits = c.brought_down.ensures.bits c.fits_into_nonzero.new.nodes
          (are_bits-extends c.upper_steps.new.nodes c.fits_into_nonzero.new.nodes c.in_ok-quotient.quotient
          upper c.in_ok-quotient.ensures.quotient.are_bits) c.in_ok-fits.ensures.value.is_bit;
      holds = λ free.
          let kept = number_of-extends free c.args.nodes.now c.next_bounds.new.nodes c.args.divisor.now
          extended c.requires.words.second in
          let now_is = later_is free c.args.nodes.now c.upper_steps.new.nodes c.next_bounds.new.nodes
          c.args.dividend.now c.in_ok-quotient.rest c.brought_down-last.result 31 (omega arith)
          c.requires.words.first c.in_ok-quotient.ensures.rest.are_bits c.upper_steps.ensures.grows.extends
          c.next_bounds.ensures.grows.extends (c.brought_down-last.ensures.number c.next_bounds.new.nodes
          free) (number_of free c.args.nodes.now c.args.divisor.now) c.told-dividend
          (c.in_ok-quotient.ensures.rest.holds free) in
          let test : truth free c.fits_into_nonzero.new.nodes c.in_ok-fits.fits
          ≡ nat_le (number_of free c.args.nodes.now c.args.divisor.now)
          (number_of free c.next_bounds.new.nodes c.brought_down-last.result) =
          c.in_ok-fits.ensures.value.holds free
          ∙ c.not.ensures.value c.less.new.nodes free
          ∙ ap not (below.holds free)
          ∙ le-not_lt (number_of free c.next_bounds.new.nodes c.args.divisor.now)
          (number_of free c.next_bounds.new.nodes c.brought_down-last.result)
          ∙ ap (λ d. nat_le d (number_of free c.next_bounds.new.nodes c.brought_down-last.result)) kept in
          quotient_value 31 (high_number free c.args.nodes.now c.args.dividend.now 1)
          (number_of free c.args.nodes.now c.args.divisor.now)
          (number_of free c.fits_into_nonzero.new.nodes c.in_ok-quotient.quotient)
          (number_of free c.fits_into_nonzero.new.nodes c.brought_down.result)
          (nat_le (number_of free c.args.nodes.now c.args.divisor.now)
          (number_of free c.next_bounds.new.nodes c.brought_down-last.result)) (omega arith)
          (high_number_below free c.args.nodes.now c.args.dividend.now 1 31 c.told-dividend)
          (number_of-extends free c.upper_steps.new.nodes c.fits_into_nonzero.new.nodes
          c.in_ok-quotient.quotient upper c.in_ok-quotient.ensures.quotient.are_bits
          ∙ c.in_ok-quotient.ensures.quotient.holds free)
          (c.brought_down.ensures.number c.fits_into_nonzero.new.nodes free
          ∙ ap (λ b. (2 * number_of free c.fits_into_nonzero.new.nodes c.in_ok-quotient.quotient + digit b)
          % 2 ^ 32) test)
          ∙ quotient_step 31 (high_number free c.args.nodes.now c.args.dividend.now 1)
          (number_of free c.args.nodes.now c.args.divisor.now)
          (number_of free c.next_bounds.new.nodes c.brought_down-last.result)
          (truth free c.args.nodes.now (bit_at c.args.dividend.now 0)) now_is
          ∙ ap (λ h. long_quotient 32 h (number_of free c.args.nodes.now c.args.divisor.now))
          (sym (high_number-more free c.args.nodes.now c.args.dividend.now 0
          (omega (arith, c.told-dividend))));
    })
