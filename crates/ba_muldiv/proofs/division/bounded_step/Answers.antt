use Rattle.std.proofs.Common.{◌≡◌, ◌≤◌, ◌-◌, ◌^◌, nat_le, sym, subst, ◌∙◌, arith, if◌then◌else◌}
use Rattle.ba_nodes.specs.Gates.{truth, HasValue}
use Rattle.ba_nodes.proofs.Truths.{Extends-through}
use Rattle.ba_words.specs.Words.{number_of}
use Rattle.ba_words.proofs.Places.{number_of-extends}
use Rattle.ba_muldiv.proofs.Bounds.{bounded_later, none_fits, left_below, ones-extends, no_ones}
use Rattle.ba_muldiv.proofs.division.bounded_step.Goals as goal

pub fits_into_nonzero-requires-clause-none : goal.fits_into_nonzero-requires-clause-none
fits_into_nonzero-requires-clause-none c free none does =
    no_ones free c.args.nodes.now c.step.new.nodes c.args.divisor.now c.args.above.now
    c.step.ensures.grows.extends c.requires.words.second c.requires.above
    (number_of-extends free c.args.nodes.now c.step.new.nodes c.args.divisor.now c.step.ensures.grows.extends
    c.requires.words.second ∙ none_fits free c.args.nodes.now c.step.new.nodes c.args.bounds.now
    (number_of free c.args.nodes.now c.args.divisor.now) (number_of free c.args.nodes.now c.args.rest.now)
    (truth free c.step.new.nodes c.in_ok-enough.enough) c.step.ensures.grows.extends c.requires.third
    (c.requires.bounds free) (c.in_ok-enough.ensures.fits.holds free) none does)

pub fits_into_nonzero-requires-clause-third : goal.fits_into_nonzero-requires-clause-third
fits_into_nonzero-requires-clause-third c =
    (ones-extends c.args.nodes.now c.step.new.nodes c.args.divisor.now c.args.above.now
    c.step.ensures.grows.extends c.requires.words.second c.requires.above 0 (omega arith)).is_bit

pub step-requires-clause-wider : goal.step-requires-clause-wider
step-requires-clause-wider c =
    subst (λ b. HasValue c.args.nodes.now b (λ free. nat_le (2 ^ c.width_of-width.result)
    (number_of free c.args.nodes.now c.args.divisor.now))) (sym c.bit_at-wider.ensures)
    (c.requires.above c.width_of-width.result c.width_of-width.ensures.few)

pub bounded-requires-clause-small : goal.bounded-requires-clause-small
bounded-requires-clause-small c free =
    let old = c.args.nodes.now in
    let n = number_of free old c.args.rest.now in
    let d = number_of free old c.args.divisor.now in
    let left : number_of free c.fits_into_nonzero.new.nodes c.in_ok-enough.difference
    ≡ (if nat_le d n then n - d else n) =
    number_of-extends free c.step.new.nodes c.fits_into_nonzero.new.nodes c.in_ok-enough.difference
    c.fits_into_nonzero.ensures.grows.extends c.in_ok-enough.ensures.left.are_bits
    ∙ c.in_ok-enough.ensures.left.holds free in
    bounded_later free old c.fits_into_nonzero.new.nodes c.args.bounds.now
    (number_of free c.fits_into_nonzero.new.nodes c.in_ok-enough.difference) n
    (Extends-through old c.step.new.nodes c.fits_into_nonzero.new.nodes c.step.ensures.grows.extends
    c.fits_into_nonzero.ensures.grows.extends) c.requires.third
    (subst (λ m. m ≤ n) (sym left) (left_below (nat_le d n) n d)) (c.requires.bounds free)

pub returns-clause-left : goal.returns-clause-left
returns-clause-left c = record {
  long = c.in_ok-left.ensures.number.long;
  are_bits = c.in_ok-left.ensures.number.are_bits;
  holds = λ free.
      c.in_ok-left.ensures.number.holds free
      ∙ number_of-extends free c.step.new.nodes c.fits_into_nonzero.new.nodes c.in_ok-enough.difference
      c.fits_into_nonzero.ensures.grows.extends c.in_ok-enough.ensures.left.are_bits
      ∙ c.in_ok-enough.ensures.left.holds free;
}
