use Rattle.std.proofs.Common.{◌<◌, ◌≡◌, ℕ, Bool, ◌+◌, ◌-◌, ◌*◌, ◌%◌, ◌^◌, ◌≤◌, nat_le, replicate, refl, sym, ap, subst, ◌∙◌, arith, if◌then◌else◌}
use Rattle.ba_nodes.specs.Gates.{truth}
use Rattle.ba_nodes.proofs.Truths.{Extends-through, Grows_refl}
use Rattle.ba_words.specs.Words.{digit, number_of, bit_at}
use Rattle.ba_words.proofs.Carries.{are_bits-replicate, number-zeros}
use Rattle.ba_words.proofs.Places.{are_bits-extends, number_of-extends}
use Rattle.ba_muldiv.specs.Division.{long_quotient, high_number}
use Rattle.ba_muldiv.proofs.Bounds.{ones-extends, bounded_zero, bounded_later, left_below, later_is, later_bounded}
use Rattle.ba_muldiv.proofs.Rows.{high_number-more, high_number_below}
use Rattle.ba_muldiv.proofs.Steps.{no_quotient, no_rest, next_twice, quotient_value, quotient_step, rest_step}
use Rattle.ba_muldiv.proofs.division.upper_steps.Goals as goal

pub loop-i-init : goal.loop-i-init
loop-i-init c =
    let zeros = are_bits-replicate c.args.nodes.now 32 c.constant-zero.result
    (c.constant-zero.ensures.value c.args.nodes.now).is_bit in
    record {
      grows = Grows_refl c.args.nodes.now _;
      quotient = record {
        long = refl;
        are_bits = zeros;
        holds = λ free.
            number-zeros free c.args.nodes.now 32 c.constant-zero.result
            ((c.constant-zero.ensures.value c.args.nodes.now).holds free)
            ∙ no_quotient (high_number free c.args.nodes.now c.args.dividend.now 32)
            (number_of free c.args.nodes.now c.args.divisor.now)
            (high_number_below free c.args.nodes.now c.args.dividend.now 32 0 c.told-dividend);
      };
      rest = record {
        long = refl;
        are_bits = zeros;
        holds = λ free.
            number-zeros free c.args.nodes.now 32 c.constant-zero.result
            ((c.constant-zero.ensures.value c.args.nodes.now).holds free)
            ∙ no_rest (high_number free c.args.nodes.now c.args.dividend.now 32)
            (number_of free c.args.nodes.now c.args.divisor.now)
            (high_number_below free c.args.nodes.now c.args.dividend.now 32 0 c.told-dividend);
      };
      bounds_long = refl;
      bounds_bits = are_bits-replicate c.args.nodes.now 32 c.constant-any.result
          (c.constant-any.ensures.value c.args.nodes.now).is_bit;
      bounded = λ free.
          bounded_zero free c.args.nodes.now (replicate 32 c.constant-any.result)
          (number_of free c.args.nodes.now (replicate 32 c.constant-zero.result))
          (number-zeros free c.args.nodes.now 32 c.constant-zero.result
          ((c.constant-zero.ensures.value c.args.nodes.now).holds free));
    }

pub bounded_step-requires-clause-bounds : goal.bounded_step-requires-clause-bounds
bounded_step-requires-clause-bounds c free =
    later_bounded free c.args.nodes.now c.loop-i.nodes c.next_bounds.new.nodes
    c.args.dividend.now c.loop-i.rest c.brought_down-next.result c.loop-i.i (omega arith)
    c.requires.words.first c.loop-i.invariant.rest.are_bits c.loop-i.invariant.grows.extends
    c.next_bounds.ensures.grows.extends (c.brought_down-next.ensures.number c.next_bounds.new.nodes free)
    c.in_ok-bounds.bounds
    (c.in_ok-bounds.ensures.more free (number_of free c.loop-i.nodes c.loop-i.rest)
    (c.loop-i.invariant.bounded free))

pub bounded_step-requires-clause-above : goal.bounded_step-requires-clause-above
bounded_step-requires-clause-above c =
    ones-extends c.args.nodes.now c.next_bounds.new.nodes c.args.divisor.now c.args.above.now
    (Extends-through c.args.nodes.now c.loop-i.nodes c.next_bounds.new.nodes c.loop-i.invariant.grows.extends
    c.next_bounds.ensures.grows.extends) c.requires.words.second c.requires.above

pub bounded_step-requires-clause-narrow : goal.bounded_step-requires-clause-narrow
bounded_step-requires-clause-narrow c free =
    c.known_width-known.ensures.narrow c.next_bounds.new.nodes free

pub bounded_step-requires-clause-twice : goal.bounded_step-requires-clause-twice
bounded_step-requires-clause-twice c below free =
    let kept = number_of-extends free c.args.nodes.now c.next_bounds.new.nodes c.args.divisor.now
    (Extends-through c.args.nodes.now c.loop-i.nodes c.next_bounds.new.nodes c.loop-i.invariant.grows.extends
    c.next_bounds.ensures.grows.extends) c.requires.words.second in
    subst (λ d. number_of free c.next_bounds.new.nodes c.brought_down-next.result < 2 * d)
    (sym kept)
    (next_twice (high_number free c.args.nodes.now c.args.dividend.now (31 - c.loop-i.i + 1))
    (number_of free c.args.nodes.now c.args.divisor.now)
    (number_of free c.next_bounds.new.nodes c.brought_down-next.result)
    (truth free c.args.nodes.now (bit_at c.args.dividend.now (31 - c.loop-i.i)))
    (c.known_width-known.ensures.some below c.args.nodes.now free)
    (later_is free c.args.nodes.now c.loop-i.nodes c.next_bounds.new.nodes c.args.dividend.now c.loop-i.rest
    c.brought_down-next.result c.loop-i.i (omega arith) c.requires.words.first
    c.loop-i.invariant.rest.are_bits c.loop-i.invariant.grows.extends c.next_bounds.ensures.grows.extends
    (c.brought_down-next.ensures.number c.next_bounds.new.nodes free)
    (number_of free c.args.nodes.now c.args.divisor.now) c.told-dividend
    (c.loop-i.invariant.rest.holds free)))

pub loop-i-preserved : goal.loop-i-preserved
loop-i-preserved c =
    let few : c.loop-i.i ≤ 30 = omega arith in
    let place : 31 - c.loop-i.i + 1 ≡ 32 - c.loop-i.i = omega arith in
    let next : 32 - (c.loop-i.i + 1) ≡ 31 - c.loop-i.i = omega arith in
    let whole : 31 - c.loop-i.i + 1 + c.loop-i.i ≡ 32 = omega arith in
    let upper = Extends-through c.loop-i.nodes c.next_bounds.new.nodes c.bounded_step.new.nodes
    c.next_bounds.ensures.grows.extends c.bounded_step.ensures.grows.extends in
    let extended = Extends-through c.args.nodes.now c.loop-i.nodes c.next_bounds.new.nodes
    c.loop-i.invariant.grows.extends c.next_bounds.ensures.grows.extends in
    let kept : (free : ℕ → Bool) → number_of free c.next_bounds.new.nodes c.args.divisor.now
    ≡ number_of free c.args.nodes.now c.args.divisor.now =
    λ free.
    number_of-extends free c.args.nodes.now c.next_bounds.new.nodes c.args.divisor.now extended
    c.requires.words.second in
    let now_is : (free : ℕ → Bool) → number_of free c.next_bounds.new.nodes c.brought_down-next.result
    ≡ 2 * (high_number free c.args.nodes.now c.args.dividend.now (31 - c.loop-i.i + 1) % number_of free
    c.args.nodes.now c.args.divisor.now) + digit (truth free c.args.nodes.now
    (bit_at c.args.dividend.now (31 - c.loop-i.i))) =
    λ free.
    later_is free c.args.nodes.now c.loop-i.nodes c.next_bounds.new.nodes c.args.dividend.now c.loop-i.rest
    c.brought_down-next.result c.loop-i.i (omega arith) c.requires.words.first
    c.loop-i.invariant.rest.are_bits c.loop-i.invariant.grows.extends c.next_bounds.ensures.grows.extends
    (c.brought_down-next.ensures.number c.next_bounds.new.nodes free)
    (number_of free c.args.nodes.now c.args.divisor.now) c.told-dividend
    (c.loop-i.invariant.rest.holds free) in
    record {
      grows = record {
        extends = Extends-through c.args.nodes.now c.next_bounds.new.nodes c.bounded_step.new.nodes extended
            c.bounded_step.ensures.grows.extends;
        count = omega arith;
      };
      quotient = record {
        long = c.brought_down-quotient.ensures.long;
        are_bits = c.brought_down-quotient.ensures.bits c.bounded_step.new.nodes
            (are_bits-extends c.loop-i.nodes c.bounded_step.new.nodes c.loop-i.quotient upper
            c.loop-i.invariant.quotient.are_bits) c.in_ok-fits.ensures.fits.is_bit;
        holds = λ free.
            quotient_value c.loop-i.i (high_number free c.args.nodes.now c.args.dividend.now
            (31 - c.loop-i.i + 1)) (number_of free c.args.nodes.now c.args.divisor.now)
            (number_of free c.bounded_step.new.nodes c.loop-i.quotient)
            (number_of free c.bounded_step.new.nodes c.brought_down-quotient.result)
            (nat_le (number_of free c.args.nodes.now c.args.divisor.now)
            (number_of free c.next_bounds.new.nodes c.brought_down-next.result)) (omega arith)
            (high_number_below free c.args.nodes.now c.args.dividend.now (31 - c.loop-i.i + 1) c.loop-i.i
            (c.told-dividend ∙ sym whole))
            (number_of-extends free c.loop-i.nodes c.bounded_step.new.nodes c.loop-i.quotient upper
            c.loop-i.invariant.quotient.are_bits
            ∙ c.loop-i.invariant.quotient.holds free
            ∙ ap (λ j. long_quotient c.loop-i.i (high_number free c.args.nodes.now c.args.dividend.now j)
            (number_of free c.args.nodes.now c.args.divisor.now)) (sym place))
            (c.brought_down-quotient.ensures.number c.bounded_step.new.nodes free
            ∙ ap (λ b. (2 * number_of free c.bounded_step.new.nodes c.loop-i.quotient + digit b) % 2 ^ 32)
            (c.in_ok-fits.ensures.fits.holds free ∙ ap (λ d. nat_le d
            (number_of free c.next_bounds.new.nodes c.brought_down-next.result)) (kept free)))
            ∙ quotient_step c.loop-i.i (high_number free c.args.nodes.now c.args.dividend.now
            (31 - c.loop-i.i + 1)) (number_of free c.args.nodes.now c.args.divisor.now)
            (number_of free c.next_bounds.new.nodes c.brought_down-next.result)
            (truth free c.args.nodes.now (bit_at c.args.dividend.now (31 - c.loop-i.i))) (now_is free)
            ∙ ap (λ h. long_quotient (c.loop-i.i + 1) h (number_of free c.args.nodes.now
            c.args.divisor.now)) (sym (high_number-more free c.args.nodes.now c.args.dividend.now
            (31 - c.loop-i.i) (omega (arith, c.told-dividend))))
            ∙ ap (λ j. long_quotient (c.loop-i.i + 1) (high_number free c.args.nodes.now c.args.dividend.now
            j) (number_of free c.args.nodes.now c.args.divisor.now)) (sym next);
      };
      rest = record {
        long = c.in_ok-fits.ensures.left.long;
        are_bits = c.in_ok-fits.ensures.left.are_bits;
        holds = λ free.
            c.in_ok-fits.ensures.left.holds free
            ∙ ap (λ d. if nat_le d (number_of free c.next_bounds.new.nodes c.brought_down-next.result) then
            number_of free c.next_bounds.new.nodes c.brought_down-next.result - d else number_of free
            c.next_bounds.new.nodes c.brought_down-next.result) (kept free)
            ∙ rest_step (high_number free c.args.nodes.now c.args.dividend.now (31 - c.loop-i.i + 1))
            (number_of free c.args.nodes.now c.args.divisor.now)
            (number_of free c.next_bounds.new.nodes c.brought_down-next.result)
            (truth free c.args.nodes.now (bit_at c.args.dividend.now (31 - c.loop-i.i))) (now_is free)
            ∙ ap (λ h. h % number_of free c.args.nodes.now c.args.divisor.now)
            (sym (high_number-more free c.args.nodes.now c.args.dividend.now (31 - c.loop-i.i)
            (omega (arith, c.told-dividend))))
            ∙ ap (λ j. high_number free c.args.nodes.now c.args.dividend.now j % number_of free
            c.args.nodes.now c.args.divisor.now) (sym next);
      };
      bounds_long = c.in_ok-bounds.ensures.long;
      bounds_bits = are_bits-extends c.next_bounds.new.nodes c.bounded_step.new.nodes c.in_ok-bounds.bounds
          c.bounded_step.ensures.grows.extends c.in_ok-bounds.ensures.bits;
      bounded = λ free.
          let n = number_of free c.next_bounds.new.nodes c.brought_down-next.result in
          let d = number_of free c.next_bounds.new.nodes c.args.divisor.now in
          bounded_later free c.next_bounds.new.nodes c.bounded_step.new.nodes c.in_ok-bounds.bounds
          (number_of free c.bounded_step.new.nodes c.in_ok-fits.left) n c.bounded_step.ensures.grows.extends
          c.in_ok-bounds.ensures.bits
          (subst (λ m. m ≤ n) (sym (c.in_ok-fits.ensures.left.holds free)) (left_below (nat_le d n) n d))
          (later_bounded free c.args.nodes.now c.loop-i.nodes c.next_bounds.new.nodes
          c.args.dividend.now c.loop-i.rest c.brought_down-next.result c.loop-i.i (omega arith)
          c.requires.words.first c.loop-i.invariant.rest.are_bits c.loop-i.invariant.grows.extends
          c.next_bounds.ensures.grows.extends
          (c.brought_down-next.ensures.number c.next_bounds.new.nodes free)
          c.in_ok-bounds.bounds
          (c.in_ok-bounds.ensures.more free (number_of free c.loop-i.nodes c.loop-i.rest)
          (c.loop-i.invariant.bounded free)));
    }
