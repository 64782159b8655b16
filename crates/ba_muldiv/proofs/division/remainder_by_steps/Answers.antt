use Rattle.std.proofs.Common.{◌<◌, ◌*◌, ◌-◌, ◌%◌, nat_le, sym, ap, subst, ◌∙◌, arith, if◌then◌else◌, rules}
use Rattle.ba_nodes.specs.Gates.{truth}
use Rattle.ba_nodes.proofs.Truths.{Extends-through}
use Rattle.ba_words.specs.Words.{number_of, bit_at}
use Rattle.ba_words.proofs.Places.{number_of-extends}
use Rattle.ba_muldiv.specs.Division.{high_number}
use Rattle.ba_muldiv.proofs.Bounds.{later_is, later_bounded, ones-extends}
use Rattle.ba_muldiv.proofs.Rows.{high_number-more}
use Rattle.ba_muldiv.proofs.Steps.{rest_step, next_twice}
use Rattle.ba_words.proofs.Outcomes.{makes_word}
use Rattle.ba_muldiv.proofs.division.remainder_by_steps.Goals as goal

pub bounded_step-requires-clause-bounds : goal.bounded_step-requires-clause-bounds
bounded_step-requires-clause-bounds c free =
    later_bounded free c.args.nodes.now c.upper_steps.new.nodes c.next_bounds.new.nodes c.args.dividend.now
    c.in_ok-rest.rest c.brought_down-last.result 31 (omega arith) c.requires.words.first
    c.in_ok-rest.ensures.rest.are_bits c.upper_steps.ensures.grows.extends c.next_bounds.ensures.grows.extends
    (c.brought_down-last.ensures.number c.next_bounds.new.nodes free)
    c.in_ok-last_bounds.last_bounds
    (c.in_ok-last_bounds.ensures.more free (number_of free c.upper_steps.new.nodes c.in_ok-rest.rest)
    (c.in_ok-rest.ensures.bounds free))

pub bounded_step-requires-clause-above : goal.bounded_step-requires-clause-above
bounded_step-requires-clause-above c =
    ones-extends c.args.nodes.now c.next_bounds.new.nodes c.args.divisor.now c.args.above.now
    (Extends-through c.args.nodes.now c.upper_steps.new.nodes c.next_bounds.new.nodes
    c.upper_steps.ensures.grows.extends c.next_bounds.ensures.grows.extends) c.requires.words.second
    c.requires.above

pub bounded_step-requires-clause-twice : goal.bounded_step-requires-clause-twice
bounded_step-requires-clause-twice c below free =
    let kept = number_of-extends free c.args.nodes.now c.next_bounds.new.nodes c.args.divisor.now
    (Extends-through c.args.nodes.now c.upper_steps.new.nodes c.next_bounds.new.nodes
    c.upper_steps.ensures.grows.extends c.next_bounds.ensures.grows.extends) c.requires.words.second in
    subst (λ d. number_of free c.next_bounds.new.nodes c.brought_down-last.result < 2 * d) (sym kept)
    (next_twice (high_number free c.args.nodes.now c.args.dividend.now 1)
    (number_of free c.args.nodes.now c.args.divisor.now)
    (number_of free c.next_bounds.new.nodes c.brought_down-last.result)
    (truth free c.args.nodes.now (bit_at c.args.dividend.now 0))
    (c.known_width-known.ensures.some below c.args.nodes.now free)
    (later_is free c.args.nodes.now c.upper_steps.new.nodes c.next_bounds.new.nodes c.args.dividend.now
    c.in_ok-rest.rest c.brought_down-last.result 31 (omega arith) c.requires.words.first
    c.in_ok-rest.ensures.rest.are_bits c.upper_steps.ensures.grows.extends c.next_bounds.ensures.grows.extends
    (c.brought_down-last.ensures.number c.next_bounds.new.nodes free)
    (number_of free c.args.nodes.now c.args.divisor.now) c.told-dividend
    (c.in_ok-rest.ensures.rest.holds free)))

pub returns : goal.returns
returns c = makes_word (search rules)
    (record {
      long = c.in_ok-left.ensures.left.long;
      are_bits = c.in_ok-left.ensures.left.are_bits;
      holds = λ free.
          let kept = number_of-extends free c.args.nodes.now c.next_bounds.new.nodes c.args.divisor.now
          (Extends-through c.args.nodes.now c.upper_steps.new.nodes c.next_bounds.new.nodes
          c.upper_steps.ensures.grows.extends c.next_bounds.ensures.grows.extends) c.requires.words.second in
          let now_is = later_is free c.args.nodes.now c.upper_steps.new.nodes c.next_bounds.new.nodes
          c.args.dividend.now c.in_ok-rest.rest c.brought_down-last.result 31 (omega arith)
          c.requires.words.first c.in_ok-rest.ensures.rest.are_bits c.upper_steps.ensures.grows.extends
          c.next_bounds.ensures.grows.extends
          (c.brought_down-last.ensures.number c.next_bounds.new.nodes free)
          (number_of free c.args.nodes.now c.args.divisor.now) c.told-dividend
          (c.in_ok-rest.ensures.rest.holds free) in
          c.in_ok-left.ensures.left.holds free
          ∙ ap (λ d. if nat_le d (number_of free c.next_bounds.new.nodes c.brought_down-last.result)
          then number_of free c.next_bounds.new.nodes c.brought_down-last.result - d else number_of free
          c.next_bounds.new.nodes c.brought_down-last.result) kept
          ∙ rest_step (high_number free c.args.nodes.now c.args.dividend.now 1)
          (number_of free c.args.nodes.now c.args.divisor.now)
          (number_of free c.next_bounds.new.nodes c.brought_down-last.result)
          (truth free c.args.nodes.now (bit_at c.args.dividend.now 0)) now_is
          ∙ ap (λ h. h % number_of free c.args.nodes.now c.args.divisor.now)
          (sym (high_number-more free c.args.nodes.now c.args.dividend.now 0
          (omega (arith, c.told-dividend))));
    })
