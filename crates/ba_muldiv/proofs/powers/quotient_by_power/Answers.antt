use Rattle.std.proofs.Common.{◌+◌, true, not, sym, ap, ◌∙◌, rules}
use Rattle.ba_words.specs.Words.{number_of}
use Rattle.ba_words.proofs.Outcomes.{on_ok, makes_word}
use Rattle.ba_words.proofs.Places.{number_of-extends}
use Rattle.ba_words.proofs.Circuits.{number_small}
use Rattle.ba_muldiv.specs.Division.{signed_power, quotient_of, shifted_sum}
use Rattle.ba_muldiv.proofs.SignedPowers.{by_positive, by_negative}
use Rattle.ba_muldiv.proofs.powers.quotient_by_power.Goals as goal

pub returns-then-power : goal.returns-then-power
returns-then-power c = makes_word (search rules)
    (on_ok c.shifted_sum.result _ _ (λ word has. record {
      long = has.long;
      are_bits = has.are_bits;
      holds = λ free.
          let m = number_of free c.args.nodes.now c.args.a.now in
          let f = number_of free c.has_negative_remainder.new.nodes c.flip.result in
          let kept = number_of-extends free c.args.nodes.now c.has_negative_remainder.new.nodes
          c.args.a.now c.has_negative_remainder.ensures.grows.extends c.requires in
          has.holds free
          ∙ ap (shifted_sum f c.args.power.exponent)
          (c.not.ensures.value c.has_negative_remainder.new.nodes free ∙ ap not
          (c.in_ok-below.ensures.value.holds free))
          ∙ by_negative c.args.power.exponent m f c.args.power.few
          (sym (ap (λ n. f + n + 1) kept) ∙ c.flip.ensures.number c.has_negative_remainder.new.nodes free)
          ∙ ap (λ negative. quotient_of true m (signed_power negative c.args.power.exponent)) (sym
          c.if-power.true);
    })
    c.shifted_sum.ensures.number)

pub returns-else-power : goal.returns-else-power
returns-else-power c = makes_word (search rules)
    (on_ok c.shifted_sum-else-power.result _ _ (λ word has. record {
      long = has.long;
      are_bits = has.are_bits;
      holds = λ free.
          let m = number_of free c.args.nodes.now c.args.a.now in
          let kept = number_of-extends free c.args.nodes.now c.has_negative_remainder.new.nodes
          c.args.a.now c.has_negative_remainder.ensures.grows.extends c.requires in
          has.holds free
          ∙ (λ i. shifted_sum (kept i) c.args.power.exponent (c.in_ok-below.ensures.value.holds free i))
          ∙ by_positive c.args.power.exponent m (c.args.power.in_range c.if-power.false) (number_small free
          c.args.nodes.now c.args.a.now c.told-a)
          ∙ ap (λ negative. quotient_of true m (signed_power negative c.args.power.exponent)) (sym
          c.if-power.false);
    })
    c.shifted_sum-else-power.ensures.number)
