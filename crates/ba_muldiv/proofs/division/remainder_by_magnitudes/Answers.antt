use Rattle.std.proofs.Common.{◌≡◌, ◌%◌, ap, ◌∙◌, rules}
use Rattle.ba_nodes.proofs.Truths.{Extends-through}
use Rattle.ba_words.specs.Words.{number_of}
use Rattle.ba_words.proofs.Outcomes.{on_ok, makes_word}
use Rattle.ba_words.proofs.Places.{number_of-extends}
use Rattle.ba_muldiv.specs.Division.{negated_where, magnitude}
use Rattle.ba_muldiv.proofs.Rows.{sign_value, sign_bit}
use Rattle.ba_muldiv.proofs.division.remainder_by_magnitudes.Goals as goal

pub returns : goal.returns
returns c = makes_word (search rules)
    (on_ok c.negated_where-3.result _ _ (λ word has. record {
      long = has.long;
      are_bits = has.are_bits;
      holds = λ free.
          let a_bit = sign_bit c.args.nodes.now c.args.a.now c.sign_of-sign.result c.args.signed
          c.sign_of-sign.ensures.bit c.requires.first in
          let b_bit = sign_bit c.args.nodes.now c.args.b.now c.sign_of-other_sign.result c.args.signed
          c.sign_of-other_sign.ensures.bit c.requires.second in
          let a_sign = c.sign_of-sign.ensures.value c.args.nodes.now free
          ∙ sign_value free c.args.nodes.now c.args.a.now c.args.signed c.told-a in
          let b_sign = c.sign_of-other_sign.ensures.value c.args.nodes.now free
          ∙ sign_value free c.args.nodes.now c.args.b.now c.args.signed c.told-b in
          let dividend : number_of free c.negated_where-2.new.nodes c.in_ok-dividend.dividend
          ≡ magnitude c.args.signed (number_of free c.args.nodes.now c.args.a.now) =
          number_of-extends free c.negated_where.new.nodes c.negated_where-2.new.nodes
          c.in_ok-dividend.dividend c.negated_where-2.ensures.grows.extends
          c.in_ok-dividend.ensures.number.are_bits
          ∙ c.in_ok-dividend.ensures.number.holds free
          ∙ ap (λ t. negated_where t (number_of free c.args.nodes.now c.args.a.now)) a_sign in
          let divisor : number_of free c.negated_where-2.new.nodes c.in_ok-divisor.divisor
          ≡ magnitude c.args.signed (number_of free c.args.nodes.now c.args.b.now) =
          c.in_ok-divisor.ensures.number.holds free
          ∙ (λ i. negated_where ((c.negated_where.ensures.grows.extends.keeps free c.sign_of-other_sign.result
          b_bit ∙ b_sign) i)
          (number_of-extends free c.args.nodes.now c.negated_where.new.nodes c.args.b.now
          c.negated_where.ensures.grows.extends c.requires.second i)) in
          let lower = Extends-through c.args.nodes.now c.negated_where.new.nodes c.negated_where-2.new.nodes
          c.negated_where.ensures.grows.extends c.negated_where-2.ensures.grows.extends in
          let all = Extends-through c.args.nodes.now c.negated_where-2.new.nodes c.long_remainder.new.nodes
          lower c.long_remainder.ensures.grows.extends in
          let rest = c.in_ok-rest.ensures.number.holds free ∙ (λ i. dividend i % divisor i) in
          has.holds free ∙ (λ i. negated_where ((all.keeps free c.sign_of-sign.result a_bit ∙ a_sign) i)
          (rest i));
    })
    c.negated_where-3.ensures.number)
