use Rattle.std.proofs.Common.{◌+◌, ◌*◌, ◌^◌, ◌≤◌, length, ap, ◌∙◌, arith, rules}
use Rattle.ba_words.specs.Words.{number_of, digit}
use Rattle.ba_words.proofs.Places.{are_bits-extends, low_number-extends}
use Rattle.ba_words.proofs.Circuits.{number_small}
use Rattle.ba_words.proofs.Narrow.{extended_number}
use Rattle.ba_muldiv.specs.Division.{has_negative_remainder}
use Rattle.ba_muldiv.proofs.Rows.{low_number-mod}
use Rattle.ba_muldiv.proofs.SignedPowers.{remainder_by}
use Rattle.ba_words.proofs.Outcomes.{makes_word}
use Rattle.ba_muldiv.proofs.powers.remainder_by_power.Goals as goal

pub returns : goal.returns
returns c = makes_word (search rules)
    (record {
      long = c.extended.ensures.long;
      are_bits = c.extended.ensures.bits c.has_negative_remainder.new.nodes
          (are_bits-extends c.args.nodes.now c.has_negative_remainder.new.nodes c.args.a.now
          c.has_negative_remainder.ensures.grows.extends c.requires) c.in_ok-below.ensures.value.is_bit;
      holds = λ free.
          let inside : c.args.power.exponent ≤ length c.args.a.now = omega
          (arith, c.told-a, c.args.power.few) in
          let m = number_of free c.args.nodes.now c.args.a.now in
          remainder_by c.args.power.negative c.args.power.exponent m (number_of free
          c.has_negative_remainder.new.nodes c.extended.result)
          c.args.power.few c.args.power.in_range (number_small free c.args.nodes.now c.args.a.now c.told-a)
          (extended_number free c.has_negative_remainder.new.nodes c.extended.result c.args.a.now
          c.args.power.exponent c.in_ok-below.below
          (has_negative_remainder m c.args.power.exponent) (omega (arith, c.args.power.few))
          c.extended.ensures.long c.told-a
          (c.in_ok-below.ensures.value.holds free) c.extended.ensures.places
          ∙ ap (λ n. n + digit (has_negative_remainder m c.args.power.exponent) * 2 ^ 32)
          (low_number-extends free c.args.nodes.now c.has_negative_remainder.new.nodes c.args.a.now
          c.args.power.exponent c.has_negative_remainder.ensures.grows.extends c.requires
          ∙ low_number-mod free c.args.nodes.now c.args.a.now c.args.power.exponent inside));
    })
