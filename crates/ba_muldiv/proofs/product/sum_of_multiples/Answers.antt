use Rattle.std.proofs.Common.{◌≡◌, ◌<◌, ◌+◌, ◌-◌, ◌*◌, ◌%◌, ◌^◌, length, refl, sym, ap, ◌∙◌, arith, rules}
use Rattle.ba_nodes.specs.Gates.{truth}
use Rattle.ba_nodes.proofs.Truths.{Grows-more, Extends-through}
use Rattle.ba_words.specs.Words.{digit, number_of, low_number, bit_at}
use Rattle.ba_words.proofs.Carries.{are_bits-replicate, number-zeros}
use Rattle.ba_words.proofs.Circuits.{number_small, low_number-two_more}
use Rattle.ba_words.proofs.Places.{are_bits-extends, number_of-extends, low_number-all}
use Rattle.ba_muldiv.specs.Division.{multiple_of}
use Rattle.ba_muldiv.proofs.Rows.{zero_first, triple, multiples_more, multiples_last}
use Rattle.ba_words.proofs.Outcomes.{makes_word}
use Rattle.ba_muldiv.proofs.product.sum_of_multiples.Goals as goal

pub loop-i-init : goal.loop-i-init
loop-i-init c =
    let old = c.args.nodes.now in
    let start = c.add_moved_up.new.nodes in
    record {
      long = refl;
      bits = are_bits-replicate start 32 c.constant-no.result (c.constant-no.ensures.value start).is_bit;
      thrice = c.in_ok-thrice.ensures.number.are_bits;
      triple = λ free.
          triple (number_of free old c.args.a.now) (number_of free start c.in_ok-thrice.thrice)
          (digit (truth free old c.constant-no.result)) (ap digit ((c.constant-no.ensures.value old).holds
          free))
          (c.in_ok-thrice.ensures.number.holds free);
      grows = Grows-more old start c.add_moved_up.ensures.grows (omega arith);
      left = λ free.
          (λ i. (number-zeros free start 32 c.constant-no.result ((c.constant-no.ensures.value start).holds
          free) i
          + number_of free old c.args.a.now
          * low_number-all free old c.args.factor.now 32 (omega (arith, c.told-factor)) i) % 2 ^ 32)
          ∙ zero_first (number_of free old c.args.a.now * number_of free old c.args.factor.now);
    }

pub multiple-requires-clause-thrice : goal.multiple-requires-clause-thrice
multiple-requires-clause-thrice c free =
    c.loop-i.invariant.triple free
    ∙ ap (λ n. (3 * n) % 2 ^ 32) (sym (number_of-extends free c.args.nodes.now c.loop-i.nodes c.args.a.now
    c.loop-i.invariant.grows.extends c.requires.first))

pub loop-i-preserved : goal.loop-i-preserved
loop-i-preserved c =
    let old = c.args.nodes.now in
    let now = c.loop-i.nodes in
    let middle = c.multiple.new.nodes in
    let next = c.add_moved_up-in-loop-i.new.nodes in
    let a = c.args.a.now in
    let factor = c.args.factor.now in
    let place = 30 - 2 * c.loop-i.i in
    let l = c.loop-i.invariant in
    let few : c.loop-i.i < 16 = omega arith in
    let split : 32 - place + place ≡ 32 = omega arith in
    let before : 32 - 2 * c.loop-i.i ≡ place + 1 + 1 = omega arith in
    let after : 32 - 2 * (c.loop-i.i + 1) ≡ place = omega arith in
    let within : place + 1 < length factor = omega (arith, c.told-factor) in
    let later = Extends-through now middle next c.multiple.ensures.grows.extends
    c.add_moved_up-in-loop-i.ensures.grows.extends in
    let square : (c.loop-i.i + 1) * (c.loop-i.i + 1) ≡ c.loop-i.i * c.loop-i.i + 2 * c.loop-i.i + 1 = grind
    arith in
    record {
      long = c.in_ok-sum.ensures.number.long;
      bits = c.in_ok-sum.ensures.number.are_bits;
      thrice = are_bits-extends now next c.in_ok-thrice.thrice later l.thrice;
      triple = λ free. number_of-extends free now next c.in_ok-thrice.thrice later l.thrice ∙ l.triple free;
      grows = record {
        extends = Extends-through old now next l.grows.extends later;
        count = omega (
          arith,
          square,
          l.grows.count,
          c.multiple.ensures.grows.count,
          c.add_moved_up-in-loop-i.ensures.grows.count,
        );
      };
      left = λ free.
          let multiple : number_of free middle c.in_ok-more.more
          ≡ multiple_of (truth free now (bit_at factor (place + 1))) (truth free now (bit_at factor place))
          (number_of free old a) % 2 ^ (32 - place) =
          c.in_ok-more.ensures.number.holds free
          ∙ ap (λ n. multiple_of (truth free now (bit_at factor (place + 1)))
          (truth free now (bit_at factor place)) n % 2 ^ (32 - place))
          (number_of-extends free old now a l.grows.extends c.requires.first) in
          let sum : number_of free next c.in_ok-sum.sum
          ≡ (number_of free now c.loop-i.sum + (number_of free middle c.in_ok-more.more + 0) * 2 ^ place) %
          2 ^ 32 =
          c.in_ok-sum.ensures.number.holds free
          ∙ (λ i. (number_of-extends free now middle c.loop-i.sum c.multiple.ensures.grows.extends l.bits i
          + (number_of free middle c.in_ok-more.more
          + digit ((c.constant-no.ensures.value middle).holds free i)) * 2 ^ place) % 2 ^ 32) in
          (λ i. (number_of free next c.in_ok-sum.sum
          + number_of free old a * low_number free old factor (after i)) % 2 ^ 32)
          ∙ multiples_more (truth free now (bit_at factor (place + 1))) (truth free now (bit_at factor place))
          (number_of free old a) (number_of free now c.loop-i.sum) (number_of free middle c.in_ok-more.more)
          (number_of free next c.in_ok-sum.sum) (low_number free old factor (32 - 2 * c.loop-i.i))
          (low_number free old factor place) (32 - place) place split multiple sum
          (ap (low_number free old factor) before
          ∙ low_number-two_more free old now factor place within c.requires.second l.grows.extends)
          ((number_of free old a * number_of free old factor) % 2 ^ 32) (l.left free);
    }

pub returns : goal.returns
returns c = makes_word (search rules)
    (let none : 32 - 2 * c.loop-i.i ≡ 0 = omega arith in
    record {
      long = c.loop-i.invariant.long;
      are_bits = c.loop-i.invariant.bits;
      holds = λ free.
          multiples_last (number_of free c.args.nodes.now c.args.a.now)
          (number_of free c.loop-i.nodes c.loop-i.sum)
          ((number_of free c.args.nodes.now c.args.a.now * number_of free c.args.nodes.now
          c.args.factor.now) % 2 ^ 32)
          (number_small free c.loop-i.nodes c.loop-i.sum c.loop-i.invariant.long)
          (sym (λ j. (number_of free c.loop-i.nodes c.loop-i.sum + number_of free c.args.nodes.now
          c.args.a.now * low_number free c.args.nodes.now c.args.factor.now (none j)) % 2 ^ 32)
          ∙ c.loop-i.invariant.left free);
    })
