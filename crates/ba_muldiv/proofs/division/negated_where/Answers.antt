use Rattle.std.proofs.Common.{◌≡◌, ◌<◌, ◌+◌, ◌^◌, length, refl, sym, ap, subst, ◌∙◌, arith, if◌then◌else◌, rules}
use Rattle.ba_nodes.specs.Gates.{bool_xor, truth, HasValue}
use Rattle.ba_nodes.proofs.Truths.{Extends-through}
use Rattle.ba_words.specs.Words.{number_of, low_number, bit_at}
use Rattle.ba_words.proofs.Circuits.{
  LowIs,
  LowIs-more,
  LowIs-all,
  HasValue-same,
  low_number_below,
  number_small,
}
use Rattle.ba_words.proofs.Places.{low_number-all, low_number-more, power_more}
use Rattle.ba_muldiv.proofs.Steps.{is_turned, low_opposite, turned_more, opposite_more, opposite_all}
use Rattle.ba_words.proofs.Outcomes.{makes_word}
use Rattle.ba_muldiv.proofs.division.negated_where.Goals as goal

pub loop-place-preserved : goal.loop-place-preserved
loop-place-preserved c =
    let old = c.args.nodes.now in
    let a = c.args.a.now in
    let p = c.loop-place.place in
    let l = c.loop-place.invariant in
    let within : p < length a = omega (arith, c.told-a) in
    let upper = Extends-through c.loop-place.nodes c.xor.new.self c.mux.new.self
    c.xor.ensures.makes.grows.extends c.mux.ensures.makes.grows.extends in
    let first = Extends-through old c.loop-place.nodes c.xor.new.self l.grows.extends
    c.xor.ensures.makes.grows.extends in
    record {
      grows = record {
        extends = Extends-through old c.xor.new.self c.mux.new.self first c.mux.ensures.makes.grows.extends;
        count = omega arith;
      };
      turned = HasValue-same c.mux.new.self c.in_ok-turned.turned _ _ c.in_ok-turned.ensures.makes.value
          (λ free.
          (λ i. if first.keeps free (bit_at a p) (c.requires.second p) i then first.keeps free
          c.args.negative c.requires.first i
          else (c.xor.ensures.makes.grows.extends.keeps free c.loop-place.turned l.turned.is_bit
          ∙ l.turned.holds free) i)
          ∙ turned_more (truth free old c.args.negative) (truth free old (bit_at a p)) (2 ^ p) (low_number
          free old a p) (low_number_below free old a p (omega arith))
          ∙ sym (ap (is_turned (truth free old c.args.negative)) (low_number-more free old a p within)));
      number = LowIs-more c.loop-place.nodes c.mux.new.self c.loop-place.word p c.in_ok-word.field-0 _ _
          (λ free. bool_xor (truth free old (bit_at a p)) (is_turned (truth free old c.args.negative)
          (low_number free old a p))) (omega arith) upper l.number
          (record {
            is_bit = omega (
              arith,
              c.in_ok-word.ensures.makes.value.is_bit,
              c.mux.ensures.makes.grows.extends.grows,
            );
            holds = λ free.
                c.mux.ensures.makes.grows.extends.keeps free c.in_ok-word.field-0
                c.in_ok-word.ensures.makes.value.is_bit ∙ c.in_ok-word.ensures.makes.value.holds free
                ∙ (λ i. bool_xor (l.grows.extends.keeps free (bit_at a p) (c.requires.second p) i)
                (l.turned.holds free i));
          })
          (λ free.
          opposite_more (truth free old c.args.negative) (truth free old (bit_at a p)) (2 ^ p) (2 ^ (p +
          1)) (low_number free old a p) (power_more p) (low_number_below free old a p (omega arith))
          ∙ sym (ap (low_opposite (truth free old c.args.negative) (2 ^ (p + 1))) (low_number-more free old
          a p within)));
    }

pub returns : goal.returns
returns c = makes_word (search rules)
    (let old = c.args.nodes.now in
    let a = c.args.a.now in
    let l = c.loop-place.invariant in
    let last : c.loop-place.place ≡ 31 = omega arith in
    let within : 31 < length a = omega (arith, c.told-a) in
    let low : LowIs c.loop-place.nodes c.loop-place.word 31 (λ free. low_opposite (truth free old
    c.args.negative) (2 ^ 31) (low_number free old a 31)) =
    subst (λ k. LowIs c.loop-place.nodes c.loop-place.word k (λ free. low_opposite (truth free old
    c.args.negative) (2 ^ k) (low_number free old a k))) last l.number in
    let turned : HasValue c.loop-place.nodes c.loop-place.turned (λ free. is_turned (truth free old
    c.args.negative) (low_number free old a 31)) =
    subst (λ k. HasValue c.loop-place.nodes c.loop-place.turned (λ free. is_turned (truth free old
    c.args.negative) (low_number free old a k))) last l.turned in
    LowIs-all c.xor-2.new.self _ 32 _ _ (omega arith)
    (LowIs-more c.loop-place.nodes c.xor-2.new.self c.loop-place.word 31 c.in_ok-word-2.field-0 _
    (λ free. low_opposite (truth free old c.args.negative) (2 ^ 32) (low_number free old a 32))
    (λ free. bool_xor (truth free old (bit_at a 31)) (is_turned (truth free old c.args.negative)
    (low_number free old a 31))) (omega arith) c.xor-2.ensures.makes.grows.extends low
    (HasValue-same c.xor-2.new.self c.in_ok-word-2.field-0 _ _ c.in_ok-word-2.ensures.makes.value
    (λ free i. bool_xor (l.grows.extends.keeps free (bit_at a 31) (c.requires.second 31) i)
    (turned.holds free i))) (λ free.
    opposite_more (truth free old c.args.negative) (truth free old (bit_at a 31)) (2 ^ 31) (2 ^ 32)
    (low_number free old a 31) refl (low_number_below free old a 31 (omega arith))
    ∙ sym (ap (low_opposite (truth free old c.args.negative) (2 ^ 32)) (low_number-more free old a 31
    within))))
    (λ free.
    ap (low_opposite (truth free old c.args.negative) (2 ^ 32)) (low_number-all free old a 32 (omega
    (arith, c.told-a)))
    ∙ opposite_all (truth free old c.args.negative) (number_of free old a)
    (number_small free old a c.told-a)))
