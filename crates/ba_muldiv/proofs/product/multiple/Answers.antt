use Rattle.std.proofs.Common.{◌≡◌, ℕ, ◌≢◌, ◌<◌, ◌+◌, ◌*◌, ◌^◌, ◌&&◌, ◌||◌, not, Bool, false, length, refl, sym, ap, subst, ◌∙◌, arith, rules}
use Rattle.std.proofs.lemmas.List.{get_or-set_other}
use Rattle.ba_nodes.specs.Gates.{constant_bit, truth, Extends}
use Rattle.ba_nodes.proofs.Truths.{Grows-through, Extends-through, Extends_refl, truth-constant}
use Rattle.ba_words.specs.Words.{digit, number_of, low_number, bit_at}
use Rattle.ba_words.proofs.Carries.{are_bits-replicate}
use Rattle.ba_words.proofs.Circuits.{LowIs-more, HasValue-same}
use Rattle.ba_words.proofs.Places.{low_number-more}
use Rattle.ba_words.proofs.Shapes.{filled-number, moved_up-number}
use Rattle.ba_muldiv.proofs.Rows.{chosen_of, chosen_more, chosen_zero, multiple_low, low_number-mod, zeros-places}
use Rattle.ba_words.proofs.Outcomes.{makes_word}
use Rattle.ba_muldiv.proofs.product.multiple.Goals as goal

pub loop-place-init : goal.loop-place-init
loop-place-init c =
    let old = c.args.nodes.now in
    let start = c.and-3.new.self in
    record {
      grows = record {
        extends = Extends-through old c.and-2.new.self start
            (Extends-through old c.and.new.self c.and-2.new.self
            c.and.ensures.makes.grows.extends c.and-2.ensures.makes.grows.extends)
            c.and-3.ensures.makes.grows.extends;
        count = omega (
          arith,
          c.and.ensures.makes.grows.count,
          c.and-2.ensures.makes.grows.count,
          c.and-3.ensures.makes.grows.count,
        );
      };
      bits = Extends_refl start;
      number = record {
        long = refl;
        are_bits = are_bits-replicate start 32 c.constant-word.result (c.constant-word.ensures.value
            start).is_bit;
        holds = λ free. chosen_zero (truth free old c.args.high) (truth free old c.args.low);
      };
      zeros = λ k from. zeros-places 32 k c.constant-word.result c.constant-word.ensures.bit;
    }

pub loop-place-preserved : goal.loop-place-preserved
loop-place-preserved c =
    let old = c.args.nodes.now in
    let n1 = c.and.new.self in
    let n2 = c.and-2.new.self in
    let start = c.and-3.new.self in
    let now = c.loop-place.nodes in
    let next = c.some_pair.new.nodes in
    let p = c.loop-place.place in
    let l = c.loop-place.invariant in
    let a = c.args.a.now in
    let twice = c.moved_up-twice.result in
    let thrice = c.args.thrice.now in
    let e1 : Extends old n1 = c.and.ensures.makes.grows.extends in
    let e2 = Extends-through old n1 n2 e1 c.and-2.ensures.makes.grows.extends in
    let f2 = Extends-through n2 start now c.and-3.ensures.makes.grows.extends l.bits in
    let f1 = Extends-through n1 n2 now c.and-2.ensures.makes.grows.extends f2 in
    let small : p < 32 = omega (arith, c.requires.few) in
    let in_a : p < length a = omega (arith, c.told-a) in
    let in_twice : p < length twice = omega (arith, c.moved_up-twice.ensures.long) in
    let in_thrice : p < length thrice = omega (arith, c.told-thrice) in
    let one : (free : ℕ → Bool) → truth free now c.in_ok-one.one
    ≡ (truth free old c.args.low && not (truth free old c.args.high)) =
    λ free. f1.keeps free c.in_ok-one.one c.in_ok-one.ensures.makes.value.is_bit
    ∙ c.in_ok-one.ensures.makes.value.holds free
    ∙ ap (λ t. truth free old c.args.low && t) (c.not.ensures.value old free) in
    let two : (free : ℕ → Bool) → truth free now c.in_ok-two.two
    ≡ (truth free old c.args.high && not (truth free old c.args.low)) =
    λ free. f2.keeps free c.in_ok-two.two c.in_ok-two.ensures.makes.value.is_bit
    ∙ c.in_ok-two.ensures.makes.value.holds free
    ∙ (λ i. e1.keeps free c.args.high c.requires.fourth i && (c.not-2.ensures.value n1 free
    ∙ ap not (e1.keeps free c.args.low c.requires.third)) i) in
    let three : (free : ℕ → Bool) → truth free now c.in_ok-three.three
    ≡ (truth free old c.args.high && truth free old c.args.low) =
    λ free. l.bits.keeps free c.in_ok-three.three c.in_ok-three.ensures.makes.value.is_bit
    ∙ c.in_ok-three.ensures.makes.value.holds free
    ∙ (λ i. e2.keeps free c.args.high c.requires.fourth i && e2.keeps free c.args.low c.requires.third i) in
    let twice_bits = c.moved_up-twice.ensures.bits old c.requires.words.first in
    record {
      grows = Grows-through old now next l.grows c.some_pair.ensures.grows (omega arith);
      bits = Extends-through start now next l.bits c.some_pair.ensures.grows.extends;
      number = LowIs-more now next c.loop-place.word p c.in_ok-word.field-0 _ _
          (λ free. (((truth free old c.args.low && not (truth free old c.args.high)) && truth free old
          (bit_at a p))
          || ((truth free old c.args.high && not (truth free old c.args.low)) && truth free old (bit_at
          twice p)))
          || ((truth free old c.args.high && truth free old c.args.low) && truth free old (bit_at thrice p)))
          small c.some_pair.ensures.grows.extends l.number
          (HasValue-same next c.in_ok-word.field-0 _ _ c.in_ok-word.ensures.value
          (λ free i. ((one free i && l.grows.extends.keeps free (bit_at a p) (c.requires.words.first p) i)
          || (two free i && l.grows.extends.keeps free (bit_at twice p) (twice_bits p) i))
          || (three free i && l.grows.extends.keeps free (bit_at thrice p) (c.requires.words.second p) i)))
          (λ free.
          chosen_more (truth free old c.args.high) (truth free old c.args.low) (2 ^ p) (low_number free old
          a p)
          (low_number free old twice p) (low_number free old thrice p) (truth free old (bit_at a p))
          (truth free old (bit_at twice p)) (truth free old (bit_at thrice p))
          ∙ sym (λ i. chosen_of (truth free old c.args.high) (truth free old c.args.low)
          (low_number-more free old a p in_a i) (low_number-more free old twice p in_twice i)
          (low_number-more free old thrice p in_thrice i)));
      zeros = λ k from.
          let apart : k ≢ p = λ same. absurd (omega arith) in
          get_or-set_other c.loop-place.word p k c.in_ok-word.field-0 (constant_bit false) apart
          ∙ l.zeros k (omega arith);
    }

pub returns : goal.returns
returns c = makes_word (search rules)
    (let old = c.args.nodes.now in
    let now = c.loop-place.nodes in
    let l = c.loop-place.invariant in
    let w = c.args.width in
    let word = c.loop-place.word in
    let a = c.args.a.now in
    let twice = c.moved_up-twice.result in
    let thrice = c.args.thrice.now in
    let all : c.loop-place.place ≡ w = omega arith in
    record {
      long = l.number.long;
      are_bits = l.number.are_bits;
      holds = λ free.
          let h = truth free old c.args.high in
          let t = truth free old c.args.low in
          let filled : number_of free now word + digit false * 2 ^ w
          ≡ low_number free now word w + digit false * 2 ^ 32 =
          filled-number free now word w false l.number.long c.requires.few
          (λ k from within. ap (truth free now) (l.zeros k (omega arith)) ∙ truth-constant free now false) in
          let low : number_of free now word ≡ low_number free now word w = omega arith in
          low
          ∙ subst (λ p. low_number free now word p
          ≡ chosen_of h t (low_number free old a p) (low_number free old twice p) (low_number free old
          thrice p))
          all (l.number.holds free)
          ∙ (λ i. chosen_of h t (low_number-mod free old a w (omega (arith, c.requires.few, c.told-a)) i)
          (low_number-mod free old twice w (omega (arith, c.requires.few, c.moved_up-twice.ensures.long)) i)
          (low_number-mod free old thrice w (omega (arith, c.requires.few, c.told-thrice)) i))
          ∙ multiple_low h t (number_of free old a) (number_of free old twice) (number_of free old thrice) w
          c.requires.few
          (moved_up-number free old twice a 1 (omega arith) c.moved_up-twice.ensures.long c.told-a
          c.moved_up-twice.ensures.places)
          (c.requires.thrice free);
    })
