-- Bounds of what is left in a division: the places of it that may be true.

use Rattle.std.proofs.Common.{◌≡◌, ℕ, ◌+◌, ◌-◌, ◌*◌, ◌%◌, ◌^◌, ◌<◌, ◌≤◌, Bool, true, false, nat_le, ◌&&◌, List, length, replicate, refl, sym, ap, subst, ◌∙◌, arith, if◌then◌else◌}
use Rattle.std.proofs.lemmas.List.{get_or_past}
use Rattle.std.proofs.lemmas.Nat.{pow_pos}
use Rattle.std.proofs.Math.Nat.{pow-le-pow_right}
use Rattle.ba_nodes.specs.declared.Bit.{Bit}
use Rattle.ba_nodes.specs.declared.Node.{Node}
use Rattle.ba_nodes.specs.Gates.{constant_bit, truth, IsBitOf, Extends, HasValue}
use Rattle.ba_nodes.proofs.Truths.{Extends-through, truth-constant}
use Rattle.ba_words.proofs.Circuits.{HasValue-extends, HasValue-same, number_small}
use Rattle.ba_words.specs.Words.{digit, number_of, bit_at, AreBitsOf}
use Rattle.ba_words.proofs.Places.{are_bits-extends, number_of-extends}
use Rattle.ba_muldiv.specs.Division.{IsBounded, AreOnesFrom, high_number}
use Rattle.ba_muldiv.proofs.Rows.{number_above, next_is}
use Rattle.ba_muldiv.proofs.Steps.{le_false, le_from_true}

-- zero has any bounds
pub bounded_zero : (free : ℕ → Bool) (nodes : List Node) (bounds : List Bit) (n : ℕ) → n ≡ 0 →
    IsBounded free nodes bounds n
bounded_zero free nodes bounds n is place within none = omega (arith, pow_pos place)

-- bounds stay as nodes are added, and are those of a lesser number
pub bounded_later : (free : ℕ → Bool) (old new : List Node) (bounds : List Bit) (m n : ℕ) → Extends old new
    → AreBitsOf old bounds → m ≤ n → IsBounded free old bounds n → IsBounded free new bounds m
bounded_later free old new bounds m n extends bits less is place within none =
    omega (arith, is place within (sym (extends.keeps free (bit_at bounds place) (bits place)) ∙ none))

-- what is left, and the next place brought down, read after nodes were added
module _ (free : ℕ → Bool) (initial nodes later : List Node) (dividend rest next : List Bit) (i : ℕ)
    (few : i ≤ 31) (bits : AreBitsOf initial dividend) (rest_bits : AreBitsOf nodes rest)
    (first : Extends initial nodes) (second : Extends nodes later)
    (is : number_of free later next
    ≡ (2 * number_of free later rest + digit (truth free later (bit_at dividend (31 - i)))) % 2 ^ 32) where
  pub later_is : (d : ℕ) → length dividend ≡ 32
      → number_of free nodes rest ≡ high_number free initial dividend (32 - i) % d →
      number_of free later next ≡ 2 * (high_number free initial dividend (31 - i + 1) % d)
      + digit (truth free initial (bit_at dividend (31 - i)))
  later_is d long rest_is =
      let place : 31 - i + 1 ≡ 32 - i = omega arith in
      let whole : 31 - i + 1 + i ≡ 32 = omega arith in
      next_is free initial later dividend (31 - i) i d (number_of free later rest)
      (number_of free later next) long bits (Extends-through initial nodes later first second) whole
      (number_of-extends free nodes later rest second rest_bits
      ∙ rest_is
      ∙ ap (λ j. high_number free initial dividend j % d) (sym place)) is

  pub later_bounded : (bounds : List Bit) → IsBounded free later bounds (2 * number_of free nodes rest
      + digit (truth free nodes (bit_at dividend (31 - i)))) →
      IsBounded free later bounds (number_of free later next)
  later_bounded bounds whole place within none =
      let named : IsBitOf nodes (bit_at dividend (31 - i)) =
      are_bits-extends initial nodes dividend first bits (31 - i) in
      let kept : number_of free later next
      ≡ (2 * number_of free nodes rest + digit (truth free nodes (bit_at dividend (31 - i)))) % 2 ^ 32 =
      is
      ∙ (λ j. (2 * number_of-extends free nodes later rest second rest_bits j
      + digit (second.keeps free (bit_at dividend (31 - i)) named j)) % 2 ^ 32) in
      omega (arith, whole place within none)

-- nothing but a divisor of zero fits if the lowest bound is false
pub none_fits : (free : ℕ → Bool) (old new : List Node) (bounds : List Bit) (d n : ℕ) (fits : Bool) →
    Extends old new → AreBitsOf old bounds → IsBounded free old bounds n → fits ≡ nat_le d n
    → truth free new (bit_at bounds 0) ≡ false → fits ≡ true → d ≡ 0
none_fits free old new bounds d n fits extends bits is test none does =
    let small : n < 2 ^ 0 = is 0 (omega arith) (sym (extends.keeps free (bit_at bounds 0) (bits 0)) ∙ none) in
    let below : d ≤ n = le_from_true d n (sym test ∙ does) in
    omega arith

-- what is left is no more than before
pub left_below : (b : Bool) (n d : ℕ) → (if b then n - d else n) ≤ n
left_below true n d = omega arith
left_below false n d = omega arith

and_same : (a b : Bool) → (a ≡ true → b ≡ false → ⊥) → (a && b) ≡ a
and_same true true apart = refl
and_same true false apart = absurd (apart refl refl)
and_same false b apart = refl

-- a place of a word is false if its bound is
pub bounded_place : (free : ℕ → Bool) (nodes : List Node) (word bounds : List Bit) (place : ℕ) →
    length word ≡ 32 → place < 32 → IsBounded free nodes bounds (number_of free nodes word)
    → (truth free nodes (bit_at word place) && truth free nodes (bit_at bounds place))
    ≡ truth free nodes (bit_at word place)
bounded_place free nodes word bounds place long within is =
    and_same (truth free nodes (bit_at word place)) (truth free nodes (bit_at bounds place))
    (λ does none. apart (is place within none) (number_above free nodes word place long within does))
  where
    apart : number_of free nodes word < 2 ^ place → 2 ^ place ≤ number_of free nodes word → ⊥
    apart below above = absurd (omega arith)

-- ---- from which places on a word has a one

-- no word of 32 places has a one past the last
pub none_past : (nodes : List Node) (word : List Bit) (bit : Bit) (place : ℕ) → length word ≡ 32 →
    32 ≤ place →
    HasValue nodes (bit_at (replicate 32 bit) place) (λ free. nat_le (2 ^ place) (number_of free nodes word))
none_past nodes word bit place long past =
    subst (λ b. HasValue nodes b (λ free. nat_le (2 ^ place) (number_of free nodes word)))
    (sym (get_or_past (replicate 32 bit) place (constant_bit false) past))
    (record {
      is_bit = omega arith;
      holds = λ free.
          let most : 2 ^ 32 ≤ 2 ^ place = pow-le-pow_right {n = 2} (omega arith) past in
          truth-constant free nodes false
          ∙ sym (le_false (2 ^ place) (number_of free nodes word)
          (omega (arith, most, number_small free nodes word long)));
    })

-- what was told of a word holds as nodes are added
pub ones_later : (old new : List Node) (word above : List Bit) → Extends old new → AreBitsOf old word →
    ((place : ℕ) → place ≤ 32 → HasValue new (bit_at above place) (λ free. nat_le (2 ^ place) (number_of
    free old word))) →
    AreOnesFrom new word above
ones_later old new word above extends bits ones place within =
    HasValue-same new (bit_at above place) _ _ (ones place within)
    (λ free. ap (nat_le (2 ^ place)) (sym (number_of-extends free old new word extends bits)))

pub ones-extends : (old new : List Node) (word above : List Bit) → Extends old new → AreBitsOf old word →
    AreOnesFrom old word above → AreOnesFrom new word above
ones-extends old new word above extends bits ones =
    ones_later old new word above extends bits
    (λ place within. HasValue-extends old new (bit_at above place) _ extends (ones place within))

-- zero has no one
pub no_ones : (free : ℕ → Bool) (old new : List Node) (word above : List Bit) → Extends old new →
    AreBitsOf old word →
    AreOnesFrom old word above → number_of free new word ≡ 0 → truth free new (bit_at above 0) ≡ false
no_ones free old new word above extends bits ones none =
    (ones-extends old new word above extends bits ones 0 (omega arith)).holds free
    ∙ le_false (2 ^ 0) (number_of free new word) (omega arith)
