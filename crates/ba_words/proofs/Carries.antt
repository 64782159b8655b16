-- Sums of words.

use Rattle.std.proofs.Common.{◌≡◌, ℕ, ◌+◌, ◌-◌, ◌*◌, ◌%◌, ◌^◌, ◌<◌, ◌≤◌, Bool, true, false, not, ◌&&◌, ◌||◌, List, length, map, set, drop, replicate, zero, suc, Some, refl, sym, ap, ◌∙◌, arith}
use Rattle.std.proofs.lemmas.List.{length-set}
use Rattle.ba_nodes.specs.declared.Bit.{Bit}
use Rattle.ba_nodes.specs.declared.Node.{Node}
use Rattle.ba_nodes.specs.Gates.{bool_xor, bool_majority, truth, IsBitOf, Extends, HasValue}
use Rattle.ba_words.specs.Words.{digit, spelled, number_of, low_number, bit_at, AreBitsOf, HasNumber, AddUp, IsValueOf, IsValueOfOne}
use Rattle.ba_numbers.specs.declared.numbers.BinOp.TheVariants.{Add, Sub}
use Rattle.ba_numbers.specs.declared.numbers.UnOp.TheVariants.{Neg}
use Rattle.ba_words.proofs.Values.{read, add_value, sub_value, neg_value}
use Rattle.ba_words.proofs.Places.{are_bits-extends, are_bits-set, low_number-extends, low_number-set_more, low_number-all, full_sum, add_step}
use Rattle.ba_words.proofs.Circuits.{argument-more, number_small}
use Rattle.ba_words.proofs.Shapes.{number-split}

-- a carry, and a borrow, as majorities
pub carry_by_majority : (a b c : Bool) → bool_majority a b c ≡ ((a && b) || (bool_xor a b && c))
carry_by_majority true true c = refl
carry_by_majority true false c = refl
carry_by_majority false true c = refl
carry_by_majority false false c = refl

pub borrow_by_majority : (a b c : Bool) → bool_majority (not a) b c ≡ ((not a && b) || (not (a && not b) && c))
borrow_by_majority true true c = refl
borrow_by_majority true false c = refl
borrow_by_majority false true c = refl
borrow_by_majority false false c = refl

-- the value of all places, if b begins at a place
from_place : (m l h p a k n value : ℕ) → m ≡ l + p * h → value + 2 ^ 32 * n + l ≡ a + m + k → value < 2 ^ 32 → value ≡ (a + (m - l) + k) % 2 ^ 32
from_place m l h p a k n value split total small = omega arith

pub highest_sum : (initial nodes new : List Node) (a b : List Bit) (carry : Bit) (from : ℕ) (sums : List Bit) (carried : Bit) (highest : Bit)
    → from ≤ 32 → length a ≡ 32 → length b ≡ 32 → AreBitsOf initial a → AreBitsOf initial b → Extends initial nodes → Extends nodes new
    → AddUp initial a b carry from nodes sums carried 31
    → HasValue new highest (λ free. bool_xor (bool_xor (truth free nodes (bit_at a 31)) (truth free nodes (bit_at b 31))) (truth free nodes carried))
    → HasNumber new (set sums 31 highest) (λ free. (number_of free initial a + (number_of free initial b - low_number free initial b from) + 2 ^ from * digit (truth free initial carry)) % 2 ^ 32)
highest_sum initial nodes new a b carry from sums carried highest few a_long b_long a_bits b_bits first second before is_sum = record {
  long = length-set sums 31 highest ∙ before.long;
  are_bits = are_bits-set new sums 31 highest (are_bits-extends nodes new sums second before.are_bits) is_sum.is_bit;
  holds = λ free.
      let long : length (set sums 31 highest) ≡ 32 = length-set sums 31 highest ∙ before.long in
      let number : number_of free new (set sums 31 highest) ≡ low_number free nodes sums 31 + 2 ^ 31 * digit (truth free new highest) =
      sym (low_number-all free new (set sums 31 highest) 32 (omega (arith, long)))
      ∙ low_number-set_more free new sums 31 highest (omega (arith, before.long))
      ∙ ap (λ n. n + 2 ^ 31 * digit (truth free new highest)) (low_number-extends free nodes new sums 31 second before.are_bits) in
      let carry_out = (truth free nodes (bit_at a 31) && truth free nodes (bit_at b 31)) || (bool_xor (truth free nodes (bit_at a 31)) (truth free nodes (bit_at b 31)) && truth free nodes carried) in
      let here : digit (truth free new highest) + 2 * digit carry_out ≡ digit (truth free nodes (bit_at a 31)) + digit (truth free nodes (bit_at b 31)) + digit (truth free nodes carried) =
      ap (λ t. digit t + 2 * digit carry_out) (is_sum.holds free) ∙ full_sum (truth free nodes (bit_at a 31)) (truth free nodes (bit_at b 31)) (truth free nodes carried) in
      let a_now : number_of free initial a ≡ low_number free initial a 31 + 2 ^ 31 * digit (truth free nodes (bit_at a 31)) =
      sym (low_number-all free initial a 32 (omega (arith, a_long))) ∙ argument-more free initial nodes a 31 (omega (arith, a_long)) a_bits first in
      let b_now : number_of free initial b ≡ low_number free initial b 31 + 2 ^ 31 * digit (truth free nodes (bit_at b 31)) =
      sym (low_number-all free initial b 32 (omega (arith, b_long))) ∙ argument-more free initial nodes b 31 (omega (arith, b_long)) b_bits first in
      let total = add_step (2 ^ 31) (2 ^ 32) (low_number free nodes sums 31) (digit (truth free new highest)) (digit (truth free nodes carried)) (digit carry_out) (low_number free initial a 31) (low_number free initial b 31) (digit (truth free nodes (bit_at a 31))) (digit (truth free nodes (bit_at b 31))) (2 ^ from * digit (truth free initial carry)) (low_number free initial b from) refl (before.holds free) here in
      from_place (number_of free initial b) (low_number free initial b from) (spelled (drop from (map (truth free initial) b))) (2 ^ from) (number_of free initial a) (2 ^ from * digit (truth free initial carry)) (digit carry_out) (number_of free new (set sums 31 highest))
      (number-split free initial b from (omega (arith, b_long)))
      ((λ j. number j + 2 ^ 32 * digit carry_out + low_number free initial b from) ∙ total ∙ sym (λ j. a_now j + b_now j + 2 ^ from * digit (truth free initial carry)))
      (number_small free new (set sums 31 highest) long);
}

-- a word of one bit, over and over
pub are_bits-replicate : (nodes : List Node) (n : ℕ) (bit : Bit) → IsBitOf nodes bit → AreBitsOf nodes (replicate n bit)
are_bits-replicate nodes zero bit named place = omega arith
are_bits-replicate nodes (suc n) bit named zero = named
are_bits-replicate nodes (suc n) bit named (suc place) = are_bits-replicate nodes n bit named place

pub number-zeros : (free : ℕ → Bool) (nodes : List Node) (n : ℕ) (bit : Bit) → truth free nodes bit ≡ false → number_of free nodes (replicate n bit) ≡ 0
number-zeros free nodes zero bit none = refl
number-zeros free nodes (suc n) bit none = (λ i. digit (none i) + 2 * number-zeros free nodes n bit none i)

-- the value of a negation by its number
module _ (old new : List Node) (a b word : List Bit) (carry : Bit) where
  pub negated : (complement : List Bit) (bit : Bit) → length a ≡ 32 → ((free : ℕ → Bool) → number_of free old complement + number_of free old a + 1 ≡ 2 ^ 32) → HasValue old bit (λ free. false) → HasValue old carry (λ free. true)
      → HasNumber new word (λ free. (number_of free old (replicate 32 bit) + number_of free old complement + digit (truth free old carry)) % 2 ^ 32) → (signed : Bool) → IsValueOfOne Neg signed old a new word
  negated complement bit a_long whole none one has signed free =
      let less : 0 + number_of free old complement + 1 ≡ 2 ^ 32 - number_of free old a = omega (arith, whole free) in
      neg_value signed (number_of free old a) (number_small free old a a_long)
      ∙ ap (read signed) (sym (has.holds free ∙ (λ i. (number-zeros free old 32 bit (none.holds free) i + number_of free old complement + digit (one.holds free i)) % 2 ^ 32) ∙ ap (λ n. n % 2 ^ 32) less))

pub all_sums : (old new : List Node) (a b : List Bit) (carry : Bit) (sums : List Bit) (carried : Bit) → length a ≡ 32 → length b ≡ 32 → AddUp old a b carry 0 new sums carried 32
    → (free : ℕ → Bool) → number_of free new sums + 2 ^ 32 * digit (truth free new carried) ≡ number_of free old a + number_of free old b + digit (truth free old carry)
all_sums old new a b carry sums carried a_long b_long adds free =
    let low : low_number free new sums 32 + 2 ^ 32 * digit (truth free new carried) + 0 ≡ low_number free old a 32 + low_number free old b 32 + 1 * digit (truth free old carry) = adds.holds free in
    let whole : low_number free new sums 32 + 2 ^ 32 * digit (truth free new carried) ≡ low_number free old a 32 + low_number free old b 32 + digit (truth free old carry) = omega arith in
    (λ i. sym (low_number-all free new sums 32 (omega (arith, adds.long))) i + 2 ^ 32 * digit (truth free new carried))
    ∙ whole
    ∙ (λ i. low_number-all free old a 32 (omega (arith, a_long)) i + low_number-all free old b 32 (omega (arith, b_long)) i + digit (truth free old carry))

-- before the first place of b
pub AddUp-first : (nodes : List Node) (a b : List Bit) (carry : Bit) (from : ℕ) → length a ≡ 32 → AreBitsOf nodes a → IsBitOf nodes carry → AddUp nodes a b carry from nodes a carry from
AddUp-first nodes a b carry from long bits named = record { long = long; are_bits = bits; is_bit = named; holds = λ free. turned (low_number free nodes a from) (2 ^ from * digit (truth free nodes carry)) (low_number free nodes b from) }
  where
    turned : (x y z : ℕ) → x + y + z ≡ x + z + y
    turned x y z = omega arith

-- a sum from the lowest place on
pub from_lowest : (new : List Node) (word : List Bit) (a b low d : (ℕ → Bool) → ℕ) → ((free : ℕ → Bool) → low free ≡ 0) → HasNumber new word (λ free. (a free + (b free - low free) + 2 ^ 0 * d free) % 2 ^ 32) → HasNumber new word (λ free. (a free + b free + d free) % 2 ^ 32)
from_lowest new word a b low d none has = record { long = has.long; are_bits = has.are_bits; holds = λ free. has.holds free ∙ plain (a free) (b free) (low free) (d free) (none free) }
  where
    plain : (a b l d : ℕ) → l ≡ 0 → (a + (b - l) + 2 ^ 0 * d) % 2 ^ 32 ≡ (a + b + d) % 2 ^ 32
    plain a b l d none = omega arith

-- a sum with a word that is moved up
pub at_place : (a b p d moved low : ℕ) → moved ≡ (b * p) % 2 ^ 32 → low ≡ 0 → (a + (moved - low) + p * d) % 2 ^ 32 ≡ (a + (b + d) * p) % 2 ^ 32
at_place a b p d moved low is none =
    let parts : (b + d) * p ≡ b * p + p * d = spread b d p in
    omega arith
  where
    spread : (b d p : ℕ) → (b + d) * p ≡ b * p + p * d
    spread b d p = grind arith
