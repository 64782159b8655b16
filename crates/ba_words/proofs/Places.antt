-- Words of bits: their places, and what they spell as nodes are added.

use Rattle.std.proofs.Common.{◌≡◌, ℕ, ◌+◌, ◌*◌, ◌^◌, ◌<◌, ◌≤◌, Bool, true, false, ◌&&◌, ◌||◌, List, length, map, set, take, inl, inr, refl, sym, ap, subst, ◌∙◌, arith, add-one}
use Rattle.std.proofs.lemmas.List.{get_or-map, get_or-set_same, get_or-set_other, take-set, take-map, take_all, set_past, same_lists, length-set, length-map}
use Rattle.std.proofs.lemmas.Bool.{cases_eq, cases_lt}
use Rattle.ba_nodes.specs.declared.Bit.{Bit}
use Rattle.ba_nodes.specs.declared.Node.{Node}
use Rattle.ba_nodes.specs.Gates.{bool_xor, constant_bit, truth, IsBitOf, Extends, HasValue}
use Rattle.ba_words.specs.Words.{digit, spelled, number_of, low_number, bit_at, AreBitsOf, AddUp}
use Rattle.ba_words.proofs.Digits.{spelled-take_more, twice}

pub are_bits-extends : (old new : List Node) (word : List Bit) → Extends old new → AreBitsOf old word → AreBitsOf new word
are_bits-extends old new word extends bits place = omega (arith, bits place, extends.grows)

pub are_bits-set : (nodes : List Node) (word : List Bit) (i : ℕ) (bit : Bit) → AreBitsOf nodes word → IsBitOf nodes bit → AreBitsOf nodes (set word i bit)
are_bits-set nodes word i bit bits named place =
    elim (cases_eq place i) [
      | inl here ↦ elim (cases_lt i (length word)) [
        | inl within ↦ subst (λ k. IsBitOf nodes (bit_at (set word i bit) k)) (sym here) (subst (IsBitOf nodes) (sym (get_or-set_same word i bit (constant_bit false) within)) named)
        | inr past ↦ subst (λ xs. IsBitOf nodes (bit_at xs place)) (sym (set_past word i bit past)) (bits place)
      ]
      | inr apart ↦ subst (IsBitOf nodes) (sym (get_or-set_other word i place bit (constant_bit false) apart)) (bits place)
    ]

-- the truth values of a word stay as nodes are added
pub truths-extends : (free : ℕ → Bool) (old new : List Node) (word : List Bit) → Extends old new → AreBitsOf old word → map (truth free new) word ≡ map (truth free old) word
truths-extends free old new word extends bits =
    same_lists (map (truth free new) word) (map (truth free old) word) (length-map word (truth free new) ∙ sym (length-map word (truth free old)))
    (λ k d within.
    let inside : k < length word = omega (arith, length-map word (truth free new)) in
    get_or-map (truth free new) word k (constant_bit false) d inside
    ∙ extends.keeps free (bit_at word k) (bits k)
    ∙ sym (get_or-map (truth free old) word k (constant_bit false) d inside))

pub number_of-extends : (free : ℕ → Bool) (old new : List Node) (word : List Bit) → Extends old new → AreBitsOf old word → number_of free new word ≡ number_of free old word
number_of-extends free old new word extends bits = ap spelled (truths-extends free old new word extends bits)

pub low_number-extends : (free : ℕ → Bool) (old new : List Node) (word : List Bit) (places : ℕ) → Extends old new → AreBitsOf old word → low_number free new word places ≡ low_number free old word places
low_number-extends free old new word places extends bits = ap (λ bits. spelled (take places bits)) (truths-extends free old new word extends bits)

-- a place more
pub low_number-more : (free : ℕ → Bool) (nodes : List Node) (word : List Bit) (i : ℕ) → i < length word → low_number free nodes word (i + 1) ≡ low_number free nodes word i + 2 ^ i * digit (truth free nodes (bit_at word i))
low_number-more free nodes word i within =
    let inside : i < length (map (truth free nodes) word) = omega (arith, length-map word (truth free nodes)) in
    spelled-take_more (map (truth free nodes) word) i inside
    ∙ ap (λ bit. low_number free nodes word i + 2 ^ i * digit bit) (get_or-map (truth free nodes) word i (constant_bit false) false within)

-- a write at a place leaves the places below it
pub low_number-set : (free : ℕ → Bool) (nodes : List Node) (word : List Bit) (i : ℕ) (bit : Bit) → low_number free nodes (set word i bit) i ≡ low_number free nodes word i
low_number-set free nodes word i bit =
    ap spelled (take-map (truth free nodes) i (set word i bit) ∙ ap (map (truth free nodes)) (take-set word i bit) ∙ sym (take-map (truth free nodes) i word))

pub low_number-set_more : (free : ℕ → Bool) (nodes : List Node) (word : List Bit) (i : ℕ) (bit : Bit) → i < length word → low_number free nodes (set word i bit) (i + 1) ≡ low_number free nodes word i + 2 ^ i * digit (truth free nodes bit)
low_number-set_more free nodes word i bit within =
    let longer : i < length (set word i bit) = omega (arith, length-set word i bit) in
    low_number-more free nodes (set word i bit) i longer
    ∙ (λ j. low_number-set free nodes word i bit j + 2 ^ i * digit (truth free nodes (get_or-set_same word i bit (constant_bit false) within j)))

-- all places
pub low_number-all : (free : ℕ → Bool) (nodes : List Node) (word : List Bit) (places : ℕ) → length word ≤ places → low_number free nodes word places ≡ number_of free nodes word
low_number-all free nodes word places all =
    ap spelled (take_all places (map (truth free nodes) word) (omega (arith, length-map word (truth free nodes))))

-- ---- sums

pub power_more : (i : ℕ) → 2 ^ (i + 1) ≡ 2 * 2 ^ i
power_more i = ap (λ n. 2 ^ n) (add-one i) ∙ twice i

pub full_sum : (a b c : Bool) → digit (bool_xor (bool_xor a b) c) + 2 * digit ((a && b) || (bool_xor a b && c)) ≡ digit a + digit b + digit c
full_sum true true true = refl
full_sum true true false = refl
full_sum true false true = refl
full_sum true false false = refl
full_sum false true true = refl
full_sum false true false = refl
full_sum false false true = refl
full_sum false false false = refl

pub add_step : (p q s d c n x y a b k m : ℕ) → q ≡ 2 * p → s + p * c + m ≡ x + y + k → d + 2 * n ≡ a + b + c → (s + p * d) + q * n + m ≡ (x + p * a) + (y + p * b) + k
add_step p q s d c n x y a b k m double before here =
    let scaled : p * (d + 2 * n) ≡ p * (a + b + c) = ap (λ e. p * e) here in
    let turned : q * n ≡ 2 * p * n = ap (λ e. e * n) double in
    grind arith

pub AddUp-more : (initial nodes new : List Node) (a b : List Bit) (carry : Bit) (from : ℕ) (sums : List Bit) (carried : Bit) (i : ℕ) (sum next : Bit)
    → i < 32 → i < length a → i < length b → AreBitsOf initial a → AreBitsOf initial b → Extends initial nodes → Extends nodes new
    → AddUp initial a b carry from nodes sums carried i
    → HasValue new sum (λ free. bool_xor (bool_xor (truth free nodes (bit_at a i)) (truth free nodes (bit_at b i))) (truth free nodes carried))
    → HasValue new next (λ free. (truth free nodes (bit_at a i) && truth free nodes (bit_at b i)) || (bool_xor (truth free nodes (bit_at a i)) (truth free nodes (bit_at b i)) && truth free nodes carried))
    → AddUp initial a b carry from new (set sums i sum) next (i + 1)
AddUp-more initial nodes new a b carry from sums carried i sum next small in_a in_b a_bits b_bits first second before is_sum is_next = record {
  long = length-set sums i sum ∙ before.long;
  are_bits = are_bits-set new sums i sum (are_bits-extends nodes new sums second before.are_bits) is_sum.is_bit;
  is_bit = is_next.is_bit;
  holds = λ free.
      let in_sums : i < length sums = omega (arith, before.long) in
      let sums_now : low_number free new (set sums i sum) (i + 1) ≡ low_number free nodes sums i + 2 ^ i * digit (truth free new sum) =
      low_number-set_more free new sums i sum in_sums ∙ ap (λ n. n + 2 ^ i * digit (truth free new sum)) (low_number-extends free nodes new sums i second before.are_bits) in
      let a_now : low_number free initial a (i + 1) ≡ low_number free initial a i + 2 ^ i * digit (truth free nodes (bit_at a i)) =
      low_number-more free initial a i in_a ∙ ap (λ t. low_number free initial a i + 2 ^ i * digit t) (sym (first.keeps free (bit_at a i) (a_bits i))) in
      let b_now : low_number free initial b (i + 1) ≡ low_number free initial b i + 2 ^ i * digit (truth free nodes (bit_at b i)) =
      low_number-more free initial b i in_b ∙ ap (λ t. low_number free initial b i + 2 ^ i * digit t) (sym (first.keeps free (bit_at b i) (b_bits i))) in
      let here : digit (truth free new sum) + 2 * digit (truth free new next) ≡ digit (truth free nodes (bit_at a i)) + digit (truth free nodes (bit_at b i)) + digit (truth free nodes carried) =
      (λ j. digit (is_sum.holds free j) + 2 * digit (is_next.holds free j)) ∙ full_sum (truth free nodes (bit_at a i)) (truth free nodes (bit_at b i)) (truth free nodes carried) in
      (λ j. sums_now j + 2 ^ (i + 1) * digit (truth free new next) + low_number free initial b from)
      ∙ add_step (2 ^ i) (2 ^ (i + 1)) (low_number free nodes sums i) (digit (truth free new sum)) (digit (truth free nodes carried)) (digit (truth free new next)) (low_number free initial a i) (low_number free initial b i) (digit (truth free nodes (bit_at a i))) (digit (truth free nodes (bit_at b i))) (2 ^ from * digit (truth free initial carry)) (low_number free initial b from) (power_more i) (before.holds free) here
      ∙ sym (λ j. a_now j + b_now j + 2 ^ from * digit (truth free initial carry));
}
