-- The operators of C at the numbers that words stand for.

use Rattle.std.proofs.Common.{◌≡◌, ℕ, suc, ◌+◌, ◌-◌, ◌*◌, ◌/◌, ◌%◌, ◌^◌, ◌<◌, ◌≤◌, Bool, true, false, not, ◌&&◌, ◌||◌, bit_and, bit_or, bit_xor, inl, inr, Some, refl, sym, ap, subst, ◌∙◌, arith, nat_lt, ◌==◌, ℤ, pos, negsuc, neg_ℤ, ◌+ℤ◌, ◌-ℤ◌, ◌*ℤ◌, unsigned_abs, int_lt}
use Rattle.std.specs.Int.{int_div_euclid}
use Rattle.std.specs.Ordering.{int_eq}
use Rattle.std.proofs.lemmas.Int.{ints}
use Rattle.std.proofs.lemmas.Bool.{cases_lt, eqb-true}
use Rattle.std.proofs.lemmas.Nat.{div-add-mod', mod_below, div-mul-add, div_below, pow-add, pow_pos, mul-le}
use Rattle.std.proofs.Math.Nat.{add-mul, mul_comm}
use Rattle.std.proofs.lemmas.Bool.Decides.{nat_tests, Decides-int_eq}
use Rattle.ba_numbers.specs.declared.numbers.CType.TheVariants.{I32, U32}
use Rattle.ba_numbers.specs.declared.numbers.BinOp.TheVariants.{Add, Sub, Shl, Shr, Lt, Eq, And, Xor, Or}
use Rattle.ba_numbers.specs.declared.numbers.UnOp.TheVariants.{Neg, Flip, IsZero}
use Rattle.ba_numbers.specs.Numbers.{IsIn, IsCongruent, converted, low_word, count_of, value_of, value_of_one, truth as number_of_truth}
use Rattle.ba_numbers.proofs.Conversions.{converted_in_range, converted_congruent, converted_only, rem_only, truth_converted}
use Rattle.ba_words.specs.Words.{word_type, digit, shifted_down}

-- the number of a word in C
abbrev pub read : Bool → ℕ → ℤ
read signed m = converted (word_type signed) (pos m)

pub read_congruent : (signed : Bool) (m : ℕ) → IsCongruent 0x100000000 (read signed m) (pos m)
read_congruent true m = converted_congruent I32 (pos m)
read_congruent false m = converted_congruent U32 (pos m)

pub through : (x y z k j : ℤ) → x ≡ y +ℤ k *ℤ pos 0x100000000 → y ≡ z +ℤ j *ℤ pos 0x100000000 → x ≡ z +ℤ (k +ℤ j) *ℤ pos 0x100000000
through x y z k j e f = omega (arith, ints)

pub back : (y z k : ℤ) → y ≡ z +ℤ k *ℤ pos 0x100000000 → z ≡ y +ℤ neg_ℤ k *ℤ pos 0x100000000
back y z k e = omega (arith, ints)

pub read-same : (signed : Bool) (y z : ℤ) → IsCongruent 0x100000000 y z → converted (word_type signed) y ≡ converted (word_type signed) z
read-same true y z same = converted_only I32 (converted I32 y) z (converted_in_range I32 y) record { turns = (converted_congruent I32 y).turns +ℤ same.turns; apart = through (converted I32 y) y z (converted_congruent I32 y).turns same.turns (converted_congruent I32 y).apart same.apart }
read-same false y z same = converted_only U32 (converted U32 y) z (converted_in_range U32 y) record { turns = (converted_congruent U32 y).turns +ℤ same.turns; apart = through (converted U32 y) y z (converted_congruent U32 y).turns same.turns (converted_congruent U32 y).apart same.apart }

-- the 32 low bits of what a word is read as are the word
pub low_word-read : (signed : Bool) (m : ℕ) → m < 2 ^ 32 → low_word (read signed m) ≡ m
low_word-read signed m small =
    let same = read_congruent signed m in
    ap unsigned_abs (rem_only 0x100000000 (pos m) (read signed m) (omega (arith, ints)) (omega (arith, ints)) record { turns = neg_ℤ same.turns; apart = back (read signed m) (pos m) same.turns same.apart })

-- the read number is the word's, or lies 2 ^ 32 below it
pub read_unsigned : (m : ℕ) → m < 2 ^ 32 → read false m ≡ pos m
read_unsigned m small =
    let own : IsIn U32 (pos m) = record { low = omega (arith, ints); high = omega (arith, ints) } in
    sym (converted_only U32 (pos m) (pos m) own record { turns = pos 0; apart = omega (arith, ints) })

pub read_low : (m : ℕ) → m < 2 ^ 31 → read true m ≡ pos m
read_low m below =
    let own : IsIn I32 (pos m) = record { low = omega (arith, ints); high = omega (arith, ints) } in
    sym (converted_only I32 (pos m) (pos m) own record { turns = pos 0; apart = omega (arith, ints) })

pub read_high : (m : ℕ) → 2 ^ 31 ≤ m → m < 2 ^ 32 → read true m ≡ negsuc (0xffffffff - m)
read_high m above small =
    let own : IsIn I32 (negsuc (0xffffffff - m)) = record { low = omega (arith, ints); high = omega (arith, ints) } in
    sym (converted_only I32 (negsuc (0xffffffff - m)) (pos m) own record { turns = negsuc 0; apart = omega (arith, ints) })

-- ---- sums

add_apart : (x y k j : ℤ) (m n : ℕ) → x ≡ pos m +ℤ k *ℤ pos 0x100000000 → y ≡ pos n +ℤ j *ℤ pos 0x100000000 → x +ℤ y ≡ pos ((m + n) % 0x100000000) +ℤ (k +ℤ j +ℤ pos ((m + n) / 0x100000000)) *ℤ pos 0x100000000
add_apart x y k j m n e f = omega (arith, ints)

pub add_value : (signed : Bool) (m n : ℕ) → value_of Add (word_type signed) (read signed m) (read signed n) ≡ Some (read signed ((m + n) % 2 ^ 32))
unfolding value_of
add_value signed m n =
    let first = read_congruent signed m in
    let second = read_congruent signed n in
    ap Some (read-same signed (read signed m +ℤ read signed n) (pos ((m + n) % 2 ^ 32))
    record { turns = first.turns +ℤ second.turns +ℤ pos ((m + n) / 0x100000000); apart = add_apart (read signed m) (read signed n) first.turns second.turns m n first.apart second.apart })

sub_apart : (x y k j : ℤ) (m n : ℕ) → n < 0x100000000 → x ≡ pos m +ℤ k *ℤ pos 0x100000000 → y ≡ pos n +ℤ j *ℤ pos 0x100000000 → x -ℤ y ≡ pos ((m + (0x100000000 - n)) % 0x100000000) +ℤ (k -ℤ j +ℤ pos ((m + (0x100000000 - n)) / 0x100000000) -ℤ pos 1) *ℤ pos 0x100000000
sub_apart x y k j m n small e f = omega (arith, ints)

pub sub_value : (signed : Bool) (m n : ℕ) → n < 2 ^ 32 → value_of Sub (word_type signed) (read signed m) (read signed n) ≡ Some (read signed ((m + (2 ^ 32 - n)) % 2 ^ 32))
unfolding value_of
sub_value signed m n small =
    let first = read_congruent signed m in
    let second = read_congruent signed n in
    ap Some (read-same signed (read signed m -ℤ read signed n) (pos ((m + (2 ^ 32 - n)) % 2 ^ 32))
    record { turns = first.turns -ℤ second.turns +ℤ pos ((m + (0x100000000 - n)) / 0x100000000) -ℤ pos 1; apart = sub_apart (read signed m) (read signed n) first.turns second.turns m n small first.apart second.apart })

neg_apart : (y j : ℤ) (n : ℕ) → n < 0x100000000 → y ≡ pos n +ℤ j *ℤ pos 0x100000000 → neg_ℤ y ≡ pos ((0x100000000 - n) % 0x100000000) +ℤ (neg_ℤ j +ℤ pos ((0x100000000 - n) / 0x100000000) -ℤ pos 1) *ℤ pos 0x100000000
neg_apart y j n small f = omega (arith, ints)

pub neg_value : (signed : Bool) (n : ℕ) → n < 2 ^ 32 → value_of_one Neg (word_type signed) (read signed n) ≡ read signed ((2 ^ 32 - n) % 2 ^ 32)
unfolding value_of_one
neg_value signed n small =
    let second = read_congruent signed n in
    read-same signed (neg_ℤ (read signed n)) (pos ((2 ^ 32 - n) % 2 ^ 32))
    record { turns = neg_ℤ second.turns +ℤ pos ((0x100000000 - n) / 0x100000000) -ℤ pos 1; apart = neg_apart (read signed n) second.turns n small second.apart }

flip_apart : (y j : ℤ) (n r : ℕ) → r + n + 1 ≡ 0x100000000 → y ≡ pos n +ℤ j *ℤ pos 0x100000000 → neg_ℤ y -ℤ pos 1 ≡ pos r +ℤ (neg_ℤ j -ℤ pos 1) *ℤ pos 0x100000000
flip_apart y j n r whole f = omega (arith, ints)

pub flip_value : (signed : Bool) (n r : ℕ) → r + n + 1 ≡ 2 ^ 32 → value_of_one Flip (word_type signed) (read signed n) ≡ read signed r
unfolding value_of_one
flip_value signed n r whole =
    let second = read_congruent signed n in
    read-same signed (neg_ℤ (read signed n) -ℤ pos 1) (pos r)
    record { turns = neg_ℤ second.turns -ℤ pos 1; apart = flip_apart (read signed n) second.turns n r whole second.apart }

-- ---- operators on each place alone

pub and_value : (signed : Bool) (m n : ℕ) → m < 2 ^ 32 → n < 2 ^ 32 → value_of And (word_type signed) (read signed m) (read signed n) ≡ Some (read signed (bit_and m n))
unfolding value_of
and_value signed m n m_small n_small = ap (λ b. Some (read signed b)) (λ i. bit_and (low_word-read signed m m_small i) (low_word-read signed n n_small i))

pub or_value : (signed : Bool) (m n : ℕ) → m < 2 ^ 32 → n < 2 ^ 32 → value_of Or (word_type signed) (read signed m) (read signed n) ≡ Some (read signed (bit_or m n))
unfolding value_of
or_value signed m n m_small n_small = ap (λ b. Some (read signed b)) (λ i. bit_or (low_word-read signed m m_small i) (low_word-read signed n n_small i))

pub xor_value : (signed : Bool) (m n : ℕ) → m < 2 ^ 32 → n < 2 ^ 32 → value_of Xor (word_type signed) (read signed m) (read signed n) ≡ Some (read signed (bit_xor m n))
unfolding value_of
xor_value signed m n m_small n_small = ap (λ b. Some (read signed b)) (λ i. bit_xor (low_word-read signed m m_small i) (low_word-read signed n n_small i))

-- ---- comparisons

is_true : (signed : Bool) (b : Bool) (value : Bool) → b ≡ value → Some (converted (word_type signed) (number_of_truth b)) ≡ Some (number_of_truth value)
is_true signed b value same = ap Some (truth_converted (word_type signed) b ∙ ap number_of_truth same)

read_equal : (signed : Bool) (m n : ℕ) → m < 2 ^ 32 → n < 2 ^ 32 → int_eq (read signed m) (read signed n) ≡ (m == n)
read_equal signed m n m_small n_small = by_cases (m == n) refl
  where
    by_cases : (same : Bool) → (m == n) ≡ same → int_eq (read signed m) (read signed n) ≡ same
    by_cases true is = (Decides-int_eq (read signed m) (read signed n)).1 (ap (read signed) (eqb-true m n is))
    by_cases false is = by_answer (int_eq (read signed m) (read signed n)) refl
      where
        by_answer : (answer : Bool) → int_eq (read signed m) (read signed n) ≡ answer → answer ≡ false
        by_answer false found = refl
        by_answer true found =
            let alike : read signed m ≡ read signed n = (Decides-int_eq (read signed m) (read signed n)).0 found in
            let numbers : m ≡ n = sym (low_word-read signed m m_small) ∙ ap low_word alike ∙ low_word-read signed n n_small in
            absurd (grind (arith, nat_tests))

pub equal_value : (signed : Bool) (m n : ℕ) (value : Bool) → m < 2 ^ 32 → n < 2 ^ 32 → value ≡ (m == n) → value_of Eq (word_type signed) (read signed m) (read signed n) ≡ Some (number_of_truth value)
unfolding value_of
equal_value signed m n value m_small n_small is = is_true signed (int_eq (read signed m) (read signed n)) value (read_equal signed m n m_small n_small ∙ sym is)

pub read_zero : (signed : Bool) → read signed 0 ≡ pos 0
unfolding converted
read_zero true = refl
read_zero false = refl

pub test_value : (signed : Bool) (m : ℕ) (value : Bool) → m < 2 ^ 32 → value ≡ nat_lt 0 m → value_of_one IsZero (word_type signed) (read signed m) ≡ number_of_truth (not value)
unfolding value_of_one
test_value signed m value m_small is =
    ap number_of_truth (ap (int_eq (read signed m)) (sym (read_zero signed)) ∙ read_equal signed m 0 m_small (omega arith) ∙ zero_test m ∙ ap not (sym is))
  where
    zero_test : (m : ℕ) → (m == 0) ≡ not (nat_lt 0 m)
    zero_test m = grind (arith, nat_tests)

pub less_value : (signed : Bool) (m n : ℕ) (value : Bool) → value ≡ int_lt (read signed m) (read signed n) → value_of Lt (word_type signed) (read signed m) (read signed n) ≡ Some (number_of_truth value)
unfolding value_of
less_value signed m n value is = is_true signed (int_lt (read signed m) (read signed n)) value (sym is)

pub less_unsigned : (m n : ℕ) → m < 2 ^ 32 → n < 2 ^ 32 → int_lt (read false m) (read false n) ≡ nat_lt m n
less_unsigned m n m_small n_small = λ i. int_lt (read_unsigned m m_small i) (read_unsigned n n_small i)

pub less_signed : (m n k l : ℕ) (x y : Bool) → k < 2 ^ 31 → l < 2 ^ 31 → m ≡ k + 2 ^ 31 * digit x → n ≡ l + 2 ^ 31 * digit y → int_lt (read true m) (read true n) ≡ ((not y && x) || (not (y && not x) && nat_lt k l))
less_signed m n k l true true k_small l_small m_is n_is =
    let turned : nat_lt (0xffffffff - n) (0xffffffff - m) ≡ nat_lt k l = grind (arith, nat_tests) in
    (λ i. int_lt (read_high m (omega arith) (omega arith) i) (read_high n (omega arith) (omega arith) i)) ∙ turned
less_signed m n k l true false k_small l_small m_is n_is =
    λ i. int_lt (read_high m (omega arith) (omega arith) i) (read_low n (omega arith) i)
less_signed m n k l false true k_small l_small m_is n_is =
    λ i. int_lt (read_low m (omega arith) i) (read_high n (omega arith) (omega arith) i)
less_signed m n k l false false k_small l_small m_is n_is =
    let same : nat_lt m n ≡ nat_lt k l = grind (arith, nat_tests) in
    (λ i. int_lt (read_low m (omega arith) i) (read_low n (omega arith) i)) ∙ same

-- ---- shifts

count-read : (counted : Bool) (n : ℕ) → n < 2 ^ 32 → count_of (read counted n) ≡ n % 32
count-read counted n small = ap (λ w. w % 32) (low_word-read counted n small)

pub spread : (a b c p : ℕ) → a + b ≡ c → a * p + b * p ≡ c * p
spread a b c p e = sym (add-mul a b p) ∙ ap (λ x. x * p) e

shl_congruent : (signed : Bool) (m p : ℕ) → m < 2 ^ 32 → IsCongruent 0x100000000 (read signed m *ℤ pos p) (pos ((m * p) % 0x100000000))
shl_congruent false m p small = record {
  turns = pos ((m * p) / 0x100000000);
  apart = ap (λ x. x *ℤ pos p) (read_unsigned m small) ∙ omega (arith, ints);
}
shl_congruent true m p small = elim (cases_lt m 0x80000000) [
  | inl below ↦ record { turns = pos ((m * p) / 0x100000000); apart = ap (λ x. x *ℤ pos p) (read_low m below) ∙ omega (arith, ints) }
  | inr above ↦ record {
    turns = pos ((m * p) / 0x100000000) -ℤ pos p;
    apart =
        let split : suc (0xffffffff - m) * p + m * p ≡ 0x100000000 * p = spread (suc (0xffffffff - m)) m 0x100000000 p (omega arith) in
        ap (λ x. x *ℤ pos p) (read_high m above small) ∙ omega (arith, ints);
  }
]

pub shl_value : (signed counted : Bool) (m n : ℕ) → m < 2 ^ 32 → n < 2 ^ 32 → value_of Shl (word_type signed) (read signed m) (read counted n) ≡ Some (read signed ((m * 2 ^ (n % 32)) % 2 ^ 32))
unfolding value_of
shl_value signed counted m n m_small n_small =
    ap (λ c. Some (converted (word_type signed) (read signed m *ℤ pos (2 ^ c)))) (count-read counted n n_small)
    ∙ ap Some (read-same signed (read signed m *ℤ pos (2 ^ (n % 32))) (pos ((m * 2 ^ (n % 32)) % 2 ^ 32)) (shl_congruent signed m (2 ^ (n % 32)) m_small))

-- a right shift of a number that is not negative
pub shr_clear : (signed counted : Bool) (m n : ℕ) → read signed m ≡ pos m → n < 2 ^ 32 → value_of Shr (word_type signed) (read signed m) (read counted n) ≡ Some (read signed (m / 2 ^ (n % 32)))
unfolding value_of
shr_clear signed counted m n plain n_small =
    ap (λ c. Some (converted (word_type signed) (int_div_euclid (read signed m) (pos (2 ^ c))))) (count-read counted n n_small)
    ∙ ap (λ z. Some (converted (word_type signed) (int_div_euclid z (pos (2 ^ (n % 32)))))) plain

-- the quotient of the complement
complement-div : (p q m : ℕ) → 0 < p → q * p ≡ 0x100000000 → m < 0x100000000 → (0xffffffff - m) / p + m / p + 1 ≡ q
complement-div p q m positive whole small =
    let rest : m / p * p + m % p ≡ m = div-add-mod' m p in
    let rest_below : m % p < p = mod_below m p positive in
    let below : m / p < q = div_below m p q positive (omega (arith, mul_comm q p)) in
    let parts : (q - 1 - m / p) * p + (m / p + 1) * p ≡ q * p = spread (q - 1 - m / p) (m / p + 1) q p (omega arith) in
    let next : (m / p + 1) * p ≡ m / p * p + p = spread_one (m / p) p in
    let split : (q - 1 - m / p) * p + (p - 1 - m % p) ≡ 0xffffffff - m = omega arith in
    let quotient : (0xffffffff - m) / p ≡ q - 1 - m / p =
    ap (λ x. x / p) (sym split) ∙ div-mul-add (q - 1 - m / p) p (p - 1 - m % p) (omega arith) in
    omega arith
  where
    spread_one : (k p : ℕ) → (k + 1) * p ≡ k * p + p
    spread_one k p = grind arith

pub powers : (c : ℕ) → c ≤ 32 → 2 ^ (32 - c) * 2 ^ c ≡ 0x100000000
powers c most =
    let whole : 32 - c + c ≡ 32 = omega arith in
    sym (pow-add 2 (32 - c) c) ∙ ap (λ n. 2 ^ n) whole

-- a right shift of a negative number keeps the sign
pub shr_set : (counted : Bool) (m n : ℕ) → 2 ^ 31 ≤ m → m < 2 ^ 32 → n < 2 ^ 32 → value_of Shr I32 (read true m) (read counted n) ≡ Some (read true (m / 2 ^ (n % 32) + (2 ^ 32 - 2 ^ (32 - n % 32))))
unfolding value_of
shr_set counted m n above m_small n_small =
    let few : n % 32 < 32 = mod_below n 32 (omega arith) in
    let quotient : (0xffffffff - m) / 2 ^ (n % 32) + m / 2 ^ (n % 32) + 1 ≡ 2 ^ (32 - n % 32) =
    complement-div (2 ^ (n % 32)) (2 ^ (32 - n % 32)) m (pow_pos (n % 32)) (powers (n % 32) (omega arith)) m_small in
    let most : 2 ^ (32 - n % 32) ≤ 0x100000000 = subst (λ x. 2 ^ (32 - n % 32) ≤ x) (powers (n % 32) (omega arith)) (le-mul_of_pos_right' (2 ^ (32 - n % 32)) (2 ^ (n % 32)) (pow_pos (n % 32))) in
    ap (λ c. Some (converted I32 (int_div_euclid (read true m) (pos (2 ^ c))))) (count-read counted n n_small)
    ∙ ap (λ z. Some (converted I32 (int_div_euclid z (pos (2 ^ (n % 32)))))) (read_high m above m_small)
    ∙ ap Some (read-same true (negsuc ((0xffffffff - m) / 2 ^ (n % 32))) (pos (m / 2 ^ (n % 32) + (2 ^ 32 - 2 ^ (32 - n % 32)))) record { turns = negsuc 0; apart = omega (arith, ints) })
  where
    le-mul_of_pos_right' : (a b : ℕ) → 0 < b → a ≤ a * b
    le-mul_of_pos_right' a b positive = omega (arith, mul-le a 1 a b (omega arith) positive)

plain_down : (m c : ℕ) → m / 2 ^ c ≡ shifted_down m false c
plain_down m c = omega arith

ones_down : (q r : ℕ) → q + r ≡ q + 1 * r
ones_down q r = omega arith

-- the right shift of a word by its highest place
pub shr_value : (signed counted top : Bool) (m n low : ℕ) → m ≡ low + 2 ^ 31 * digit top → low < 2 ^ 31 → m < 2 ^ 32 → n < 2 ^ 32
    → value_of Shr (word_type signed) (read signed m) (read counted n) ≡ Some (read signed (shifted_down m (signed && top) (n % 32)))
shr_value false counted top m n low m_is low_small m_small n_small =
    shr_clear false counted m n (read_unsigned m m_small) n_small ∙ ap (λ r. Some (read false r)) (plain_down m (n % 32))
shr_value true counted false m n low m_is low_small m_small n_small =
    shr_clear true counted m n (read_low m (omega arith)) n_small ∙ ap (λ r. Some (read true r)) (plain_down m (n % 32))
shr_value true counted true m n low m_is low_small m_small n_small =
    shr_set counted m n (omega arith) m_small n_small ∙ ap (λ r. Some (read true r)) (ones_down (m / 2 ^ (n % 32)) (2 ^ 32 - 2 ^ (32 - n % 32)))
