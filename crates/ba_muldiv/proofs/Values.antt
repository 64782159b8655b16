-- Products, quotients and remainders of the numbers that words are read as.

use Rattle.std.proofs.Common.{◌≡◌, ℕ, zero, suc, ◌+◌, ◌-◌, ◌*◌, ◌/◌, ◌%◌, ◌^◌, ◌<◌, ◌≤◌, Bool, true, false, cond, Some, None, inl, inr, refl, sym, ap, subst, ◌∙◌, arith, ℤ, pos, neg_ℤ, ◌+ℤ◌, ◌-ℤ◌, ◌*ℤ◌, div-le_self}
use Rattle.std.specs.Int.RustNames.{int_div, int_rem}
use Rattle.std.specs.Ordering.{int_eq}
use Rattle.std.proofs.Math.Nat.{mul-add}
use Rattle.std.proofs.lemmas.Int.{ints}
use Rattle.std.proofs.lemmas.Bool.{cases_lt}
use Rattle.std.proofs.lemmas.Bool.Decides.{Decides-int_eq}
use native.Mathlib.Nat.{mod-le}
use Rattle.ba_nodes.specs.Gates.{bool_xor}
use Rattle.ba_numbers.specs.declared.numbers.BinOp.TheVariants.{Mul, Div, Rem}
use Rattle.ba_numbers.specs.Numbers.{IsCongruent, converted, converted_value, value_of}
use Rattle.ba_words.specs.Words.{word_type}
use Rattle.ba_words.proofs.Values.{read, read-same, read_unsigned, read_low, read_high, spread, read_zero}
use Rattle.ba_muldiv.specs.Division.{is_negative, negated_where, long_quotient, quotient_of, remainder_of}
use Rattle.ba_muldiv.proofs.Steps.{le_true, le_false, long_positive}

-- ---- products

mul_congruent : (signed : Bool) (m n : ℕ) → m < 2 ^ 32 → n < 2 ^ 32 →
    IsCongruent 0x100000000 (read signed m *ℤ read signed n) (pos ((m * n) % 0x100000000))
mul_congruent false m n m_small n_small = record {
  turns = pos ((m * n) / 0x100000000);
  apart = (λ i. read_unsigned m m_small i *ℤ read_unsigned n n_small i) ∙ omega (arith, ints);
}
mul_congruent true m n m_small n_small = elim (cases_lt m 0x80000000) [
  | inl m_low ↦ elim (cases_lt n 0x80000000) [
    | inl n_low ↦ record {
      turns = pos ((m * n) / 0x100000000);
      apart = (λ i. read_low m m_low i *ℤ read_low n n_low i) ∙ omega (arith, ints);
    }
    | inr n_high ↦ record {
      turns = pos ((m * n) / 0x100000000) -ℤ pos m;
      apart =
          let whole : suc (0xffffffff - n) + n ≡ 0x100000000 = omega arith in
          let split : m * suc (0xffffffff - n) + m * n ≡ m * 0x100000000 =
          sym (mul-add m (suc (0xffffffff - n)) n) ∙ ap (λ x. m * x) whole in
          (λ i. read_low m m_low i *ℤ read_high n n_high n_small i) ∙ omega (arith, ints);
    }
  ]
  | inr m_high ↦ elim (cases_lt n 0x80000000) [
    | inl n_low ↦ record {
      turns = pos ((m * n) / 0x100000000) -ℤ pos n;
      apart =
          let split : suc (0xffffffff - m) * n + m * n ≡ 0x100000000 * n =
          spread (suc (0xffffffff - m)) m 0x100000000 n (omega arith) in
          (λ i. read_high m m_high m_small i *ℤ read_low n n_low i) ∙ omega (arith, ints);
    }
    | inr n_high ↦ record {
      turns = pos (suc (0xffffffff - n)) -ℤ pos m +ℤ pos ((m * n) / 0x100000000);
      apart =
          let whole : suc (0xffffffff - n) + n ≡ 0x100000000 = omega arith in
          let first : suc (0xffffffff - m) * suc (0xffffffff - n) + m * suc (0xffffffff - n)
          ≡ 0x100000000 * suc (0xffffffff - n) =
          spread (suc (0xffffffff - m)) m 0x100000000 (suc (0xffffffff - n)) (omega arith) in
          let second : m * suc (0xffffffff - n) + m * n ≡ m * 0x100000000 =
          sym (mul-add m (suc (0xffffffff - n)) n) ∙ ap (λ x. m * x) whole in
          (λ i. read_high m m_high m_small i *ℤ read_high n n_high n_small i) ∙ omega (arith, ints);
    }
  ]
]

pub mul_value : (signed : Bool) (m n : ℕ) → m < 2 ^ 32 → n < 2 ^ 32 →
    value_of Mul (word_type signed) (read signed m) (read signed n) ≡ Some (read signed ((m * n) % 2 ^ 32))
unfolding value_of
mul_value signed m n m_small n_small =
    ap Some (read-same signed (read signed m *ℤ read signed n) (pos ((m * n) % 2 ^ 32))
    (mul_congruent signed m n m_small n_small))

-- ---- quotients and remainders by their signs and magnitudes

pub quotient_parts : (signed : Bool) (m n : ℕ) (x y : Bool) (a b : ℕ) → is_negative signed m ≡ x →
    is_negative signed n ≡ y → negated_where x m ≡ a → negated_where y n ≡ b → 0 < b →
    quotient_of signed m n ≡ negated_where (bool_xor x y) (a / b)
quotient_parts signed m n x y a b m_sign n_sign m_is n_is positive =
    (λ i. negated_where (bool_xor (m_sign i) (n_sign i))
    (long_quotient 32 (negated_where (m_sign i) m) (negated_where (n_sign i) n)))
    ∙ (λ i. negated_where (bool_xor x y) (long_quotient 32 (m_is i) (n_is i)))
    ∙ ap (negated_where (bool_xor x y)) (long_positive 32 a b positive)

pub remainder_parts : (signed : Bool) (m n : ℕ) (x y : Bool) (a b : ℕ) → is_negative signed m ≡ x →
    is_negative signed n ≡ y → negated_where x m ≡ a → negated_where y n ≡ b →
    remainder_of signed m n ≡ negated_where x (a % b)
remainder_parts signed m n x y a b m_sign n_sign m_is n_is =
    (λ i. negated_where (m_sign i) (negated_where (m_sign i) m % negated_where (n_sign i) n))
    ∙ (λ i. negated_where x (m_is i % n_is i))

turned : (m : ℕ) → 2 ^ 31 ≤ m → m < 2 ^ 32 → (2 ^ 32 - m) % 2 ^ 32 ≡ suc (0xffffffff - m)
turned m high small = omega arith

neg_congruent : (q : ℕ) → q < 2 ^ 32 → IsCongruent 0x100000000 (neg_ℤ (pos q)) (pos ((2 ^ 32 - q) % 2 ^ 32))
neg_congruent q small = record {
  turns = pos ((0x100000000 - q) / 0x100000000) -ℤ pos 1;
  apart =
      omega (arith, ints);
}

own_congruent : (q : ℕ) → IsCongruent 0x100000000 (pos q) (pos q)
own_congruent q = record { turns = pos 0; apart = omega (arith, ints) }

-- a plain value at the numbers of words, from a value at their parts
moved : (x y : ℤ) (m n : ℕ) → x ≡ y → m ≡ n → IsCongruent 0x100000000 y (pos n) →
    IsCongruent 0x100000000 x (pos m)
moved x y m n first second same =
    subst (λ z. IsCongruent 0x100000000 z (pos m)) (sym first)
    (subst (λ k. IsCongruent 0x100000000 y (pos k)) (sym second) same)

quotient_congruent : (signed : Bool) (m n : ℕ) → m < 2 ^ 32 → n < 2 ^ 32 → 0 < n →
    IsCongruent 0x100000000 (int_div (read signed m) (read signed n)) (pos (quotient_of signed m n))
quotient_congruent false m n m_small n_small positive =
    moved _ (pos (m / n)) _ (m / n) (λ i. int_div (read_unsigned m m_small i) (read_unsigned n n_small i))
    (quotient_parts false m n false false m n refl refl refl refl positive) (own_congruent (m / n))
quotient_congruent true m n m_small n_small positive = elim (cases_lt m 0x80000000) [
  | inl m_low ↦ elim (cases_lt n 0x80000000) [
    | inl n_low ↦
        moved _ (pos (m / n)) _ (m / n) (λ i. int_div (read_low m m_low i) (read_low n n_low i))
        (quotient_parts true m n false false m n (le_false _ m m_low) (le_false _ n n_low) refl refl
        positive) (own_congruent (m / n))
    | inr n_high ↦
        let b = suc (0xffffffff - n) in
        let small : m / b < 2 ^ 32 = omega (arith, div-le_self m b) in
        moved _ (neg_ℤ (pos (m / b))) _ ((2 ^ 32 - m / b) % 2 ^ 32)
        (λ i. int_div (read_low m m_low i) (read_high n n_high n_small i))
        (quotient_parts true m n false true m b (le_false _ m m_low) (le_true _ n n_high) refl
        (turned n n_high n_small) (omega arith)) (neg_congruent (m / b) small)
  ]
  | inr m_high ↦
      let a = suc (0xffffffff - m) in
      elim (cases_lt n 0x80000000) [
        | inl n_low ↦
            let small : a / n < 2 ^ 32 = omega (arith, div-le_self a n) in
            moved _ (neg_ℤ (pos (a / n))) _ ((2 ^ 32 - a / n) % 2 ^ 32)
            (λ i. int_div (read_high m m_high m_small i) (read_low n n_low i))
            (quotient_parts true m n true false a n (le_true _ m m_high) (le_false _ n n_low)
            (turned m m_high m_small) refl positive) (neg_congruent (a / n) small)
        | inr n_high ↦
            let b = suc (0xffffffff - n) in
            moved _ (pos (a / b)) _ (a / b) (λ i. int_div (read_high m m_high m_small i)
            (read_high n n_high n_small i))
            (quotient_parts true m n true true a b (le_true _ m m_high) (le_true _ n n_high)
            (turned m m_high m_small) (turned n n_high n_small) (omega arith)) (own_congruent (a / b))
      ]
]

remainder_congruent : (signed : Bool) (m n : ℕ) → m < 2 ^ 32 → n < 2 ^ 32 →
    IsCongruent 0x100000000 (int_rem (read signed m) (read signed n)) (pos (remainder_of signed m n))
remainder_congruent false m n m_small n_small =
    moved _ (pos (m % n)) _ (m % n) (λ i. int_rem (read_unsigned m m_small i) (read_unsigned n n_small i))
    (remainder_parts false m n false false m n refl refl refl refl) (own_congruent (m % n))
remainder_congruent true m n m_small n_small = elim (cases_lt m 0x80000000) [
  | inl m_low ↦ elim (cases_lt n 0x80000000) [
    | inl n_low ↦
        moved _ (pos (m % n)) _ (m % n) (λ i. int_rem (read_low m m_low i) (read_low n n_low i))
        (remainder_parts true m n false false m n (le_false _ m m_low) (le_false _ n n_low) refl refl)
        (own_congruent (m % n))
    | inr n_high ↦
        let b = suc (0xffffffff - n) in
        moved _ (pos (m % b)) _ (m % b) (λ i. int_rem (read_low m m_low i) (read_high n n_high n_small i))
        (remainder_parts true m n false true m b (le_false _ m m_low) (le_true _ n n_high) refl
        (turned n n_high n_small)) (own_congruent (m % b))
  ]
  | inr m_high ↦
      let a = suc (0xffffffff - m) in
      elim (cases_lt n 0x80000000) [
        | inl n_low ↦
            let small : a % n < 2 ^ 32 = omega (arith, mod-le a n) in
            moved _ (neg_ℤ (pos (a % n))) _ ((2 ^ 32 - a % n) % 2 ^ 32)
            (λ i. int_rem (read_high m m_high m_small i) (read_low n n_low i))
            (remainder_parts true m n true false a n (le_true _ m m_high) (le_false _ n n_low)
            (turned m m_high m_small) refl) (neg_congruent (a % n) small)
        | inr n_high ↦
            let b = suc (0xffffffff - n) in
            let small : a % b < 2 ^ 32 = omega (arith, mod-le a b) in
            moved _ (neg_ℤ (pos (a % b))) _ ((2 ^ 32 - a % b) % 2 ^ 32)
            (λ i. int_rem (read_high m m_high m_small i) (read_high n n_high n_small i))
            (remainder_parts true m n true true a b (le_true _ m m_high) (le_true _ n n_high)
            (turned m m_high m_small) (turned n n_high n_small)) (neg_congruent (a % b) small)
      ]
]

-- a divisor that is not zero
divisor_positive : (signed : Bool) (n : ℕ) → int_eq (read signed n) (pos 0) ≡ false → 0 < n
divisor_positive signed zero is =
    let equal : int_eq (read signed 0) (pos 0) ≡ true =
    (Decides-int_eq (read signed 0) (pos 0)).1 (read_zero signed) in
    absurd (cc)
divisor_positive signed (suc n) is = omega arith

-- a value that there is, of an operator with none at a zero divisor
module _ (signed : Bool) (n : ℕ) (plain value : ℤ) (word : ℕ) (same : 0 < n →
    IsCongruent 0x100000000 plain (pos word)) where
  by_test : (none : Bool) → int_eq (read signed n) (pos 0) ≡ none →
      converted_value (word_type signed) (cond none None (Some plain)) ≡ Some value → read signed word ≡ value
  by_test true is found = absurd (cc)
  by_test false is found =
      let here : converted (word_type signed) plain ≡ value = cc in
      sym (read-same signed plain (pos word) (same (divisor_positive signed n is))) ∙ here

pub div_value : (signed : Bool) (m n : ℕ) → m < 2 ^ 32 → n < 2 ^ 32 → (value : ℤ) →
    value_of Div (word_type signed) (read signed m) (read signed n) ≡ Some value →
    read signed (quotient_of signed m n) ≡ value
unfolding value_of
div_value signed m n m_small n_small value found =
    by_test signed n (int_div (read signed m) (read signed n)) value (quotient_of signed m n)
    (quotient_congruent signed m n m_small n_small) (int_eq (read signed n) (pos 0)) refl found

pub rem_value : (signed : Bool) (m n : ℕ) → m < 2 ^ 32 → n < 2 ^ 32 → (value : ℤ) →
    value_of Rem (word_type signed) (read signed m) (read signed n) ≡ Some value →
    read signed (remainder_of signed m n) ≡ value
unfolding value_of
rem_value signed m n m_small n_small value found =
    by_test signed n (int_rem (read signed m) (read signed n)) value (remainder_of signed m n)
    (λ positive. remainder_congruent signed m n m_small n_small) (int_eq (read signed n) (pos 0)) refl
    found
