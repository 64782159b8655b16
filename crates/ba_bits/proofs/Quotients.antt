-- Quotients and remainders beside the meaning of word lists, for a divisor of 0 too.
use Rattle.std.proofs.Common.{◌≡◌, ℕ, ◌-◌, ◌%◌, ◌^◌, ◌<◌, ◌≤◌, Bool, true, false, cond, Option, None, Some, refl, sym, ◌∙◌, ap, arith, ℤ, pos, negsuc}
use Rattle.std.specs.Prelude.{int_lt, nat_le}
use Rattle.std.specs.Ordering.{int_eq}
use Rattle.std.specs.Prelude.{int_div, int_rem}
use Rattle.std.proofs.Math.Nat.{mod-zero}
use Rattle.std.proofs.lemmas.Bool.Decides.{nat_tests, Decides-int_eq}
use Rattle.std.proofs.lemmas.Bool.{le-ltb}
use Rattle.ba_bits.proofs.Low.{low-pos}
use Rattle.ba_nodes.specs.Gates.{bool_xor}
use Rattle.ba_numbers.specs.declared.numbers.BinOp.TheVariants.{Div, Rem}
use Rattle.ba_numbers.specs.declared.numbers.CType.{CType}
use Rattle.ba_numbers.specs.declared.numbers.CType.TheVariants.{I32}
use Rattle.ba_numbers.specs.Numbers.{converted_value, low_word, value_of}
use Rattle.ba_wordlist.specs.Meaning.{binary_value, value_at_zero, value_or}
use Rattle.ba_words.specs.Words.{word_type}
use Rattle.ba_words.proofs.Values.{low_word-read, read, read_high, read_low}
use Rattle.ba_muldiv.specs.Division.{negated_where, quotient_of, remainder_of}
use Rattle.ba_muldiv.proofs.Values.{div_value, rem_value}

-- WHERE THERE IS NO VALUE the divisor is 0

module _ (t : CType) (signed : Bool) (n : ℕ) (plain : ℤ) (small : n < 2 ^ 32) where
  pub divisor-zero : (b : Bool) → int_eq (read signed n) (pos 0) ≡ b
      → converted_value t (cond b None (Some plain)) ≡ None
      → n ≡ 0
  divisor-zero true is none = sym (low_word-read signed n small)
      ∙ ap low_word ((Decides-int_eq (read signed n) (pos 0)).0 is) ∙ low-pos 0 (omega arith)
  divisor-zero false is none = absurd (cc)

no-quotient : (signed : Bool) (m n : ℕ) → n < 2 ^ 32
    → value_of Div (word_type signed) (read signed m) (read signed n) ≡ None → n ≡ 0
unfolding value_of
no-quotient signed m n small none = divisor-zero (word_type signed) signed n
    (int_div (read signed m) (read signed n)) small
    (int_eq (read signed n) (pos 0)) refl none

no-remainder : (signed : Bool) (m n : ℕ) → n < 2 ^ 32
    → value_of Rem (word_type signed) (read signed m) (read signed n) ≡ None → n ≡ 0
unfolding value_of
no-remainder signed m n small none = divisor-zero (word_type signed) signed n
    (int_rem (read signed m) (read signed n)) small
    (int_eq (read signed n) (pos 0)) refl none

-- A DIVISOR OF 0

high : (m : ℕ) → nat_le (2 ^ 31) m ≡ true → 2 ^ 31 ≤ m
high m is = grind (arith, nat_tests)

low : (m : ℕ) → nat_le (2 ^ 31) m ≡ false → m < 2 ^ 31
low m is = grind (arith, nat_tests)

quotient-zero : (signed : Bool) (m : ℕ) → m < 2 ^ 32
    → quotient_of signed m 0 ≡ low_word (value_at_zero Div (word_type signed) (pos m))
quotient-zero false m small = refl
quotient-zero true m small = by_sign (nat_le (2 ^ 31) m) refl where
  by_sign : (b : Bool) → nat_le (2 ^ 31) m ≡ b
      → quotient_of true m 0 ≡ low_word (value_at_zero Div I32 (pos m))
  by_sign true is =
      ap (λ b. negated_where (bool_xor b false) 0xffffffff) is
      ∙ ap (λ z. low_word (cond (int_lt z (pos 0)) (pos 1) (negsuc 0))) (sym (read_high m (high m is) small))
  by_sign false is =
      ap (λ b. negated_where (bool_xor b false) 0xffffffff) is
      ∙ ap (λ b. low_word (cond b (pos 1) (negsuc 0))) (sym (le-ltb m 0 (omega arith)))
      ∙ ap (λ z. low_word (cond (int_lt z (pos 0)) (pos 1) (negsuc 0))) (sym (read_low m (low m is)))

turned-twice : (m : ℕ) → 2 ^ 31 ≤ m → m < 2 ^ 32 → (2 ^ 32 - (2 ^ 32 - m) % 2 ^ 32) % 2 ^ 32 ≡ m
turned-twice m above small = omega arith

remainder-zero : (signed : Bool) (m : ℕ) → m < 2 ^ 32 → remainder_of signed m 0 ≡ m
remainder-zero false m small = mod-zero m
remainder-zero true m small = by_sign (nat_le (2 ^ 31) m) refl where
  by_sign : (b : Bool) → nat_le (2 ^ 31) m ≡ b → remainder_of true m 0 ≡ m
  by_sign true is =
      ap (λ b. negated_where b (negated_where b m % 0)) is
      ∙ ap (λ r. (2 ^ 32 - r) % 2 ^ 32) (mod-zero ((2 ^ 32 - m) % 2 ^ 32)) ∙ turned-twice m (high m is) small
  by_sign false is = ap (λ b. negated_where b (negated_where b m % 0)) is ∙ mod-zero m

-- ALL DIVISORS

module _ (signed : Bool) (m n : ℕ) (m_small : m < 2 ^ 32) (n_small : n < 2 ^ 32) where
  abbrev other-quotient : Option ℤ → ℕ
  other-quotient o = low_word (value_or o (value_at_zero Div (word_type signed) (pos m)))

  abbrev other-remainder : Option ℤ → ℕ
  other-remainder o = low_word (value_or o (value_at_zero Rem (word_type signed) (pos m)))

  by-quotient : quotient_of signed m n < 2 ^ 32 → (o : Option ℤ)
      → value_of Div (word_type signed) (read signed m) (read signed n) ≡ o
      → quotient_of signed m n ≡ other-quotient o
  by-quotient small (Some v) is = sym (low_word-read signed (quotient_of signed m n) small)
      ∙ ap low_word (div_value signed m n m_small n_small v is)
  by-quotient small None is = ap (quotient_of signed m) (no-quotient signed m n n_small is)
      ∙ quotient-zero signed m m_small

  pub quotient-low : quotient_of signed m n < 2 ^ 32
      → quotient_of signed m n ≡ low_word (binary_value Div (word_type signed) (pos m) (pos n))
  quotient-low small = by-quotient small (value_of Div (word_type signed) (read signed m) (read signed n))
      refl

  by-remainder : remainder_of signed m n < 2 ^ 32 → (o : Option ℤ)
      → value_of Rem (word_type signed) (read signed m) (read signed n) ≡ o
      → remainder_of signed m n ≡ other-remainder o
  by-remainder small (Some v) is = sym (low_word-read signed (remainder_of signed m n) small)
      ∙ ap low_word (rem_value signed m n m_small n_small v is)
  by-remainder small None is = ap (remainder_of signed m) (no-remainder signed m n n_small is)
      ∙ remainder-zero signed m m_small ∙ sym (low_word-read signed m m_small)

  pub remainder-low : remainder_of signed m n < 2 ^ 32
      → remainder_of signed m n ≡ low_word (binary_value Rem (word_type signed) (pos m) (pos n))
  remainder-low small = by-remainder small (value_of Rem (word_type signed) (read signed m) (read signed n))
      refl
