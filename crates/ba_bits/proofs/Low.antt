-- The 32 low bits of numbers of C, and what depends on them alone.
use Rattle.std.proofs.Common.{◌≡◌, ℕ, ◌^◌, ◌<◌, nat_lt, Bool, true, false, not, refl, sym, ◌∙◌, ap, arith, ℤ, pos, negsuc, neg_ℤ, ◌+ℤ◌, ◌-ℤ◌, ◌*ℤ◌, ◌≤ℤ◌, unsigned_abs}
use Rattle.std.specs.Int.{int_rem_euclid}
use Rattle.std.specs.Ordering.{int_eq}
use Rattle.std.proofs.lemmas.Int.{ints}
use Rattle.std.proofs.lemmas.Bool.Decides.{nat_tests, Decides-int_eq}
use Rattle.ba_numbers.specs.declared.numbers.CType.{CType}
use Rattle.ba_numbers.specs.declared.numbers.CType.TheVariants.{I8, U8, I16, U16, I32, U32}
use Rattle.ba_numbers.specs.Numbers.{IsCongruent, converted, low_word, truth as number_of_truth}
use Rattle.ba_numbers.proofs.Conversions.{converted_in_range, converted_congruent, converted_only}
use Rattle.ba_wordlist.specs.Meaning.{is_nonzero}
use Rattle.ba_words.specs.Words.{digit, word_type}
use Rattle.ba_words.proofs.Values.{low_word-read, read_unsigned, through}

own-abs : (z : ℤ) → pos 0 ≤ℤ z → pos (unsigned_abs z) ≡ z
own-abs (pos n) h = refl
own-abs (negsuc n) h = absurd (omega (arith, ints))

pub pos-low : (z : ℤ) → pos (low_word z) ≡ converted U32 z
unfolding converted
pos-low z = own-abs (int_rem_euclid z (pos 0x100000000)) (converted_in_range U32 z).low

bounded : (n : ℕ) (u : ℤ) → pos n ≡ u → u ≤ℤ pos 0xffffffff → n < 2 ^ 32
bounded n u e h = omega (arith, ints)

pub low-small : (z : ℤ) → low_word z < 2 ^ 32
low-small z = bounded (low_word z) (converted U32 z) (pos-low z) (converted_in_range U32 z).high

pub low-pos : (n : ℕ) → n < 2 ^ 32 → low_word (pos n) ≡ n
low-pos n small = ap low_word (sym (read_unsigned n small)) ∙ low_word-read false n small

between : (u y z k j : ℤ) → u ≡ y +ℤ k *ℤ pos 0x100000000 → u ≡ z +ℤ j *ℤ pos 0x100000000
    → y ≡ z +ℤ (j -ℤ k) *ℤ pos 0x100000000
between u y z k j e f = omega (arith, ints)

-- numbers with the same low bits differ by a multiple of 2^32
pub congruent-low : (y z : ℤ) → low_word y ≡ low_word z → IsCongruent 0x100000000 y z
congruent-low y z e =
    let a = converted_congruent U32 y in
    let b = converted_congruent U32 z in
    let same : converted U32 y ≡ converted U32 z = sym (pos-low y) ∙ ap pos e ∙ pos-low z in
    record {
      turns = b.turns -ℤ a.turns;
      apart = between (converted U32 y) y z a.turns b.turns a.apart (same
          ∙ b.apart);
    }

of-bytes : (u y z k j : ℤ) → u ≡ y +ℤ k *ℤ pos 0x100 → y ≡ z +ℤ j *ℤ pos 0x100000000
    → u ≡ z +ℤ (k +ℤ j *ℤ pos 0x1000000) *ℤ pos 0x100
of-bytes u y z k j e f = omega (arith, ints)

of-halves : (u y z k j : ℤ) → u ≡ y +ℤ k *ℤ pos 0x10000 → y ≡ z +ℤ j *ℤ pos 0x100000000
    → u ≡ z +ℤ (k +ℤ j *ℤ pos 0x10000) *ℤ pos 0x10000
of-halves u y z k j e f = omega (arith, ints)

by-bytes : (t : CType) (y z : ℤ) (a : IsCongruent 0x100 (converted t y) y) (b : IsCongruent 0x100000000 y z)
    → IsCongruent 0x100 (converted t y) z
by-bytes t y z a b = record {
  turns = a.turns +ℤ b.turns *ℤ pos 0x1000000;
  apart = of-bytes (converted t y) y z a.turns b.turns a.apart b.apart;
}

by-halves : (t : CType) (y z : ℤ) (a : IsCongruent 0x10000 (converted t y) y)
    (b : IsCongruent 0x100000000 y z)
    → IsCongruent 0x10000 (converted t y) z
by-halves t y z a b = record {
  turns = a.turns +ℤ b.turns *ℤ pos 0x10000;
  apart = of-halves (converted t y) y z a.turns b.turns a.apart b.apart;
}

by-words : (t : CType) (y z : ℤ) (a : IsCongruent 0x100000000 (converted t y) y)
    (b : IsCongruent 0x100000000 y z)
    → IsCongruent 0x100000000 (converted t y) z
by-words t y z a b = record {
  turns = a.turns +ℤ b.turns;
  apart = through (converted t y) y z a.turns b.turns a.apart b.apart;
}

-- conversions see the low bits alone
pub converted-low : (t : CType) (y z : ℤ) → low_word y ≡ low_word z → converted t y ≡ converted t z
converted-low I8 y z e = converted_only I8 (converted I8 y) z (converted_in_range I8 y)
    (by-bytes I8 y z (converted_congruent I8 y) (congruent-low y z e))
converted-low U8 y z e = converted_only U8 (converted U8 y) z (converted_in_range U8 y)
    (by-bytes U8 y z (converted_congruent U8 y) (congruent-low y z e))
converted-low I16 y z e = converted_only I16 (converted I16 y) z (converted_in_range I16 y)
    (by-halves I16 y z (converted_congruent I16 y) (congruent-low y z e))
converted-low U16 y z e = converted_only U16 (converted U16 y) z (converted_in_range U16 y)
    (by-halves U16 y z (converted_congruent U16 y) (congruent-low y z e))
converted-low I32 y z e = converted_only I32 (converted I32 y) z (converted_in_range I32 y)
    (by-words I32 y z (converted_congruent I32 y) (congruent-low y z e))
converted-low U32 y z e = converted_only U32 (converted U32 y) z (converted_in_range U32 y)
    (by-words U32 y z (converted_congruent U32 y) (congruent-low y z e))

-- a number stands for its low bits
pub converted-word : (t : CType) (z : ℤ) → converted t (pos (low_word z)) ≡ converted t z
converted-word t z = converted-low t (pos (low_word z)) z (low-pos (low_word z) (low-small z))

-- a conversion to a type of 32 bits keeps the low bits
pub low-converted : (signed : Bool) (z : ℤ) → low_word (converted (word_type signed) z) ≡ low_word z
low-converted signed z =
    ap low_word (sym (converted-word (word_type signed) z)) ∙ low_word-read signed (low_word z) (low-small z)

pub low-truth : (b : Bool) → low_word (number_of_truth b) ≡ digit b
low-truth true = low-pos 1 (omega arith)
low-truth false = low-pos 0 (omega arith)

-- WHETHER A NUMBER IS 0

none : (n : ℕ) → n ≡ 0 → nat_lt 0 n ≡ false
none n e = grind (arith, nat_tests)

some : (n : ℕ) → (n ≡ 0 → ⊥) → nat_lt 0 n ≡ true
some n differs = grind (arith, nat_tests)

pub nonzero-test : (z : ℤ) (n : ℕ) → (z ≡ pos 0 → n ≡ 0) → (n ≡ 0 → z ≡ pos 0) → is_nonzero z ≡ nat_lt 0 n
nonzero-test z n to from = by_case (int_eq z (pos 0)) refl where
  by_case : (t : Bool) → int_eq z (pos 0) ≡ t → is_nonzero z ≡ nat_lt 0 n
  by_case true is = ap not is ∙ sym (none n (to ((Decides-int_eq z (pos 0)).0 is)))
  by_case false is = ap not is ∙ sym (some n (λ e.
      let found : int_eq z (pos 0) ≡ true = (Decides-int_eq z (pos 0)).1 (from e) in absurd (cc)))

same-pos : (n : ℕ) → pos n ≡ pos 0 → n ≡ 0
same-pos n e = omega (arith, ints)

pub nonzero-pos : (n : ℕ) → is_nonzero (pos n) ≡ nat_lt 0 n
nonzero-pos n = nonzero-test (pos n) n (same-pos n) (ap pos)

only-zero : (n : ℕ) (u z k : ℤ) → pos n ≡ u → u ≡ z +ℤ k *ℤ pos 0x100000000 → neg_ℤ (pos 0x80000000) ≤ℤ z
    → z ≤ℤ pos 0xffffffff → n ≡ 0 → z ≡ pos 0
only-zero n u z k e f low high zero = omega (arith, ints)

-- of a number in the range of I32 or of U32
pub nonzero-low : (z : ℤ) → neg_ℤ (pos 0x80000000) ≤ℤ z → z ≤ℤ pos 0xffffffff
    → is_nonzero z ≡ nat_lt 0 (low_word z)
nonzero-low z low high =
    let a = converted_congruent U32 z in
    nonzero-test z (low_word z) (λ e. ap low_word e ∙ low-pos 0 (omega arith))
    (only-zero (low_word z) (converted U32 z) z a.turns (pos-low z) a.apart low high)

some-digit : (b : Bool) → nat_lt 0 (digit b) ≡ b
some-digit true = refl
some-digit false = refl

pub nonzero-digit : (n : ℕ) (b : Bool) → n ≡ digit b → is_nonzero (pos n) ≡ b
nonzero-digit n b is = nonzero-pos n ∙ ap (nat_lt 0) is ∙ some-digit b
