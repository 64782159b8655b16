-- Numbers that choices give, indices, and divisors.
use Rattle.std.proofs.Common.{◌≡◌, ℕ, ◌+◌, ◌-◌, ◌%◌, ◌^◌, ◌<◌, ◌≤◌, ℤ, pos, negsuc, neg_ℤ, ◌+ℤ◌, ◌*ℤ◌, ◌≤ℤ◌, Bool, true, false, ◌&&◌, ◌||◌, List, length, get_or, refl, sym, ◌∙◌, ap, arith}
use Rattle.std.proofs.lemmas.Bool.{and_from, and_parts}
use Rattle.std.proofs.lemmas.Bool.Decides.{nat_tests}
use Rattle.std.proofs.lemmas.Int.{ints}
use native.Mathlib.Nat.{mod-eq_of_lt}
use Rattle.std.specs.Prelude.{int_le, int_lt, unsigned_abs}
use Rattle.ba_cells.proofs.Places.{read-within}
use Rattle.ba_cells.specs.Cells.{index_read}
use Rattle.ba_numbers.proofs.Conversions.{converted_congruent, converted_only, converted_own, truth_converted}
use Rattle.ba_numbers.specs.Numbers.{IsCongruent, converted, is_in, low_word, truth, value_of, width_of}
use Rattle.ba_numbers.specs.declared.numbers.BinOp.TheVariants.{Lt}
use Rattle.ba_numbers.specs.declared.numbers.CType.{CType}
use Rattle.ba_numbers.specs.declared.numbers.CType.TheVariants.{I8, U8, I16, U16, I32, U32}
use Rattle.ba_tree.specs.State.{is_index}
use Rattle.ba_wordlist.specs.Facts.{is_word_value}
use Rattle.ba_wordlist.specs.Meaning.{binary_value, element_read, is_nonzero}
use Rattle.ba_code.proofs.Ranges.{in-test}

-- RANGES

narrow_8 : (c z k : ℤ) → c ≡ z +ℤ k *ℤ pos 0x100000000 → z ≡ c +ℤ (neg_ℤ k *ℤ pos 0x1000000) *ℤ pos 0x100
narrow_8 c z k e = omega (arith, ints)

narrow_16 : (c z k : ℤ) → c ≡ z +ℤ k *ℤ pos 0x100000000 → z ≡ c +ℤ (neg_ℤ k *ℤ pos 0x10000) *ℤ pos 0x10000
narrow_16 c z k e = omega (arith, ints)

narrow_32 : (c z k : ℤ) → c ≡ z +ℤ k *ℤ pos 0x100000000 → z ≡ c +ℤ neg_ℤ k *ℤ pos 0x100000000
narrow_32 c z k e = omega (arith, ints)

near : (t : CType) (z : ℤ) → IsCongruent (2 ^ 32) (converted I32 z) z →
    IsCongruent (2 ^ width_of t) z (converted I32 z)
near I8 z e = record {
  turns = neg_ℤ e.turns *ℤ pos 0x1000000;
  apart = narrow_8 (converted I32 z) z e.turns
      e.apart;
}
near U8 z e = record {
  turns = neg_ℤ e.turns *ℤ pos 0x1000000;
  apart = narrow_8 (converted I32 z) z e.turns
      e.apart;
}
near I16 z e = record {
  turns = neg_ℤ e.turns *ℤ pos 0x10000;
  apart = narrow_16 (converted I32 z) z e.turns
      e.apart;
}
near U16 z e = record {
  turns = neg_ℤ e.turns *ℤ pos 0x10000;
  apart = narrow_16 (converted I32 z) z e.turns
      e.apart;
}
near I32 z e = record { turns = neg_ℤ e.turns; apart = narrow_32 (converted I32 z) z e.turns e.apart }
near U32 z e = record { turns = neg_ℤ e.turns; apart = narrow_32 (converted I32 z) z e.turns e.apart }

-- a free word can be each number of a type
pub free-converted : (t : CType) (z : ℤ) → is_in t z ≡ true → converted t (converted I32 z) ≡ z
free-converted t z h = sym (converted_only t z (converted I32 z) (in-test t z h) (near t z
    (converted_congruent I32 z)))

-- INDICES

least-first : (n : ℕ) → int_le (pos 0) (pos n) ≡ true
least-first n = grind (arith, nat_tests)

-- a number in a word's range from 0 on is in the range of U32
pub own-pos : (n : ℕ) → is_word_value (pos n) ≡ true → n < 2 ^ 32
own-pos n h = at (is_in I32 (pos n)) (is_in U32 (pos n)) refl refl h where
  at : (a b : Bool) → is_in I32 (pos n) ≡ a → is_in U32 (pos n) ≡ b → (a || b) ≡ true → n < 2 ^ 32
  at true b ea eb h =
      let high : pos n ≤ℤ pos 0x7fffffff = (in-test I32 (pos n) ea).high in omega (arith, ints)
  at false true ea eb h =
      let high : pos n ≤ℤ pos 0xffffffff = (in-test U32 (pos n) eb).high in omega (arith, ints)
  at false false ea eb h = absurd (cc)

pub own-neg : (n : ℕ) → is_word_value (negsuc n) ≡ true → n < 2 ^ 31
own-neg n h = at (is_in I32 (negsuc n)) (is_in U32 (negsuc n)) refl refl h where
  at : (a b : Bool) → is_in I32 (negsuc n) ≡ a → is_in U32 (negsuc n) ≡ b → (a || b) ≡ true → n < 2 ^ 31
  at true b ea eb h =
      let low : negsuc 0x7fffffff ≤ℤ negsuc n = (in-test I32 (negsuc n) ea).low in omega (arith, ints)
  at false true ea eb h =
      let low : pos 0 ≤ℤ negsuc n = (in-test U32 (negsuc n) eb).low in absurd (omega (arith, ints))
  at false false ea eb h = absurd (cc)

converted-pos : (n : ℕ) → n < 2 ^ 32 → converted U32 (pos n) ≡ pos n
converted-pos n small = converted_own U32 (pos n) (record {
  low = omega (arith, ints);
  high = omega (
    arith,
    ints,
  );
})

converted-neg : (n m : ℕ) → m + n + 1 ≡ 2 ^ 32 → converted U32 (negsuc n) ≡ pos m
converted-neg n m sum = sym (converted_only U32 (pos m) (negsuc n)
    (record { low = omega (arith, ints); high = omega (arith, ints) })
    (record { turns = pos 1; apart = omega (arith, ints) }))

less-value : (x y : ℤ) (b : Bool) → int_lt (converted U32 x) (converted U32 y) ≡ b
    → is_nonzero (binary_value Lt U32 x y) ≡ b
unfolding value_of
less-value x y true h =
    ap (λ b. is_nonzero (converted U32 (truth b))) h ∙ ap is_nonzero (truth_converted U32 true)
less-value x y false h =
    ap (λ b. is_nonzero (converted U32 (truth b))) h ∙ ap is_nonzero (truth_converted U32 false)

pub index-test : (count : ℕ) (i : ℤ) → is_word_value i ≡ true → count ≤ 256
    → is_index count i ≡ is_nonzero (binary_value Lt U32 i (pos count))
index-test count (pos n) h few =
    let small = own-pos n h in
    ap (λ b. b && int_lt (pos n) (pos count)) (least-first n)
    ∙ sym (less-value (pos n) (pos count) (int_lt (pos n) (pos count))
    (ap (λ x. int_lt x (converted U32 (pos count))) (converted-pos n small)
    ∙ ap (λ y. int_lt (pos n) y) (converted-pos count (omega (arith, few)))))
index-test count (negsuc n) h few =
    let small = own-neg n h in
    let m : ℕ = 4294967295 - n in
    let sum : (4294967295 - n) + n + 1 ≡ 2 ^ 32 = omega (arith, small) in
    sym (less-value (negsuc n) (pos count) false
    (ap (λ x. int_lt x (converted U32 (pos count))) (converted-neg n (4294967295 - n) sum)
    ∙ ap (λ y. int_lt (pos (4294967295 - n)) y) (converted-pos count (omega (arith, few)))
    ∙ (let far : int_lt (pos (4294967295 - n)) (pos count) ≡ false = grind (arith, nat_tests, small, few)
    in far)))

-- an index in an array is the number of its low bits
pub low-index : (count : ℕ) (i : ℤ) → is_index count i ≡ true → count ≤ 256
    → (low_word i ≡ unsigned_abs i) × (unsigned_abs i < count)
low-index count (pos n) h few =
    let both = and_parts (int_le (pos 0) (pos n)) (int_lt (pos n) (pos count)) h in
    let below : n < count = grind (arith, nat_tests, both.1) in
    let e : n % 0x100000000 ≡ n = mod-eq_of_lt (omega (arith, below, few)) in
    (e, below)
low-index count (negsuc n) h few = absurd (cc)

-- an index in an array of at most 256 elements is a byte
pub index-byte : (count : ℕ) (i : ℤ) → is_index count i ≡ true → count ≤ 256 → is_in U8 i ≡ true
index-byte count (pos n) h few =
    let both = and_parts (int_le (pos 0) (pos n)) (int_lt (pos n) (pos count)) h in
    let below : n < count = grind (arith, nat_tests, both.1) in
    and_from (int_le (pos 0) (pos n)) (int_le (pos n) (pos 255)) both.0
    (let small : int_le (pos n) (pos 255) ≡ true = grind (arith, nat_tests, below, few) in small)
index-byte count (negsuc n) h few = absurd (cc)

pub read-index : (zs : List ℤ) (i : ℤ) → is_index (length zs) i ≡ true → length zs ≤ 256
    → element_read zs i ≡ get_or zs (unsigned_abs i) (pos 0)
read-index zs i h few =
    let low = low-index (length zs) i h few in
    let small : low_word i % 256 ≡ low_word i = mod-eq_of_lt (omega (arith, low.0, low.1, few)) in
    ap (λ k. get_or zs (index_read (length zs) k) (pos 0)) (small ∙ low.0)
    ∙ ap (λ k. get_or zs k (pos 0)) (read-within (length zs) (unsigned_abs i) low.1)
