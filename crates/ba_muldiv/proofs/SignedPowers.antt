-- Divisions of signed numbers by powers of two and their opposites.

use Rattle.std.proofs.Common.{
  ◌≡◌,
  ℕ,
  zero,
  suc,
  ◌+◌,
  ◌-◌,
  ◌*◌,
  ◌/◌,
  ◌%◌,
  ◌^◌,
  ◌<◌,
  ◌≤◌,
  Bool,
  true,
  false,
  not,
  nat_lt,
  ◌&&◌,
  inl,
  inr,
  refl,
  sym,
  ap,
  ◌∙◌,
  arith,
  div-le_self,
  if◌then◌else◌,
}
use Rattle.std.proofs.Math.Nat.{mul-suc}
use Rattle.std.proofs.lemmas.Bool.{cases_lt}
use Rattle.std.proofs.lemmas.Nat.{
  div-add-mod',
  div-mul-add,
  mod-mul-add,
  mod_below,
  pow_pos,
  pow_below,
  div_below,
  le-div,
}
use Rattle.ba_words.specs.Words.{digit, shifted_down}
use Rattle.ba_words.proofs.Digits.{digit_small}
use Rattle.ba_words.proofs.Places.{power_more}
use Rattle.ba_words.proofs.Values.{spread, powers}
use Rattle.ba_muldiv.specs.Division.{
  is_negative,
  negated_where,
  magnitude,
  signed_power,
  quotient_of,
  remainder_of,
  has_negative_remainder,
  shifted_sum,
}
use Rattle.ba_muldiv.proofs.Steps.{le_true, le_false, double_twice, power_most, some_true}
use Rattle.ba_muldiv.proofs.Values.{quotient_parts, remainder_parts}

-- ---- powers

next_power : (k : ℕ) → k < 32 → 2 ^ (32 - k) ≡ 2 * 2 ^ (31 - k)
next_power k few =
    let next : 31 - k + 1 ≡ 32 - k = omega arith in
    sym (ap (λ n. 2 ^ n) next) ∙ power_more (31 - k)

half_power : (k : ℕ) → k < 32 → 2 ^ (31 - k) * 2 ^ k ≡ 2 ^ 31
half_power k few =
    let whole : 2 * 2 ^ (31 - k) * 2 ^ k ≡ 0x100000000 =
    sym (ap (λ n. n * 2 ^ k) (next_power k few)) ∙ powers k (omega arith) in
    omega (arith, double_twice (2 ^ (31 - k)) (2 ^ k))

pub positive_sign : (k : ℕ) → k < 31 → is_negative true (signed_power false k) ≡ false
positive_sign k few = le_false (2 ^ 31) (2 ^ k) (pow_below k 31 few)

power_low : (k : ℕ) → k < 32 → 2 ^ k ≤ 2 ^ 31
power_low k few = elim (cases_lt k 31) [
  | inl below ↦ omega (arith, pow_below k 31 below)
  | inr above ↦
      let is : k ≡ 31 = omega arith in
      omega (arith, ap (λ n. 2 ^ n) is)
]

negative_is : (k : ℕ) → k < 32 → signed_power true k ≡ 2 ^ 32 - 2 ^ k
negative_is k few = omega (arith, pow_pos k, power_low k few)

pub negative_sign : (k : ℕ) → k < 32 → is_negative true (signed_power true k) ≡ true
negative_sign k few =
    let is = negative_is k few in
    le_true (2 ^ 31) (signed_power true k) (omega (arith, is, power_low k few))

opposite_twice : (p : ℕ) → 0 < p → p ≤ 2 ^ 31 → (2 ^ 32 - (2 ^ 32 - p) % 2 ^ 32) % 2 ^ 32 ≡ p
opposite_twice p positive small = omega arith

-- ---- the opposite and the complement of a number, divided

module _ (p z q r m : ℕ) (whole : z * p ≡ 2 ^ 32) (is : m ≡ q * p + r) (small : r < p) (below : q < z) where
  more_by_one : (q + 1) * p ≡ q * p + p
  more_by_one = grind arith

  parts : (z - q - 1) * p + (q + 1) * p ≡ z * p
  parts = spread (z - q - 1) (q + 1) z p (omega arith)

  complement_div : (2 ^ 32 - 1 - m) / p ≡ z - q - 1
  complement_div =
      let split : 2 ^ 32 - 1 - m ≡ (z - q - 1) * p + (p - 1 - r) = omega (arith, more_by_one, parts) in
      ap (λ n. n / p) split ∙ div-mul-add (z - q - 1) p (p - 1 - r) (omega arith)

opposite_parts : (p z q r m : ℕ) → z * p ≡ 2 ^ 32 → m ≡ q * p + r → r < p → q < z
    → ((2 ^ 32 - m) / p ≡ z - q - digit (nat_lt 0 r)) × ((2 ^ 32 - m) % p ≡ (if nat_lt 0 r then p - r else 0))
opposite_parts p z q zero m whole is small below =
    let parts : (z - q) * p + q * p ≡ z * p = spread (z - q) q z p (omega arith) in
    let split : 2 ^ 32 - m ≡ (z - q) * p + 0 = omega arith in
    let plain : z - q ≡ z - q - 0 = omega arith in (
      ap (λ n. n / p) split ∙ div-mul-add (z - q) p 0 small ∙ plain,
      ap (λ n. n % p) split ∙ mod-mul-add (z - q) p 0 small,
    )
opposite_parts p z q (suc r) m whole is small below =
    let more = more_by_one p z q (suc r) m whole is small below in
    let all = parts p z q (suc r) m whole is small below in
    let split : 2 ^ 32 - m ≡ (z - q - 1) * p + (p - suc r) = omega (arith, more, all) in
    let some = some_true (suc r) (omega arith) in
    let left : p - suc r < p = omega arith in (
      ap (λ n. n / p) split ∙ div-mul-add (z - q - 1) p (p - suc r) left
          ∙ sym (ap (λ t. z - q - digit t) some),
      ap (λ n. n % p) split ∙ mod-mul-add (z - q - 1) p (p - suc r) left
          ∙ sym (ap (λ t. if t then p - suc r else 0) some),
    )

-- ---- the quotient of a number by a power, from the number moved down

module _ (k m : ℕ) (few : k < 32) (small : m < 2 ^ 32) where
  left : m ≡ m / 2 ^ k * 2 ^ k + m % 2 ^ k
  left = sym (div-add-mod' m (2 ^ k))

  left_small : m % 2 ^ k < 2 ^ k
  left_small = mod_below m (2 ^ k) (pow_pos k)

  quotient_small : m / 2 ^ k < 2 ^ (32 - k)
  quotient_small = div_below m (2 ^ k) (2 ^ (32 - k)) (pow_pos k) (omega (arith, powers k (omega arith)))

  opposite_of : ((2 ^ 32 - m) / 2 ^ k ≡ 2 ^ (32 - k) - m / 2 ^ k - digit (nat_lt 0 (m % 2 ^ k)))
      × ((2 ^ 32 - m) % 2 ^ k ≡ (if nat_lt 0 (m % 2 ^ k) then 2 ^ k - m % 2 ^ k else 0))
  opposite_of = opposite_parts (2 ^ k) (2 ^ (32 - k)) (m / 2 ^ k) (m % 2 ^ k) m (powers k (omega arith))
      left left_small quotient_small

  complement_of : (2 ^ 32 - 1 - m) / 2 ^ k ≡ 2 ^ (32 - k) - m / 2 ^ k - 1
  complement_of = complement_div (2 ^ k) (2 ^ (32 - k)) (m / 2 ^ k) (m % 2 ^ k) m (powers k (omega arith))
      left left_small quotient_small

  places_small : 2 ^ (32 - k) ≤ 2 ^ 32
  places_small = power_most (32 - k) (omega arith)

opposite_high : (m : ℕ) → 2 ^ 31 ≤ m → m < 2 ^ 32 → (2 ^ 32 - m) % 2 ^ 32 ≡ 2 ^ 32 - m
opposite_high m high small = omega arith

low_by_positive : (q z : ℕ) → q < 2 ^ 32 → (q + 0 * (2 ^ 32 - z) + 0) % 2 ^ 32 ≡ q
low_by_positive q z small = omega arith

high_by_positive : (q z a : ℕ) (some : Bool) → q < z → z ≤ 2 ^ 32 → a ≡ z - q - digit some
    → (q + 1 * (2 ^ 32 - z) + digit some) % 2 ^ 32 ≡ (2 ^ 32 - a) % 2 ^ 32
high_by_positive q z a true below small is = omega arith
high_by_positive q z a false below small is = omega arith

low_by_negative : (q z b : ℕ) → q < z → z ≤ 2 ^ 32 → b ≡ z - q - 1
    → (b + 1 * (2 ^ 32 - z) + 1) % 2 ^ 32 ≡ (2 ^ 32 - q) % 2 ^ 32
low_by_negative q z b below small is = omega arith

high_by_negative : (q z a b : ℕ) (some : Bool) → q < z → a < 2 ^ 32 → a ≡ z - q - digit some
    → b ≡ z - q - 1 → (b + 0 * (2 ^ 32 - z) + digit (not some)) % 2 ^ 32 ≡ a
high_by_negative q z a b true below small a_is b_is = omega arith
high_by_negative q z a b false below small a_is b_is = omega arith

pub by_positive : (k m : ℕ) → k < 31 → m < 2 ^ 32
    → shifted_sum m k (has_negative_remainder m k) ≡ quotient_of true m (signed_power false k)
by_positive k m few small = elim (cases_lt m (2 ^ 31)) [
  | inl low ↦
      let sign = le_false (2 ^ 31) m low in
      ap (λ t. (shifted_down m t k + digit (t && nat_lt 0 (m % 2 ^ k))) % 2 ^ 32) sign
      ∙ low_by_positive (m / 2 ^ k) (2 ^ (32 - k)) (omega (arith, div-le_self m (2 ^ k)))
      ∙ sym (quotient_parts true m (2 ^ k) false false m (2 ^ k) sign (positive_sign k few) refl refl
      (pow_pos k))
  | inr high ↦
      let sign = le_true (2 ^ 31) m high in
      let at : k < 32 = omega arith in
      ap (λ t. (shifted_down m t k + digit (t && nat_lt 0 (m % 2 ^ k))) % 2 ^ 32) sign
      ∙ high_by_positive (m / 2 ^ k) (2 ^ (32 - k)) ((2 ^ 32 - m) / 2 ^ k) (nat_lt 0 (m % 2 ^ k))
      (quotient_small k m at small) (places_small k m at small) ((opposite_of k m at small).0)
      ∙ sym (quotient_parts true m (2 ^ k) true false (2 ^ 32 - m) (2 ^ k) sign (positive_sign k few)
      (opposite_high m high small) refl (pow_pos k))
]

negative_size : (k : ℕ) → k < 32 → negated_where true (signed_power true k) ≡ 2 ^ k
negative_size k few = opposite_twice (2 ^ k) (pow_pos k) (power_low k few)

pub by_negative : (k m f : ℕ) → k < 32 → f + m + 1 ≡ 2 ^ 32
    → shifted_sum f k (not (has_negative_remainder m k)) ≡ quotient_of true m (signed_power true k)
by_negative k m f few whole =
    let small : m < 2 ^ 32 = omega arith in
    let f_is : f ≡ 2 ^ 32 - 1 - m = omega arith in
    let moved_is : f / 2 ^ k ≡ 2 ^ (32 - k) - m / 2 ^ k - 1 =
    ap (λ n. n / 2 ^ k) f_is ∙ complement_of k m few small in
    elim (cases_lt m (2 ^ 31)) [
      | inl low ↦
          let sign = le_false (2 ^ 31) m low in
          let turned = le_true (2 ^ 31) f (omega arith) in
          (λ i. (shifted_down f (turned i) k + digit (not (sign i && nat_lt 0 (m % 2 ^ k)))) % 2 ^ 32)
          ∙ low_by_negative (m / 2 ^ k) (2 ^ (32 - k)) (f / 2 ^ k) (quotient_small k m few small)
          (places_small k m few small) moved_is
          ∙ sym (quotient_parts true m (signed_power true k) false true m (2 ^ k) sign
          (negative_sign k few) refl (negative_size k few) (pow_pos k))
      | inr high ↦
          let sign = le_true (2 ^ 31) m high in
          let turned = le_false (2 ^ 31) f (omega arith) in
          let least : (2 ^ 32 - m) / 2 ^ k < 2 ^ 32 = omega (arith, div-le_self (2 ^ 32 - m) (2 ^ k)) in
          (λ i. (shifted_down f (turned i) k + digit (not (sign i && nat_lt 0 (m % 2 ^ k)))) % 2 ^ 32)
          ∙ high_by_negative (m / 2 ^ k) (2 ^ (32 - k)) ((2 ^ 32 - m) / 2 ^ k) (f / 2 ^ k)
          (nat_lt 0 (m % 2 ^ k)) (quotient_small k m few small) least ((opposite_of k m few small).0) moved_is
          ∙ sym (quotient_parts true m (signed_power true k) true true (2 ^ 32 - m) (2 ^ k) sign
          (negative_sign k few) (opposite_high m high small) (negative_size k few) (pow_pos k))
    ]

-- ---- the remainder, from the low places

-- what a power and its opposite have in common
power_size : (negative : Bool) (k : ℕ) → k < 32 → (negative ≡ false → k < 31)
    → magnitude true (signed_power negative k) ≡ 2 ^ k
power_size true k few fits =
    ap (λ t. negated_where t (signed_power true k)) (negative_sign k few) ∙ negative_size k few
power_size false k few fits = ap (λ t. negated_where t (2 ^ k)) (positive_sign k (fits refl))

high_left : (r l p : ℕ) → l < p → p ≤ 2 ^ 31 → r + digit (nat_lt 0 l) * p ≡ l + digit (nat_lt 0 l) * 2 ^ 32
    → r ≡ (2 ^ 32 - (if nat_lt 0 l then p - l else 0)) % 2 ^ 32
high_left r zero p below small is = omega arith
high_left r (suc l) p below small is =
    let some = some_true (suc l) (omega arith) in
    let plain : r + 1 * p ≡ suc l + 1 * 2 ^ 32 =
    sym (ap (λ t. r + digit t * p) some) ∙ is ∙ ap (λ t. suc l + digit t * 2 ^ 32) some in
    let less : r ≡ (2 ^ 32 - (p - suc l)) % 2 ^ 32 = omega (arith, plain) in
    less ∙ sym (ap (λ t. (2 ^ 32 - (if t then p - suc l else 0)) % 2 ^ 32) some)

pub remainder_by : (negative : Bool) (k m r : ℕ) → k < 32 → (negative ≡ false → k < 31) → m < 2 ^ 32
    → r + digit (has_negative_remainder m k) * 2 ^ k ≡ m % 2 ^ k + digit (has_negative_remainder m k) * 2 ^ 32
    → r ≡ remainder_of true m (signed_power negative k)
remainder_by negative k m r few fits small is = elim (cases_lt m (2 ^ 31)) [
  | inl low ↦
      let sign = le_false (2 ^ 31) m low in
      let plain : r + 0 * 2 ^ k ≡ m % 2 ^ k + 0 * 2 ^ 32 =
      sym (ap (λ t. r + digit (t && nat_lt 0 (m % 2 ^ k)) * 2 ^ k) sign) ∙ is
      ∙ ap (λ t. m % 2 ^ k + digit (t && nat_lt 0 (m % 2 ^ k)) * 2 ^ 32) sign in
      omega (arith, plain)
      ∙ sym (remainder_parts true m (signed_power negative k) false
      (is_negative true (signed_power negative k)) m (2 ^ k) sign refl refl (power_size negative k few fits))
  | inr high ↦
      let sign = le_true (2 ^ 31) m high in
      let some = nat_lt 0 (m % 2 ^ k) in
      let plain : r + digit some * 2 ^ k ≡ m % 2 ^ k + digit some * 2 ^ 32 =
      sym (ap (λ t. r + digit (t && some) * 2 ^ k) sign) ∙ is
      ∙ ap (λ t. m % 2 ^ k + digit (t && some) * 2 ^ 32) sign in
      high_left r (m % 2 ^ k) (2 ^ k) (left_small k m few small) (power_low k few) plain
      ∙ sym (ap (λ n. (2 ^ 32 - n) % 2 ^ 32) ((opposite_of k m few small).1))
      ∙ sym (remainder_parts true m (signed_power negative k) true
      (is_negative true (signed_power negative k)) (2 ^ 32 - m) (2 ^ k) sign refl
      (opposite_high m high small) (power_size negative k few fits))
]

-- ---- the places of the sum, with the sign above them

module _ (p u e s low l r : ℕ) (carry : Bool) (positive : 0 < p) (few : 2 * p ≤ 2 ^ 32) (width : u < 2 * p)
    (one : e ≤ 1)
    (sum : s + 2 ^ 32 * digit carry ≡ u + 0 + e) (small : l < p) where
  high_sum : (top : Bool) (h : ℕ) → s ≡ low + 2 * p * h → low ≡ l + p * digit top → p ≤ u
      → r + digit top * (2 * p) ≡ low + digit top * 2 ^ 32 → r ≡ (u + 1 * (2 ^ 32 - 2 * p) + e) % 2 ^ 32
  high_sum true zero split is above filled = omega (arith, digit_small carry)
  high_sum false zero split is above filled = omega (arith, digit_small carry)
  high_sum true (suc h) split is above filled =
      let more : 2 * p * suc h ≡ 2 * p * h + 2 * p = mul-suc (2 * p) h in
      absurd (omega (arith, digit_small carry))
  high_sum false (suc h) split is above filled =
      let more : 2 * p * suc h ≡ 2 * p * h + 2 * p = mul-suc (2 * p) h in
      omega (arith, digit_small carry)

  low_sum : (h : ℕ) → s ≡ low + 2 * p * h → u < p → r + 0 * (2 * p) ≡ low + 0 * 2 ^ 32
      → r ≡ (u + 0 * (2 ^ 32 - 2 * p) + e) % 2 ^ 32
  low_sum zero split below filled = omega (arith, digit_small carry)
  low_sum (suc h) split below filled =
      let more : 2 * p * suc h ≡ 2 * p * h + 2 * p = mul-suc (2 * p) h in
      omega (arith, digit_small carry)

-- a number moved down is below half of what is left of 32 places, if it is not negative
module _ (k m : ℕ) (few : k < 32) (small : m < 2 ^ 32) where
  moved_high : 2 ^ 31 ≤ m → 2 ^ (31 - k) ≤ m / 2 ^ k
  moved_high high = le-div (2 ^ (31 - k)) m (2 ^ k) (pow_pos k) (omega (arith, half_power k few))

  moved_low : m < 2 ^ 31 → m / 2 ^ k < 2 ^ (31 - k)
  moved_low low = div_below m (2 ^ k) (2 ^ (31 - k)) (pow_pos k) (omega (arith, half_power k few))

pub sum_of_places : (k m e s low l h r : ℕ) (carry top : Bool) → k < 32 → m < 2 ^ 32 → e ≤ 1
    → s + 2 ^ 32 * digit carry ≡ m / 2 ^ k + 0 + e → s ≡ low + 2 ^ (32 - k) * h
    → low ≡ l + 2 ^ (31 - k) * digit top → l < 2 ^ (31 - k)
    → r + digit (is_negative true m && top) * 2 ^ (32 - k) ≡ low + digit (is_negative true m && top) * 2 ^ 32
    → r ≡ (shifted_down m (is_negative true m) k + e) % 2 ^ 32
sum_of_places k m e s low l h r carry top few small one sum split is l_small filled =
    let double = next_power k few in
    let p = 2 ^ (31 - k) in
    let parts : s ≡ low + 2 * p * h = split ∙ ap (λ n. low + n * h) double in
    let width : m / 2 ^ k < 2 * p = omega (arith, quotient_small k m few small, double) in
    let most : 2 * p ≤ 2 ^ 32 = omega (arith, places_small k m few small, double) in
    elim (cases_lt m (2 ^ 31)) [
      | inl below ↦
          let sign = le_false (2 ^ 31) m below in
          let plain : r + 0 * (2 * p) ≡ low + 0 * 2 ^ 32 =
          sym (λ i. r + digit (sign i && top) * double i) ∙ filled
          ∙ ap (λ t. low + digit (t && top) * 2 ^ 32) sign in
          low_sum p (m / 2 ^ k) e s low l r carry (pow_pos (31 - k)) most width one sum l_small h parts
          (moved_low k m few small below) plain
          ∙ sym (λ i. (m / 2 ^ k + digit (sign i) * (2 ^ 32 - double i) + e) % 2 ^ 32)
      | inr above ↦
          let sign = le_true (2 ^ 31) m above in
          let plain : r + digit top * (2 * p) ≡ low + digit top * 2 ^ 32 =
          sym (λ i. r + digit (sign i && top) * double i) ∙ filled
          ∙ ap (λ t. low + digit (t && top) * 2 ^ 32) sign in
          high_sum p (m / 2 ^ k) e s low l r carry (pow_pos (31 - k)) most width one sum l_small top h
          parts is (moved_high k m few small above) plain
          ∙ sym (λ i. (m / 2 ^ k + digit (sign i) * (2 ^ 32 - double i) + e) % 2 ^ 32)
    ]
