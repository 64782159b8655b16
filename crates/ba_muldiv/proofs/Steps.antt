-- The steps of a long division, over numbers.

use Rattle.std.proofs.Common.{◌≡◌, ℕ, zero, suc, ◌+◌, ◌-◌, ◌*◌, ◌/◌, ◌%◌, ◌^◌, ◌<◌, ◌≤◌, Bool, true, false, not, nat_lt, nat_le, ◌&&◌, ◌||◌, inl, inr, refl, sym, ap, ◌∙◌, arith, if◌then◌else◌, ◌==◌, div-le_self}
use Rattle.std.proofs.Math.Nat.{mul-suc, pow-le-pow_right}
use Rattle.std.proofs.Math.Bool.{or-true, or-false}
use Rattle.std.proofs.lemmas.Bool.{cases_lt}
use Rattle.std.proofs.lemmas.Bool.Decides.{nat_tests}
use Rattle.std.proofs.lemmas.Nat.{div-add-mod', mod_below, div-mul-add, mod-mul-add, pow_pos, same_from_place}
use native.Mathlib.Nat.{mod-zero, mod-le}
use Rattle.ba_nodes.specs.Gates.{bool_xor}
use Rattle.ba_words.specs.Words.{digit}
use Rattle.ba_words.proofs.Digits.{digit_small}
use Rattle.ba_words.proofs.Places.{power_more}
use Rattle.ba_muldiv.specs.Division.{negated_where, long_quotient}

pub le_true : (a b : ℕ) → a ≤ b → nat_le a b ≡ true
le_true a b below = grind (arith, nat_tests)

pub le_false : (a b : ℕ) → b < a → nat_le a b ≡ false
le_false a b above = grind (arith, nat_tests)

pub le-not_lt : (a b : ℕ) → not (nat_lt b a) ≡ nat_le a b
le-not_lt a b = grind (arith, nat_tests)

-- ---- whether a number has so many places

-- a place lower
pub wider_step : (p q l h n : ℕ) (t : Bool) → q ≡ 2 * p → n ≡ l + p * digit t + q * h → l < p →
    (nat_le q n || t) ≡ nat_le p n
wider_step p q l h n true double is below = or-true (nat_le q n) ∙ sym (le_true p n (omega arith))
wider_step p q l zero n false double is below = or-false (nat_le q n) ∙ le_false q n (omega arith)
    ∙ sym (le_false p n (omega arith))
wider_step p q l (suc h) n false double is below =
    let more : q * suc h ≡ q * h + q = mul-suc q h in
    or-false (nat_le q n) ∙ le_true q n (omega arith) ∙ sym (le_true p n (omega arith))

-- ---- a step of subtract and select

module _ (r d l x y p f : ℕ) (small : r < p) (low_small : l < p) (x_small : x < 2 ^ 32)
    (complement : f + l + 1 ≡ 2 ^ 32) where
  pub step_fits : (c : Bool) (h : ℕ) → x + 2 ^ 32 * digit c ≡ r + f + 1 → d ≡ l + p * h →
      (c && not (nat_le p d)) ≡ nat_le d r
  step_fits true zero whole is = ap not (le_false p d (omega arith)) ∙ sym (le_true d r (omega arith))
  step_fits true (suc h) whole is =
      let more : p * suc h ≡ p * h + p = mul-suc p h in
      ap not (le_true p d (omega arith)) ∙ sym (le_false d r (omega arith))
  step_fits false h whole is = sym (le_false d r (omega arith))

  pub step_left : (c : Bool) (h g : ℕ) → x + 2 ^ 32 * digit c ≡ r + f + 1 → d ≡ l + p * h → x ≡ y + p * g →
      d ≤ r → y ≡ r - d
  step_left true zero zero whole is split below = omega arith
  step_left true zero (suc g) whole is split below =
      let more : p * suc g ≡ p * g + p = mul-suc p g in
      omega arith
  step_left true (suc h) g whole is split below =
      let more : p * suc h ≡ p * h + p = mul-suc p h in
      absurd (omega arith)
  step_left false h g whole is split below = absurd (omega arith)

-- a choice by a test that says more of its branches
pub chosen : (t s : Bool) (a b c r : ℕ) → t ≡ s → (s ≡ true → a ≡ b) → (s ≡ false → c ≡ r) →
    (if t then a else c) ≡ (if s then b else r)
chosen t true a b c r same first second = ap (λ t. if t then a else c) same ∙ first refl
chosen t false a b c r same first second = ap (λ t. if t then a else c) same ∙ second refl

pub le_from_true : (a b : ℕ) → nat_le a b ≡ true → a ≤ b
le_from_true a b is = grind (arith, nat_tests)

-- ---- long division

pub long_positive : (places a b : ℕ) → 0 < b → long_quotient places a b ≡ a / b
long_positive places a b positive = ap (λ t. if t then 2 ^ places - 1 else a / b) (not_zero b positive)
  where
    not_zero : (b : ℕ) → 0 < b → (b == 0) ≡ false
    not_zero b positive = grind (arith, nat_tests)

pub double_twice : (q d : ℕ) → 2 * (q * d) ≡ 2 * q * d
double_twice q d = grind arith

next_multiple : (q d : ℕ) → (2 * q + 1) * d ≡ 2 * (q * d) + d
next_multiple q d = grind arith

pub quotient_step : (s h d next : ℕ) (t : Bool) → next ≡ 2 * (h % d) + digit t →
    2 * long_quotient s h d + digit (nat_le d next) ≡ long_quotient (s + 1) (digit t + 2 * h) d
quotient_step s h zero next t is =
    ap (λ b. 2 * (2 ^ s - 1) + digit b) (le_true zero next (omega arith))
    ∙ omega (arith, power_more s, pow_pos s)
quotient_step s h (suc d) next t is =
    let positive : 0 < suc d = omega arith in
    let whole : h / suc d * suc d + h % suc d ≡ h = div-add-mod' h (suc d) in
    let rest : h % suc d < suc d = mod_below h (suc d) positive in
    let twice : 2 * (h / suc d * suc d) ≡ 2 * (h / suc d) * suc d = double_twice (h / suc d) (suc d) in
    elim (cases_lt next (suc d)) [
      | inl below ↦
          let sum : 2 * (h / suc d) * suc d + next ≡ digit t + 2 * h = omega arith in
          let plain : 2 * (h / suc d) + 0 ≡ 2 * (h / suc d) = omega arith in
          (λ i. 2 * long_positive s h (suc d) positive i + digit (le_false (suc d) next below i))
          ∙ plain
          ∙ sym (div-mul-add (2 * (h / suc d)) (suc d) next below)
          ∙ ap (λ n. n / suc d) sum
          ∙ sym (long_positive (s + 1) (digit t + 2 * h) (suc d) positive)
      | inr above ↦
          let multiple : (2 * (h / suc d) + 1) * suc d ≡ 2 * (h / suc d * suc d) + suc d =
          next_multiple (h / suc d) (suc d) in
          let sum : (2 * (h / suc d) + 1) * suc d + (next - suc d) ≡ digit t + 2 * h = omega arith in
          let left : next - suc d < suc d = omega (arith, digit_small t) in
          (λ i. 2 * long_positive s h (suc d) positive i + digit (le_true (suc d) next above i))
          ∙ sym (div-mul-add (2 * (h / suc d) + 1) (suc d) (next - suc d) left)
          ∙ ap (λ n. n / suc d) sum
          ∙ sym (long_positive (s + 1) (digit t + 2 * h) (suc d) positive)
    ]

pub rest_step : (h d next : ℕ) (t : Bool) → next ≡ 2 * (h % d) + digit t →
    (if nat_le d next then next - d else next) ≡ (digit t + 2 * h) % d
rest_step h zero next t is =
    ap (λ b. if b then next - zero else next) (le_true zero next (omega arith)) ∙ omega (arith, mod-zero h)
    ∙ sym (mod-zero (digit t + 2 * h))
rest_step h (suc d) next t is =
    let whole : h / suc d * suc d + h % suc d ≡ h = div-add-mod' h (suc d) in
    let rest : h % suc d < suc d = mod_below h (suc d) (omega arith) in
    let twice : 2 * (h / suc d * suc d) ≡ 2 * (h / suc d) * suc d = double_twice (h / suc d) (suc d) in
    elim (cases_lt next (suc d)) [
      | inl below ↦
          let sum : 2 * (h / suc d) * suc d + next ≡ digit t + 2 * h = omega arith in
          ap (λ b. if b then next - suc d else next) (le_false (suc d) next below)
          ∙ sym (mod-mul-add (2 * (h / suc d)) (suc d) next below)
          ∙ ap (λ n. n % suc d) sum
      | inr above ↦
          let multiple : (2 * (h / suc d) + 1) * suc d ≡ 2 * (h / suc d * suc d) + suc d =
          next_multiple (h / suc d) (suc d) in
          let sum : (2 * (h / suc d) + 1) * suc d + (next - suc d) ≡ digit t + 2 * h = omega arith in
          let left : next - suc d < suc d = omega (arith, digit_small t) in
          ap (λ b. if b then next - suc d else next) (le_true (suc d) next above)
          ∙ sym (mod-mul-add (2 * (h / suc d) + 1) (suc d) (next - suc d) left)
          ∙ ap (λ n. n % suc d) sum
    ]

-- ---- what is brought down

pub brought : (n m d : ℕ) → m ≡ (n * 2 ^ 1) % 2 ^ 32 → d ≤ 1 → m + d ≡ (2 * n + d) % 2 ^ 32
brought n m d is small = omega arith

pub power_most : (i : ℕ) → i ≤ 32 → 2 ^ i ≤ 2 ^ 32
power_most i few = pow-le-pow_right {n = 2} (omega arith) few

pub next_value : (i h d r n : ℕ) (t : Bool) → i < 32 → h < 2 ^ i → r ≡ h % d →
    n ≡ (2 * r + digit t) % 2 ^ 32 → n ≡ 2 * (h % d) + digit t
next_value i h d r n t few small r_is is =
    let less : h % d ≤ h = mod-le h d in
    let most : 2 ^ (i + 1) ≤ 2 ^ 32 = power_most (i + 1) (omega arith) in
    omega (arith, digit_small t, power_more i)

long_quotient_below : (i h d : ℕ) → h < 2 ^ i → long_quotient i h d < 2 ^ i
long_quotient_below i h zero small = omega (arith, pow_pos i)
long_quotient_below i h (suc d) small =
    let positive : 0 < suc d = omega arith in
    let less : h / suc d ≤ h = div-le_self h (suc d) in
    omega (arith, long_positive i h (suc d) positive)

pub quotient_value : (i h d q n : ℕ) (b : Bool) → i < 32 → h < 2 ^ i → q ≡ long_quotient i h d →
    n ≡ (2 * q + digit b) % 2 ^ 32 → n ≡ 2 * long_quotient i h d + digit b
quotient_value i h d q n b few small q_is is =
    let less : long_quotient i h d < 2 ^ i = long_quotient_below i h d small in
    let most : 2 ^ (i + 1) ≤ 2 ^ 32 = power_most (i + 1) (omega arith) in
    omega (arith, digit_small b, power_more i)

-- before the first step
pub no_quotient : (h d : ℕ) → h < 1 → 0 ≡ long_quotient 0 h d
no_quotient h zero small = refl
no_quotient h (suc d) small =
    let positive : 0 < suc d = omega arith in
    let less : h / suc d ≤ h = div-le_self h (suc d) in
    omega (arith, long_positive 0 h (suc d) positive)

pub no_rest : (h d : ℕ) → h < 1 → 0 ≡ h % d
no_rest h d small = omega (arith, mod-le h d)

-- the highest of 32 places
pub top_is : (n l : ℕ) (t : Bool) → n ≡ l + 2 ^ 31 * digit t → l < 2 ^ 31 → t ≡ nat_le (2 ^ 31) n
top_is n l true is small = sym (le_true (2 ^ 31) n (omega arith))
top_is n l false is small = sym (le_false (2 ^ 31) n (omega arith))

pub lt_from_false : (a b : ℕ) → nat_le a b ≡ false → b < a
lt_from_false a b is = grind (arith, nat_tests)

-- a step whose remainder r has no more than the low places, of size p
module _ (p r d l m x f h : ℕ) (c : Bool) (small : r < p) (m_small : m < p) (x_small : x < 2 ^ 32)
    (complement : f + m + 1 ≡ 2 ^ 32) (sum : x + 2 ^ 32 * digit c ≡ l + f + 1) (d_is : d ≡ m + p * h) where
  pub whole_fits : (t : Bool) → r ≡ l + p * digit t → ((c || t) && not (nat_le p d)) ≡ nat_le d r
  whole_fits true is = absurd (omega arith)
  whole_fits false is =
      ap (λ b. b && not (nat_le p d)) (or-false c) ∙ step_fits r d m x x p f small m_small x_small
      complement c h (omega arith) d_is

  pub whole_left : (t : Bool) (y g : ℕ) → r ≡ l + p * digit t → x ≡ y + p * g → d ≤ r → y ≡ r - d
  whole_left true y g is split fits = absurd (omega arith)
  whole_left false y g is split fits = step_left r d m x y p f small m_small x_small complement c h g
      (omega arith) d_is split fits

-- a step whose divisor d has no more than the low places, and whose remainder one more at most
pub narrow_fits : (p r d l x : ℕ) (c t : Bool) → r ≡ l + p * digit t → d < p → x < 2 ^ 32 →
    x + 2 ^ 32 * digit c + d ≡ l + 2 ^ 32 → (c || t) ≡ nat_le d r
narrow_fits p r d l x true true is narrow x_small sum = sym (le_true d r (omega arith))
narrow_fits p r d l x true false is narrow x_small sum = sym (le_true d r (omega arith))
narrow_fits p r d l x false true is narrow x_small sum = sym (le_true d r (omega arith))
narrow_fits p r d l x false false is narrow x_small sum = sym (le_false d r (omega arith))

pub narrow_left : (p r d l x y z g : ℕ) (c t : Bool) → r ≡ l + p * digit t → d < p → x < 2 ^ 32 →
    x + 2 ^ 32 * digit c + d ≡ l + 2 ^ 32
    → x ≡ g * p + y → y < p → z * p ≡ 2 ^ 32 → r < 2 * d → d ≤ r → y ≡ r - d
narrow_left p r d l x y z g true true is narrow x_small sum split y_small whole twice fits =
    absurd (omega arith)
narrow_left p r d l x y z g true false is narrow x_small sum split y_small whole twice fits =
    let left : r - d < p = omega arith in
    let same : g * p + y ≡ 0 * p + (r - d) = omega arith in
    (same_from_place g y 0 (r - d) p y_small left same).1
narrow_left p r d l x y z g false false is narrow x_small sum split y_small whole twice fits =
    absurd (omega arith)
narrow_left p r d l x y zero g false true is narrow x_small sum split y_small whole twice fits =
    absurd (omega arith)
narrow_left p r d l x y (suc z) g false true is narrow x_small sum split y_small whole twice fits =
    let left : r - d < p = omega arith in
    let more : suc z * p ≡ z * p + p = next_row z p in
    let same : g * p + y ≡ z * p + (r - d) = omega arith in
    (same_from_place g y z (r - d) p y_small left same).1
  where
    next_row : (z p : ℕ) → suc z * p ≡ z * p + p
    next_row z p = grind arith

pub next_twice : (h d n : ℕ) (t : Bool) → 0 < d → n ≡ 2 * (h % d) + digit t → n < 2 * d
next_twice h d n t positive is = omega (arith, mod_below h d positive, digit_small t)

-- ---- the opposite of a number, from the lowest place up

-- whether a place is turned that has these places below it
abbrev pub is_turned : Bool → ℕ → Bool
is_turned negative low = negative && nat_lt 0 low

-- the low places, of this size, with the opposite sign if the condition holds
abbrev pub low_opposite : Bool → ℕ → ℕ → ℕ
low_opposite negative size low = if is_turned negative low then size - low else low

pub turned_more : (negative bit : Bool) (p low : ℕ) → low < p →
    (if bit then negative else is_turned negative low) ≡ is_turned negative (low + p * digit bit)
turned_more true true p low small = sym (grind (arith, nat_tests))
turned_more true false p low small = grind (arith, nat_tests)
turned_more false true p low small = refl
turned_more false false p low small = refl

pub some_true : (n : ℕ) → 0 < n → nat_lt 0 n ≡ true
some_true n some = grind (arith, nat_tests)

pub opposite_more : (negative bit : Bool) (p q low : ℕ) → q ≡ 2 * p → low < p →
    low_opposite negative p low + p * digit (bool_xor bit (is_turned negative low))
    ≡ low_opposite negative q (low + p * digit bit)
opposite_more true true p q zero double small =
    omega arith ∙ sym (ap (λ t. if t then q - (0 + p * 1) else 0 + p * 1)
    (some_true (0 + p * 1) (omega arith)))
opposite_more true true p q (suc low) double small =
    ap (λ t. (if t then p - suc low else suc low) + p * digit (not t)) (some_true (suc low) (omega arith))
    ∙ omega arith
    ∙ sym (ap (λ t. if t then q - (suc low + p * 1) else suc low + p * 1)
    (some_true (suc low + p * 1) (omega arith)))
opposite_more true false p q zero double small =
    let none : 0 + p * 0 ≡ 0 = omega arith in
    none ∙ sym (ap (low_opposite true q) none)
opposite_more true false p q (suc low) double small =
    ap (λ t. (if t then p - suc low else suc low) + p * digit t) (some_true (suc low) (omega arith))
    ∙ omega arith
    ∙ sym (ap (λ t. if t then q - (suc low + p * 0) else suc low + p * 0)
    (some_true (suc low + p * 0) (omega arith)))
opposite_more false true p q low double small = refl
opposite_more false false p q low double small = refl

pub opposite_all : (negative : Bool) (n : ℕ) → n < 2 ^ 32 →
    low_opposite negative (2 ^ 32) n ≡ negated_where negative n
opposite_all true zero small = refl
opposite_all true (suc n) small =
    ap (λ t. if t then 2 ^ 32 - suc n else suc n) (some_true (suc n) (omega arith)) ∙ omega arith
opposite_all false n small = refl
