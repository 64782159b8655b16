-- Shifts by the bits of a count, one after another.

use Rattle.std.proofs.Common.{◌≡◌, ℕ, ◌+◌, ◌-◌, ◌*◌, ◌/◌, ◌%◌, ◌^◌, ◌<◌, ◌≤◌, Bool, true, false, List, length, map, drop, sym, ap, subst, ◌∙◌, arith, if◌then◌else◌}
use Rattle.std.proofs.lemmas.Nat.{pow-add, pow_pos, mul-mod_first, shr-shr, one_shl}
use Rattle.std.proofs.Math.Nat.{mul_assoc, add-mul-div_right, pow-le-pow_right}
use Rattle.ba_nodes.specs.declared.Bit.{Bit}
use Rattle.ba_nodes.specs.declared.Node.{Node}
use Rattle.ba_nodes.specs.Gates.{truth, Extends}
use Rattle.ba_words.specs.Words.{digit, spelled, number_of, low_number, bit_at, AreBitsOf, HasNumber, shifted_down}
use Rattle.ba_words.proofs.Circuits.{argument-more, low_number_below}
use Rattle.ba_words.proofs.Shapes.{number-split}
use Rattle.ba_words.proofs.Values.{powers, spread}

-- the low five bits of a count
pub count-low : (free : ℕ → Bool) (nodes : List Node) (count : List Bit) → length count ≡ 32 → low_number free nodes count 5 ≡ number_of free nodes count % 32
count-low free nodes count long =
    let split = number-split free nodes count 5 (omega (arith, long)) in
    let small = low_number_below free nodes count 5 (omega (arith, long)) in
    remainder (number_of free nodes count) (low_number free nodes count 5) (spelled (drop 5 (map (truth free nodes) count))) split small
  where
    remainder : (n l h : ℕ) → n ≡ l + 2 ^ 5 * h → l < 2 ^ 5 → l ≡ n % 32
    remainder n l h e small = omega arith

no_more : (c p : ℕ) → c ≡ c + p * 0
no_more c p = omega arith

one_more : (c p : ℕ) → c + p ≡ c + p * 1
one_more c p = omega arith

-- a level that moves up
up_level : (t : Bool) (n c p w v : ℕ) → w ≡ (n * 2 ^ c) % 2 ^ 32 → v ≡ (w * 2 ^ p) % 2 ^ 32 → (if t then v else w) ≡ (n * 2 ^ (c + p * digit t)) % 2 ^ 32
up_level false n c p w v now next = now ∙ ap (λ e. (n * 2 ^ e) % 2 ^ 32) (no_more c p)
up_level true n c p w v now next =
    next
    ∙ ap (λ x. (x * 2 ^ p) % 2 ^ 32) now
    ∙ mul-mod_first (n * 2 ^ c) (2 ^ p) (2 ^ 32)
    ∙ ap (λ x. x % 2 ^ 32) (mul_assoc n (2 ^ c) (2 ^ p) ∙ ap (λ x. n * x) (sym (pow-add 2 c p)))
    ∙ ap (λ e. (n * 2 ^ e) % 2 ^ 32) (one_more c p)

pub up_more : (initial nodes new : List Node) (a count word moved next : List Bit) (level : ℕ)
    → level < 5 → length count ≡ 32 → AreBitsOf initial count → Extends initial nodes
    → HasNumber nodes word (λ free. (number_of free initial a * 2 ^ low_number free initial count level) % 2 ^ 32)
    → ((free : ℕ → Bool) → number_of free nodes moved ≡ (number_of free nodes word * 2 ^ (2 ^ level)) % 2 ^ 32)
    → HasNumber new next (λ free. if truth free nodes (bit_at count level) then number_of free nodes moved else number_of free nodes word)
    → HasNumber new next (λ free. (number_of free initial a * 2 ^ low_number free initial count (level + 1)) % 2 ^ 32)
up_more initial nodes new a count word moved next level small long bits first before moves has = record {
  long = has.long;
  are_bits = has.are_bits;
  holds = λ free.
      has.holds free
      ∙ up_level (truth free nodes (bit_at count level)) (number_of free initial a) (low_number free initial count level) (2 ^ level) (number_of free nodes word) (number_of free nodes moved) (before.holds free) (moves free)
      ∙ sym (ap (λ e. (number_of free initial a * 2 ^ e) % 2 ^ 32) (argument-more free initial nodes count level (omega (arith, long)) bits first));
}

down_false : (n c : ℕ) → shifted_down n false c ≡ n / 2 ^ c
down_false n c = omega arith

power_up : (i j : ℕ) → i ≤ j → 2 ^ i ≤ 2 ^ j
power_up i j below = pow-le-pow_right {n = 2} (omega arith) below

-- the ones above a number, moved down
ones_moved : (p e f g whole : ℕ) → g ≤ f → e ≡ g * p → whole ≡ f * p → whole - e ≡ (f - g) * p
ones_moved p e f g whole below e_is whole_is =
    let parts : (f - g) * p + g * p ≡ f * p = spread (f - g) g f p (omega arith) in
    omega arith

down_twice : (s : Bool) (n c p : ℕ) → c + p ≤ 32 → shifted_down (shifted_down n s c) s p ≡ shifted_down n s (c + p)
down_twice false n c p few = down_false (shifted_down n false c) p ∙ ap (λ x. x / 2 ^ p) (down_false n c) ∙ shr-shr n c p ∙ sym (down_false n (c + p))
down_twice true n c p few =
    let apart : 32 - c ≡ 32 - (c + p) + p = omega arith in
    let whole : 32 ≡ 32 - p + p = omega arith in
    let e_is : 2 ^ (32 - c) ≡ 2 ^ (32 - (c + p)) * 2 ^ p = ap (λ k. 2 ^ k) apart ∙ pow-add 2 (32 - (c + p)) p in
    let whole_is : 2 ^ 32 ≡ 2 ^ (32 - p) * 2 ^ p = sym (powers p (omega arith)) in
    let g_below : 2 ^ (32 - (c + p)) ≤ 2 ^ (32 - p) = power_up (32 - (c + p)) (32 - p) (omega arith) in
    let f_below : 2 ^ (32 - p) ≤ 2 ^ 32 = power_up (32 - p) 32 (omega arith) in
    let ones = ones_moved (2 ^ p) (2 ^ (32 - c)) (2 ^ (32 - p)) (2 ^ (32 - (c + p))) (2 ^ 32) g_below e_is whole_is in
    let moved : (n / 2 ^ c + (2 ^ 32 - 2 ^ (32 - c))) / 2 ^ p ≡ n / 2 ^ (c + p) + (2 ^ (32 - p) - 2 ^ (32 - (c + p))) =
    ap (λ x. (n / 2 ^ c + x) / 2 ^ p) ones
    ∙ add-mul-div_right (n / 2 ^ c) (2 ^ (32 - p) - 2 ^ (32 - (c + p))) {z = 2 ^ p} (pow_pos p)
    ∙ ap (λ x. x + (2 ^ (32 - p) - 2 ^ (32 - (c + p)))) (shr-shr n c p) in
    let plain : n / 2 ^ c + digit true * (2 ^ 32 - 2 ^ (32 - c)) ≡ n / 2 ^ c + (2 ^ 32 - 2 ^ (32 - c)) = omega arith in
    ap (λ x. x / 2 ^ p + digit true * (2 ^ 32 - 2 ^ (32 - p))) plain
    ∙ ap (λ x. x + digit true * (2 ^ 32 - 2 ^ (32 - p))) moved
    ∙ ends (n / 2 ^ (c + p)) (2 ^ (32 - p)) (2 ^ (32 - (c + p))) (2 ^ 32) g_below f_below
  where
    ends : (q f g m : ℕ) → g ≤ f → f ≤ m → q + (f - g) + 1 * (m - f) ≡ q + 1 * (m - g)
    ends q f g m first second = omega arith

down_level : (t s : Bool) (n c p w v : ℕ) → c + p ≤ 32 → w ≡ shifted_down n s c → v ≡ shifted_down w s p → (if t then v else w) ≡ shifted_down n s (c + p * digit t)
down_level false s n c p w v few now next = now ∙ ap (shifted_down n s) (no_more c p)
down_level true s n c p w v few now next = next ∙ ap (λ x. shifted_down x s p) now ∙ down_twice s n c p few ∙ ap (shifted_down n s) (one_more c p)

pub down_more : (initial nodes new : List Node) (a count word moved next : List Bit) (sign : (ℕ → Bool) → Bool) (level : ℕ)
    → level < 5 → length count ≡ 32 → AreBitsOf initial count → Extends initial nodes
    → HasNumber nodes word (λ free. shifted_down (number_of free initial a) (sign free) (low_number free initial count level))
    → ((free : ℕ → Bool) → number_of free nodes moved ≡ shifted_down (number_of free nodes word) (sign free) (2 ^ level))
    → HasNumber new next (λ free. if truth free nodes (bit_at count level) then number_of free nodes moved else number_of free nodes word)
    → HasNumber new next (λ free. shifted_down (number_of free initial a) (sign free) (low_number free initial count (level + 1)))
down_more initial nodes new a count word moved next sign level small long bits first before moves has = record {
  long = has.long;
  are_bits = has.are_bits;
  holds = λ free.
      let below : low_number free initial count level < 2 ^ level = low_number_below free initial count level (omega (arith, long)) in
      let most : 2 ^ level ≤ 2 ^ 4 = power_up level 4 (omega arith) in
      has.holds free
      ∙ down_level (truth free nodes (bit_at count level)) (sign free) (number_of free initial a) (low_number free initial count level) (2 ^ level) (number_of free nodes word) (number_of free nodes moved) (omega arith) (before.holds free) (moves free)
      ∙ sym (ap (shifted_down (number_of free initial a) (sign free)) (argument-more free initial nodes count level (omega (arith, long)) bits first));
}

-- the distance of a level, as a shift of 1 gives it
pub distance : (level : ℕ) → level < 5 → (1 * 2 ^ level) % 2 ^ 64 ≡ 2 ^ level
distance level small = one_shl level 64 (omega arith)

pub distance_small : (level : ℕ) → level < 5 → (1 * 2 ^ level) % 2 ^ 64 ≤ 32
distance_small level small =
    let most : 2 ^ level ≤ 2 ^ 4 = power_up level 4 (omega arith) in
    subst (λ n. n ≤ 32) (sym (distance level small)) (omega arith)
