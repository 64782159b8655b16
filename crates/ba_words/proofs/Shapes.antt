-- What words spell whose bits are those of other words, moved, turned or filled up.

use Rattle.std.proofs.Common.{◌≡◌, ℕ, zero, suc, ◌+◌, ◌-◌, ◌*◌, ◌/◌, ◌%◌, ◌^◌, ◌<◌, ◌≤◌, Bool, true, false, not, nat_lt, List, length, map, take, drop, refl, sym, ap, ◌∙◌, arith, add-one, if◌then◌else◌}
use Rattle.std.proofs.lemmas.List.{take-append-drop, length-map, length-take-le}
use Rattle.std.proofs.lemmas.Nat.{pow-add, div-mul-add}
use Rattle.std.proofs.Math.Nat.{pow-le-pow_right}
use Rattle.std.proofs.lemmas.Bool.Decides.{nat_tests}
use Rattle.ba_nodes.specs.declared.Bit.{Bit}
use Rattle.ba_nodes.specs.declared.Node.{Node}
use Rattle.ba_nodes.specs.Gates.{truth, opposite, constant_bit}
use Rattle.ba_nodes.proofs.Truths.{truth-opposite, truth-constant}
use Rattle.ba_words.specs.Words.{digit, spelled, number_of, low_number, bit_at}
use Rattle.ba_words.proofs.Digits.{spelled-append, twice}
use Rattle.ba_words.proofs.Places.{low_number-more, low_number-all}
use Rattle.ba_words.proofs.Values.{powers}
use Rattle.ba_words.proofs.Circuits.{low_number_below, number_small}

pub low_number-suc : (free : ℕ → Bool) (nodes : List Node) (word : List Bit) (i : ℕ) → i < length word → low_number free nodes word (suc i) ≡ low_number free nodes word i + 2 ^ i * digit (truth free nodes (bit_at word i))
low_number-suc free nodes word i within = ap (low_number free nodes word) (sym (add-one i)) ∙ low_number-more free nodes word i within

-- two words with the same truth values spell the same number
pub low_number-same : (free : ℕ → Bool) (old new : List Node) (word other : List Bit) (i : ℕ) → i ≤ length word → i ≤ length other
    → ((place : ℕ) → place < i → truth free new (bit_at word place) ≡ truth free old (bit_at other place)) → low_number free new word i ≡ low_number free old other i
low_number-same free old new word other zero in_word in_other same = refl
low_number-same free old new word other (suc i) in_word in_other same =
    low_number-suc free new word i (omega arith)
    ∙ (λ j. low_number-same free old new word other i (omega arith) (omega arith) (λ place below. same place (omega arith)) j + 2 ^ i * digit (same i (omega arith) j))
    ∙ sym (low_number-suc free old other i (omega arith))

-- the low places and the others
pub number-split : (free : ℕ → Bool) (nodes : List Node) (word : List Bit) (i : ℕ) → i ≤ length word → number_of free nodes word ≡ low_number free nodes word i + 2 ^ i * spelled (drop i (map (truth free nodes) word))
number-split free nodes word i within =
    let size : length (take i (map (truth free nodes) word)) ≡ i = length-take-le i (map (truth free nodes) word) (omega (arith, length-map word (truth free nodes))) in
    ap spelled (sym (take-append-drop i (map (truth free nodes) word)))
    ∙ spelled-append (take i (map (truth free nodes) word)) (drop i (map (truth free nodes) word))
    ∙ ap (λ n. low_number free nodes word i + 2 ^ n * spelled (drop i (map (truth free nodes) word))) size

-- ---- complements

complement_step : (p w a : ℕ) (bit : Bit) (t : Bool) → w + a + 1 ≡ p → (w + p * digit (not t)) + (a + p * digit t) + 1 ≡ 2 * p
complement_step p w a bit true e = omega arith
complement_step p w a bit false e = omega arith

pub complement-low : (free : ℕ → Bool) (nodes : List Node) (word a : List Bit) → length word ≡ 32 → length a ≡ 32
    → ((place : ℕ) → place < 32 → bit_at word place ≡ opposite (bit_at a place)) → (i : ℕ) → i ≤ 32 → low_number free nodes word i + low_number free nodes a i + 1 ≡ 2 ^ i
complement-low free nodes word a long a_long places zero within = refl
complement-low free nodes word a long a_long places (suc i) within =
    (λ j. low_number-suc free nodes word i (omega (arith, long)) j + low_number-suc free nodes a i (omega (arith, a_long)) j + 1)
    ∙ ap (λ t. low_number free nodes word i + 2 ^ i * digit t + (low_number free nodes a i + 2 ^ i * digit (truth free nodes (bit_at a i))) + 1)
    (ap (truth free nodes) (places i (omega arith)) ∙ truth-opposite free nodes (bit_at a i))
    ∙ complement_step (2 ^ i) (low_number free nodes word i) (low_number free nodes a i) (bit_at a i) (truth free nodes (bit_at a i))
    (complement-low free nodes word a long a_long places i (omega arith))
    ∙ sym (twice i)

pub complement-number : (free : ℕ → Bool) (nodes : List Node) (word a : List Bit) → length word ≡ 32 → length a ≡ 32
    → ((place : ℕ) → place < 32 → bit_at word place ≡ opposite (bit_at a place)) → number_of free nodes word + number_of free nodes a + 1 ≡ 2 ^ 32
complement-number free nodes word a long a_long places =
    sym (λ j. low_number-all free nodes word 32 (omega (arith, long)) j + low_number-all free nodes a 32 (omega (arith, a_long)) j + 1)
    ∙ complement-low free nodes word a long a_long places 32 (omega arith)

-- ---- filled up from a place

fill_step : (v : Bool) (p q w l n : ℕ) → w + digit v * p ≡ l + digit v * n → q ≡ 2 * n → (w + n * digit v) + digit v * p ≡ l + digit v * q
fill_step true p q w l n e double = omega arith
fill_step false p q w l n e double = omega arith

pub filled-low : (free : ℕ → Bool) (nodes : List Node) (word : List Bit) (n m : ℕ) (v : Bool) → m ≤ length word
    → ((place : ℕ) → n ≤ place → place < m → truth free nodes (bit_at word place) ≡ v)
    → (j : ℕ) → n + j ≤ m → low_number free nodes word (n + j) + digit v * 2 ^ n ≡ low_number free nodes word n + digit v * 2 ^ (n + j)
filled-low free nodes word n m v long fill zero within =
    let none : n + 0 ≡ n = omega arith in
    (λ i. low_number free nodes word (none i) + digit v * 2 ^ n) ∙ sym (λ i. low_number free nodes word n + digit v * 2 ^ (none i))
filled-low free nodes word n m v long fill (suc j) within =
    let next : n + suc j ≡ suc (n + j) = omega arith in
    (λ i. low_number free nodes word (next i) + digit v * 2 ^ n)
    ∙ (λ i. low_number-suc free nodes word (n + j) (omega (arith, long)) i + digit v * 2 ^ n)
    ∙ ap (λ t. low_number free nodes word (n + j) + 2 ^ (n + j) * digit t + digit v * 2 ^ n) (fill (n + j) (omega arith) (omega arith))
    ∙ fill_step v (2 ^ n) (2 ^ suc (n + j)) (low_number free nodes word (n + j)) (low_number free nodes word n) (2 ^ (n + j)) (filled-low free nodes word n m v long fill j (omega arith)) (twice (n + j))
    ∙ sym (λ i. low_number free nodes word n + digit v * 2 ^ (next i))

pub filled-number : (free : ℕ → Bool) (nodes : List Node) (word : List Bit) (n : ℕ) (v : Bool) → length word ≡ 32 → n ≤ 32
    → ((place : ℕ) → n ≤ place → place < 32 → truth free nodes (bit_at word place) ≡ v)
    → number_of free nodes word + digit v * 2 ^ n ≡ low_number free nodes word n + digit v * 2 ^ 32
filled-number free nodes word n v long within fill =
    let whole : n + (32 - n) ≡ 32 = omega arith in
    ap (λ x. x + digit v * 2 ^ n) (sym (low_number-all free nodes word 32 (omega (arith, long))))
    ∙ sym (λ i. low_number free nodes word (whole i) + digit v * 2 ^ n)
    ∙ filled-low free nodes word n 32 v (omega (arith, long)) fill (32 - n) (omega arith)
    ∙ (λ i. low_number free nodes word n + digit v * 2 ^ (whole i))

-- ---- moved

wrapped : (total value n : ℕ) → value + 2 ^ 32 * n ≡ total → value < 2 ^ 32 → value ≡ total % 2 ^ 32
wrapped total value n e small = omega arith

-- no bit below the place to which a word is moved up
pub moved_up-none : (free : ℕ → Bool) (nodes : List Node) (moved word : List Bit) (by : ℕ) → by ≤ 32 → length moved ≡ 32
    → ((place : ℕ) → place < 32 → bit_at moved place ≡ (if nat_lt place by then constant_bit false else bit_at word (place - by)))
    → low_number free nodes moved by ≡ 0
moved_up-none free nodes moved word by few long places =
    let below : (place : ℕ) → 0 ≤ place → place < by → truth free nodes (bit_at moved place) ≡ false =
    λ place low within.
    let tests : nat_lt place by ≡ true = grind (arith, nat_tests) in
    ap (truth free nodes) (places place (omega arith) ∙ ap (λ t. if t then constant_bit false else bit_at word (place - by)) tests) ∙ truth-constant free nodes false in
    let filled : low_number free nodes moved (0 + by) + digit false * 2 ^ 0 ≡ low_number free nodes moved 0 + digit false * 2 ^ (0 + by) =
    filled-low free nodes moved 0 by false (omega (arith, long)) below by (omega arith) in
    let start : 0 + by ≡ by = omega arith in
    ap (low_number free nodes moved) (sym start) ∙ omega arith

up_step : (p q w l d : ℕ) → w ≡ p * l → w + p * q * d ≡ p * (l + q * d)
up_step p q w l d e = ap (λ x. x + p * q * d) e ∙ spread_up p q l d
  where
    spread_up : (p q l d : ℕ) → p * l + p * q * d ≡ p * (l + q * d)
    spread_up p q l d = grind arith

pub moved_up-low : (free : ℕ → Bool) (nodes : List Node) (moved word : List Bit) (by : ℕ) → length moved ≡ 32 → length word ≡ 32 → low_number free nodes moved by ≡ 0
    → ((place : ℕ) → by ≤ place → place < 32 → truth free nodes (bit_at moved place) ≡ truth free nodes (bit_at word (place - by)))
    → (j : ℕ) → by + j ≤ 32 → low_number free nodes moved (by + j) ≡ 2 ^ by * low_number free nodes word j
moved_up-low free nodes moved word by long word_long none same zero within =
    let start : by + 0 ≡ by = omega arith in
    ap (low_number free nodes moved) start ∙ none ∙ omega arith
moved_up-low free nodes moved word by long word_long none same (suc j) within =
    let next : by + suc j ≡ suc (by + j) = omega arith in
    let place : by + j - by ≡ j = omega arith in
    ap (low_number free nodes moved) next
    ∙ low_number-suc free nodes moved (by + j) (omega (arith, long))
    ∙ ap (λ t. low_number free nodes moved (by + j) + 2 ^ (by + j) * digit t) (same (by + j) (omega arith) (omega arith) ∙ ap (λ k. truth free nodes (bit_at word k)) place)
    ∙ ap (λ p. low_number free nodes moved (by + j) + p * digit (truth free nodes (bit_at word j))) (pow-add 2 by j)
    ∙ up_step (2 ^ by) (2 ^ j) (low_number free nodes moved (by + j)) (low_number free nodes word j) (digit (truth free nodes (bit_at word j))) (moved_up-low free nodes moved word by long word_long none same j (omega arith))
    ∙ ap (λ n. 2 ^ by * n) (sym (low_number-suc free nodes word j (omega (arith, word_long))))

pub moved_up-number : (free : ℕ → Bool) (nodes : List Node) (moved word : List Bit) (by : ℕ) → by ≤ 32 → length moved ≡ 32 → length word ≡ 32
    → ((place : ℕ) → place < 32 → bit_at moved place ≡ (if nat_lt place by then constant_bit false else bit_at word (place - by)))
    → number_of free nodes moved ≡ (number_of free nodes word * 2 ^ by) % 2 ^ 32
moved_up-number free nodes moved word by few long word_long places =
    let above : (place : ℕ) → by ≤ place → place < 32 → truth free nodes (bit_at moved place) ≡ truth free nodes (bit_at word (place - by)) =
    λ place from within.
    let tests : nat_lt place by ≡ false = grind (arith, nat_tests) in
    ap (truth free nodes) (places place within ∙ ap (λ t. if t then constant_bit false else bit_at word (place - by)) tests) in
    let none : low_number free nodes moved by ≡ 0 = moved_up-none free nodes moved word by few long places in
    let whole : by + (32 - by) ≡ 32 = omega arith in
    let value : number_of free nodes moved ≡ 2 ^ by * low_number free nodes word (32 - by) =
    sym (low_number-all free nodes moved 32 (omega (arith, long))) ∙ ap (low_number free nodes moved) (sym whole)
    ∙ moved_up-low free nodes moved word by long word_long none above (32 - by) (omega arith) in
    let total : number_of free nodes word * 2 ^ by ≡ 2 ^ by * low_number free nodes word (32 - by) + 2 ^ 32 * spelled (drop (32 - by) (map (truth free nodes) word)) =
    ap (λ n. n * 2 ^ by) (number-split free nodes word (32 - by) (omega (arith, word_long)))
    ∙ up_total (2 ^ by) (2 ^ (32 - by)) (low_number free nodes word (32 - by)) (spelled (drop (32 - by) (map (truth free nodes) word))) (powers by few) in
    wrapped (number_of free nodes word * 2 ^ by) (number_of free nodes moved) (spelled (drop (32 - by) (map (truth free nodes) word)))
    (ap (λ n. n + 2 ^ 32 * spelled (drop (32 - by) (map (truth free nodes) word))) value ∙ sym total)
    (number_small free nodes moved long)
  where
    up_total : (p q l h : ℕ) → q * p ≡ 0x100000000 → (l + q * h) * p ≡ p * l + 0x100000000 * h
    up_total p q l h e = spread_total p q l h ∙ ap (λ m. p * l + m * h) e
      where
        spread_total : (p q l h : ℕ) → (l + q * h) * p ≡ p * l + q * p * h
        spread_total p q l h = grind arith

down_step : (p q x l w d : ℕ) → x ≡ l + p * w → x + p * q * d ≡ l + p * (w + q * d)
down_step p q x l w d e = ap (λ y. y + p * q * d) e ∙ spread_down p q l w d
  where
    spread_down : (p q l w d : ℕ) → l + p * w + p * q * d ≡ l + p * (w + q * d)
    spread_down p q l w d = grind arith

pub moved_down-low : (free : ℕ → Bool) (nodes : List Node) (moved word : List Bit) (by : ℕ) → length moved ≡ 32 → length word ≡ 32
    → ((place : ℕ) → place + by < 32 → truth free nodes (bit_at moved place) ≡ truth free nodes (bit_at word (place + by)))
    → (j : ℕ) → by + j ≤ 32 → low_number free nodes word (by + j) ≡ low_number free nodes word by + 2 ^ by * low_number free nodes moved j
moved_down-low free nodes moved word by long word_long same zero within =
    let start : by + 0 ≡ by = omega arith in
    ap (low_number free nodes word) start ∙ omega arith
moved_down-low free nodes moved word by long word_long same (suc j) within =
    let next : by + suc j ≡ suc (by + j) = omega arith in
    let place : j + by ≡ by + j = omega arith in
    ap (low_number free nodes word) next
    ∙ low_number-suc free nodes word (by + j) (omega (arith, word_long))
    ∙ ap (λ t. low_number free nodes word (by + j) + 2 ^ (by + j) * digit t) (ap (λ k. truth free nodes (bit_at word k)) (sym place) ∙ sym (same j (omega arith)))
    ∙ ap (λ p. low_number free nodes word (by + j) + p * digit (truth free nodes (bit_at moved j))) (pow-add 2 by j)
    ∙ down_step (2 ^ by) (2 ^ j) (low_number free nodes word (by + j)) (low_number free nodes word by) (low_number free nodes moved j) (digit (truth free nodes (bit_at moved j))) (moved_down-low free nodes moved word by long word_long same j (omega arith))
    ∙ ap (λ n. low_number free nodes word by + 2 ^ by * n) (sym (low_number-suc free nodes moved j (omega (arith, long))))

-- the bits moved down, with a truth value above them
pub moved_down-number : (free : ℕ → Bool) (nodes : List Node) (moved word : List Bit) (by : ℕ) (v : Bool) → by ≤ 32 → length moved ≡ 32 → length word ≡ 32
    → (fill : Bit) → truth free nodes fill ≡ v
    → ((place : ℕ) → place < 32 → bit_at moved place ≡ (if nat_lt place (32 - by) then bit_at word (place + by) else fill))
    → number_of free nodes moved ≡ number_of free nodes word / 2 ^ by + digit v * (2 ^ 32 - 2 ^ (32 - by))
moved_down-number free nodes moved word by v few long word_long fill is places =
    let below : (place : ℕ) → place + by < 32 → truth free nodes (bit_at moved place) ≡ truth free nodes (bit_at word (place + by)) =
    λ place within.
    let tests : nat_lt place (32 - by) ≡ true = grind (arith, nat_tests) in
    ap (truth free nodes) (places place (omega arith) ∙ ap (λ t. if t then bit_at word (place + by) else fill) tests) in
    let above : (place : ℕ) → 32 - by ≤ place → place < 32 → truth free nodes (bit_at moved place) ≡ v =
    λ place from within.
    let tests : nat_lt place (32 - by) ≡ false = grind (arith, nat_tests) in
    ap (truth free nodes) (places place within ∙ ap (λ t. if t then bit_at word (place + by) else fill) tests) ∙ is in
    let whole : by + (32 - by) ≡ 32 = omega arith in
    let split : number_of free nodes word ≡ low_number free nodes word by + 2 ^ by * low_number free nodes moved (32 - by) =
    sym (low_number-all free nodes word 32 (omega (arith, word_long))) ∙ ap (low_number free nodes word) (sym whole)
    ∙ moved_down-low free nodes moved word by long word_long below (32 - by) (omega arith) in
    let quotient : number_of free nodes word / 2 ^ by ≡ low_number free nodes moved (32 - by) =
    ap (λ n. n / 2 ^ by) (split ∙ turned (low_number free nodes word by) (2 ^ by) (low_number free nodes moved (32 - by)))
    ∙ div-mul-add (low_number free nodes moved (32 - by)) (2 ^ by) (low_number free nodes word by) (low_number_below free nodes word by (omega (arith, word_long))) in
    let filled = filled-number free nodes moved (32 - by) v long (omega arith) above in
    let most : 2 ^ (32 - by) ≤ 2 ^ 32 = power_most (32 - by) (omega arith) in
    ends v (number_of free nodes moved) (2 ^ (32 - by)) (low_number free nodes moved (32 - by)) (number_of free nodes word / 2 ^ by) filled most quotient
  where
    turned : (l p w : ℕ) → l + p * w ≡ w * p + l
    turned l p w = grind arith

    ends : (v : Bool) (n p l q : ℕ) → n + digit v * p ≡ l + digit v * 2 ^ 32 → p ≤ 2 ^ 32 → q ≡ l → n ≡ q + digit v * (2 ^ 32 - p)
    ends true n p l q filled most same = omega arith
    ends false n p l q filled most same = omega arith

    power_most : (n : ℕ) → n ≤ 32 → 2 ^ n ≤ 2 ^ 32
    power_most n few = pow-le-pow_right {n = 2} (omega arith) few
