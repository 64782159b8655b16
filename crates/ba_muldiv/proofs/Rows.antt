-- Words of digits, and the rows of a product.

use mathlib.Core.Bool.{beq}
use Rattle.std.proofs.Common.{◌≡◌, ℕ, zero, suc, ◌+◌, ◌-◌, ◌*◌, ◌/◌, ◌%◌, ◌^◌, ◌<◌, ◌≤◌, ◌==◌, Bool, true, false, not, nat_lt, nat_le, ◌&&◌, ◌||◌, List, [], ◌∷◌, length, map, set, drop, replicate, ◌⊎◌, inl, inr, refl, sym, ap, subst, ◌∙◌, arith, if◌then◌else◌, true≢false}
use Rattle.std.proofs.lemmas.List.{get_or-map, get_or_past, length-map, drop_more, length-drop}
use Rattle.std.proofs.lemmas.Nat.{div-add-mod', mod-mul-add, mod-pow-add, mod_below, mul-mod_second, pow-add, pow_pos}
use Rattle.std.proofs.Math.Nat.{mul-add, mul-suc, mul-add-mod_self_right, mul-mod_left, pow-le-pow_right}
use Rattle.std.proofs.Math.Bool.{and-true, or-false}
use Rattle.std.proofs.lemmas.Bool.{false≢true}
use Rattle.std.proofs.lemmas.Bool.{cases_lt}
use Rattle.std.proofs.lemmas.Bool.Decides.{nat_tests}
use Rattle.ba_nodes.specs.declared.Bit.{Bit}
use Rattle.ba_nodes.specs.declared.Node.{Node}
use Rattle.ba_nodes.specs.Gates.{bool_xor, constant_bit, truth, IsBitOf, Extends}
use Rattle.ba_nodes.proofs.Truths.{truth-constant}
use Rattle.ba_words.specs.Words.{digit, spelled, number_of, low_number, bit_at, AreBitsOf}
use Rattle.ba_words.proofs.Digits.{spelled_below}
use Rattle.ba_words.proofs.Places.{power_more, low_number-more, low_number-all}
use Rattle.ba_words.proofs.Circuits.{low_number_below, argument-more, number_small, number-highest}
use Rattle.ba_words.proofs.Shapes.{number-split, filled-number, low_number-same}
use Rattle.ba_words.proofs.Values.{powers}
use Rattle.ba_muldiv.specs.Division.{is_negative, high_number, multiple_of, sum_or_difference}
use Rattle.ba_muldiv.proofs.Steps.{next_value, wider_step, whole_fits, whole_left, narrow_fits, narrow_left, le_false, le_from_true, lt_from_false, top_is}

-- ---- words

-- the places of a word of zeros
pub zeros-places : (n place : ℕ) (bit : Bit) → bit ≡ constant_bit false →
    bit_at (replicate n bit) place ≡ constant_bit false
zeros-places zero place bit is = refl
zeros-places (suc n) zero bit is = is
zeros-places (suc n) (suc place) bit is = zeros-places n place bit is

-- the lowest bit is written, if it was false
pub number-set_first : (free : ℕ → Bool) (nodes : List Node) (word : List Bit) (bit : Bit) →
    0 < length word → truth free nodes (bit_at word 0) ≡ false
    → number_of free nodes (set word 0 bit) ≡ number_of free nodes word + digit (truth free nodes bit)
number-set_first free nodes [] bit some none = absurd (omega arith)
number-set_first free nodes (first ∷ word) bit some none =
    omega arith ∙ ap (λ t. digit t + 2 * number_of free nodes word + digit (truth free nodes bit)) (sym none)

-- the low places of a word, with zeros above them
pub extended-number : (free : ℕ → Bool) (nodes : List Node) (wide word : List Bit) (width : ℕ) (fill : Bit)
    → length wide ≡ 32 → length word ≡ 32 → width ≤ 32 → truth free nodes fill ≡ false
    → ((place : ℕ) → place < 32 → bit_at wide place
    ≡ (if nat_lt place width then bit_at word place else fill)) →
    number_of free nodes wide ≡ low_number free nodes word width
extended-number free nodes wide word width fill long word_long few none places =
    let above : (place : ℕ) → width ≤ place → place < 32 → truth free nodes (bit_at wide place) ≡ false =
    λ place from within.
    let test : nat_lt place width ≡ false = grind (arith, nat_tests) in
    ap (truth free nodes) (places place within ∙ ap (λ t. if t then bit_at word place else fill) test)
    ∙ none in
    let below : (place : ℕ) → place < width → truth free nodes (bit_at wide place)
    ≡ truth free nodes (bit_at word place) =
    λ place within.
    let test : nat_lt place width ≡ true = grind (arith, nat_tests) in
    ap (truth free nodes) (places place (omega arith)
    ∙ ap (λ t. if t then bit_at word place else fill) test) in
    let filled : number_of free nodes wide + digit false * 2 ^ width
    ≡ low_number free nodes wide width + digit false * 2 ^ 32 =
    filled-number free nodes wide width false long few above in
    omega (arith, filled) ∙ low_number-same free nodes nodes wide word width (omega (arith, long))
    (omega (arith, word_long)) below

-- the upper places, and one more
pub high_number-more : (free : ℕ → Bool) (nodes : List Node) (word : List Bit) (i : ℕ) → i < length word →
    high_number free nodes word i ≡ digit (truth free nodes (bit_at word i)) + 2 * high_number free nodes
    word (i + 1)
high_number-more free nodes word i within =
    let inside : i < length (map (truth free nodes) word) =
    omega (arith, length-map word (truth free nodes)) in
    ap spelled (drop_more (map (truth free nodes) word) i false inside)
    ∙ ap (λ t. digit t + 2 * high_number free nodes word (i + 1))
    (get_or-map (truth free nodes) word i (constant_bit false) false within)

pub high_number_below : (free : ℕ → Bool) (nodes : List Node) (word : List Bit) (i j : ℕ) →
    length word ≡ i + j → high_number free nodes word i < 2 ^ j
high_number_below free nodes word i j long =
    let size : length (drop i (map (truth free nodes) word)) ≡ j =
    length-drop i (map (truth free nodes) word) ∙ omega (arith, length-map word (truth free nodes)) in
    subst (λ n. high_number free nodes word i < 2 ^ n) size
    (spelled_below (drop i (map (truth free nodes) word)))

-- ---- rows

-- what is still to come, before a row and after it
pub row_step : (p q : Bool) (t next r x al ab am : ℕ) → r ≡ (if bool_xor q p then x % 2 ^ 32 else 0) →
    next ≡ sum_or_difference q t r
    → (t + (al + x * digit p)) % 2 ^ 32 ≡ (ab + (am + x * digit q)) % 2 ^ 32 →
    (next + al) % 2 ^ 32 ≡ (ab + am) % 2 ^ 32
row_step true true t next r x al ab am r_is is before = omega arith
row_step true false t next r x al ab am r_is is before = omega arith
row_step false true t next r x al ab am r_is is before = omega arith
row_step false false t next r x al ab am r_is is before = omega arith

spread_digit : (a l q d : ℕ) → a * (l + q * d) ≡ a * l + a * q * d
spread_digit a l q d = grind arith

pub rows_more : (p q : Bool) (a t next r low lower minus less power factor : ℕ) →
    r ≡ (if bool_xor q p then (a * power) % 2 ^ 32 else 0) → next ≡ sum_or_difference q t r
    → low ≡ lower + power * digit p → minus ≡ less + power * digit q
    → (t + a * low) % 2 ^ 32 ≡ (a * factor + a * minus) % 2 ^ 32 →
    (next + a * lower) % 2 ^ 32 ≡ (a * factor + a * less) % 2 ^ 32
rows_more p q a t next r low lower minus less power factor r_is is low_is minus_is before =
    row_step p q t next r (a * power) (a * lower) (a * factor) (a * less) r_is is
    (sym (λ i. (t + (ap (λ n. a * n) low_is ∙ spread_digit a lower power (digit p)) i) % 2 ^ 32)
    ∙ before
    ∙ (λ i. (a * factor + (ap (λ n. a * n) minus_is ∙ spread_digit a less power (digit q)) i) % 2 ^ 32))

pub zero_first : (n : ℕ) → (0 + n) % 2 ^ 32 ≡ n % 2 ^ 32
zero_first n = omega arith

-- before the first row all digits are still to come
pub rows_first : (a t plus factor minus : ℕ) → t ≡ 0 → plus ≡ (factor + minus) % 2 ^ 32 →
    (t + a * plus) % 2 ^ 32 ≡ (a * factor + a * minus) % 2 ^ 32
rows_first a t plus factor minus none is =
    (λ i. (none i + a * is i) % 2 ^ 32)
    ∙ zero_first (a * ((factor + minus) % 2 ^ 32))
    ∙ mul-mod_second a (factor + minus) (2 ^ 32)
    ∙ ap (λ n. n % 2 ^ 32) (mul-add a factor minus)

pub rows_last : (a t factor : ℕ) → t < 2 ^ 32 → (t + a * 0) % 2 ^ 32 ≡ (a * factor + a * 0) % 2 ^ 32 →
    t ≡ (a * factor) % 2 ^ 32
rows_last a t factor small before = omega arith

-- a digit more of a number
pub digits_more : (n k d : ℕ) → d ≡ n / 2 ^ k % 2 → n % 2 ^ (k + 1) ≡ n % 2 ^ k + 2 ^ k * d
digits_more n k d is =
    let next : k + 1 ≡ 1 + k = omega arith in
    ap (λ e. n % 2 ^ e) next ∙ mod-pow-add n 1 k ∙ turned_sum (n / 2 ^ k % 2) (2 ^ k) (n % 2 ^ k)
    ∙ ap (λ d. n % 2 ^ k + 2 ^ k * d) (sym is)
  where
    turned_sum : (d p r : ℕ) → d * p + r ≡ r + p * d
    turned_sum d p r = grind arith

-- the digit of a test for an odd number
pub digit_odd : (n : ℕ) → digit (n % 2 == 1) ≡ n % 2
digit_odd n = by_rest (n % 2) (mod_below n 2 (omega arith))
  where
    by_rest : (r : ℕ) → r < 2 → digit (r == 1) ≡ r
    by_rest zero small = refl
    by_rest (suc zero) small = refl
    by_rest (suc (suc r)) small = absurd (omega arith)

-- nothing is left of a number by the first power
pub mod_first : (n k : ℕ) → k ≡ 0 → n % 2 ^ k ≡ 0
mod_first n k is = ap (λ e. n % 2 ^ e) is ∙ omega (arith, mod_below n (2 ^ 0) (omega arith))

-- the other digit of two that differ
pub other_false : (p q : Bool) → beq p q ≡ false → q ≡ true → p ≡ false
other_false true q differ is = absurd (true≢false (sym (ap (beq true) is) ∙ differ))
other_false false q differ is = refl

pub other_true : (p q : Bool) → beq p q ≡ false → q ≡ false → p ≡ true
other_true true q differ is = refl
other_true false q differ is = absurd (true≢false (sym (ap (beq false) is) ∙ differ))

-- a row without a word
pub row_none : (p q : Bool) (s x : ℕ) → beq p q ≡ true → s < 2 ^ 32 →
    s ≡ sum_or_difference q s (if bool_xor q p then x else 0)
row_none true true s x same small = omega arith
row_none true false s x same small = absurd (false≢true same)
row_none false true s x same small = absurd (false≢true same)
row_none false false s x same small = omega arith

-- a row with the word taken away, by its complement f and a carry
pub row_taken : (p : Bool) (s f a power : ℕ) → p ≡ false → f + a + 1 ≡ 2 ^ 32 →
    (s + (f + 1) * power) % 2 ^ 32 ≡ sum_or_difference true s (if bool_xor true p then (a * power) % 2 ^ 32
    else 0)
row_taken true s f a power none whole = absurd (true≢false none)
row_taken false s f a power none whole =
    let parts : (f + 1) * power + a * power ≡ (f + a + 1) * power = joined f a power in
    let all : (f + a + 1) * power ≡ 2 ^ 32 * power = ap (λ n. n * power) whole in
    omega arith
  where
    joined : (f a p : ℕ) → (f + 1) * p + a * p ≡ (f + a + 1) * p
    joined f a p = grind arith

-- a row with the word added
pub row_added : (p : Bool) (s a power : ℕ) → p ≡ true →
    (s + (a + 0) * power) % 2 ^ 32 ≡ sum_or_difference false s (if bool_xor false p then (a * power) % 2 ^
    32 else 0)
row_added true s a power one =
    let plain : (a + 0) * power ≡ a * power = grind arith in
    omega arith
row_added false s a power one = absurd (false≢true one)

-- ---- multiples

-- the one of three numbers that two digits say, or 0
abbrev pub chosen_of : Bool → Bool → ℕ → ℕ → ℕ → ℕ
chosen_of true true m n k = k
chosen_of true false m n k = n
chosen_of false true m n k = m
chosen_of false false m n k = 0

-- a place more of it
pub chosen_more : (high low : Bool) (p m n k : ℕ) (x y z : Bool) →
    chosen_of high low m n k + p * digit ((((low && not high) && x) || ((high && not low) && y)) || ((high
    && low) && z))
    ≡ chosen_of high low (m + p * digit x) (n + p * digit y) (k + p * digit z)
chosen_more true true p m n k x y z = refl
chosen_more true false p m n k x y z = ap (λ t. n + p * digit t) (or-false y)
chosen_more false true p m n k x y z =
    ap (λ t. m + p * digit t) (or-false (x || false) ∙ or-false x)
chosen_more false false p m n k x y z = omega arith

mod_mod : (n w z : ℕ) → z * 2 ^ w ≡ 2 ^ 32 → (n % 2 ^ 32) % 2 ^ w ≡ n % 2 ^ w
mod_mod n w z whole =
    let split : n / 2 ^ 32 * 2 ^ 32 + n % 2 ^ 32 ≡ n = div-add-mod' n (2 ^ 32) in
    let turns : n / 2 ^ 32 * z * 2 ^ w ≡ n / 2 ^ 32 * 2 ^ 32 =
    regrouped (n / 2 ^ 32) z (2 ^ w) ∙ ap (λ m. n / 2 ^ 32 * m) whole in
    sym (ap (λ m. m % 2 ^ w) (sym split ∙ ap (λ m. m + n % 2 ^ 32) (sym turns))
    ∙ mul-add-mod_self_right (n / 2 ^ 32 * z) (2 ^ w) (n % 2 ^ 32))
  where
    regrouped : (a b c : ℕ) → a * b * c ≡ a * (b * c)
    regrouped a b c = grind arith

-- the low places of a word, of its double or of its triple
pub multiple_low : (high low : Bool) (n m k w : ℕ) → w ≤ 32 → m ≡ (n * 2 ^ 1) % 2 ^ 32 →
    k ≡ (3 * n) % 2 ^ 32 →
    chosen_of high low (n % 2 ^ w) (m % 2 ^ w) (k % 2 ^ w) ≡ multiple_of high low n % 2 ^ w
multiple_low true true n m k w few m_is k_is =
    ap (λ x. x % 2 ^ w) k_is ∙ mod_mod (3 * n) w (2 ^ (32 - w)) (powers w few)
multiple_low true false n m k w few m_is k_is =
    let double : n * 2 ^ 1 ≡ (0 + 2 * 1) * n = omega arith in
    ap (λ x. x % 2 ^ w) m_is ∙ mod_mod (n * 2 ^ 1) w (2 ^ (32 - w)) (powers w few) ∙ ap (λ x. x % 2 ^ w)
    double
multiple_low false true n m k w few m_is k_is =
    let same : n ≡ (1 + 2 * 0) * n = omega arith in
    ap (λ x. x % 2 ^ w) same
multiple_low false false n m k w few m_is k_is =
    let none : (0 + 2 * 0) * n ≡ 0 * 2 ^ w = omega arith in
    sym (ap (λ x. x % 2 ^ w) none ∙ mul-mod_left 0 (2 ^ w))

pub chosen_zero : (high low : Bool) → 0 ≡ chosen_of high low 0 0 0
chosen_zero true true = refl
chosen_zero true false = refl
chosen_zero false true = refl
chosen_zero false false = refl

pub triple : (n t d : ℕ) → d ≡ 0 → t ≡ (n + (n + d) * 2 ^ 1) % 2 ^ 32 → t ≡ (3 * n) % 2 ^ 32
triple n t d none is = omega arith

pub multiples_last : (a t whole : ℕ) → t < 2 ^ 32 → (t + a * 0) % 2 ^ 32 ≡ whole → t ≡ whole
multiples_last a t whole small holds = omega arith

-- the sum with a multiple of which the low places alone are known, moved up
pub moved_multiple : (t x d w p : ℕ) → x ≡ d % 2 ^ w → w + p ≡ 32 →
    (t + (x + 0) * 2 ^ p) % 2 ^ 32 ≡ (t + d * 2 ^ p) % 2 ^ 32
moved_multiple t x d w p is whole =
    let split : d / 2 ^ w * 2 ^ w + d % 2 ^ w ≡ d = div-add-mod' d (2 ^ w) in
    let power : 2 ^ w * 2 ^ p ≡ 2 ^ 32 = sym (pow-add 2 w p) ∙ ap (λ e. 2 ^ e) whole in
    let parts : (d / 2 ^ w * 2 ^ w + x) * 2 ^ p ≡ d / 2 ^ w * (2 ^ w * 2 ^ p) + (x + 0) * 2 ^ p =
    spread (d / 2 ^ w) (2 ^ w) x (2 ^ p) in
    let turns : d / 2 ^ w * (2 ^ w * 2 ^ p) ≡ d / 2 ^ w * 2 ^ 32 = ap (λ n. d / 2 ^ w * n) power in
    let all : d * 2 ^ p ≡ d / 2 ^ w * 2 ^ 32 + (x + 0) * 2 ^ p =
    ap (λ n. n * 2 ^ p) (sym split ∙ ap (λ n. d / 2 ^ w * 2 ^ w + n) (sym is)) ∙ parts
    ∙ ap (λ n. n + (x + 0) * 2 ^ p) turns in
    omega arith
  where
    spread : (q a x b : ℕ) → (q * a + x) * b ≡ q * (a * b) + (x + 0) * b
    spread q a x b = grind arith

-- what is still to come, with two digits less
pub multiples_more : (high low : Bool) (a t x next before after w p : ℕ) → w + p ≡ 32 →
    x ≡ multiple_of high low a % 2 ^ w → next ≡ (t + (x + 0) * 2 ^ p) % 2 ^ 32 →
    before ≡ after + 2 ^ p * (digit low + 2 * digit high) → (whole : ℕ) →
    (t + a * before) % 2 ^ 32 ≡ whole → (next + a * after) % 2 ^ 32 ≡ whole
multiples_more high low a t x next before after w p split x_is is before_is whole holds =
    let value : next ≡ (t + multiple_of high low a * 2 ^ p) % 2 ^ 32 =
    is ∙ moved_multiple t x (multiple_of high low a) w p x_is split in
    let parts : a * before ≡ multiple_of high low a * 2 ^ p + a * after =
    ap (λ n. a * n) before_is ∙ spread a after (2 ^ p) (digit low + 2 * digit high) in
    step next t (multiple_of high low a * 2 ^ p) (a * after) (a * before) value parts ∙ holds
  where
    spread : (a r p d : ℕ) → a * (r + p * d) ≡ d * a * p + a * r
    spread a r p d = grind arith

    step : (next t u v b : ℕ) → next ≡ (t + u) % 2 ^ 32 → b ≡ u + v → (next + v) % 2 ^ 32 ≡ (t + b) % 2 ^ 32
    step next t u v b value parts = omega arith

-- ---- divisions

-- whether a word has a one at a place or above it
pub wider_more : (free : ℕ → Bool) (initial nodes : List Node) (word : List Bit) (k : ℕ) (b : Bool) →
    length word ≡ 32 → AreBitsOf initial word → Extends initial nodes → k < 32
    → b ≡ nat_le (2 ^ (k + 1)) (number_of free initial word) →
    (b || truth free nodes (bit_at word k)) ≡ nat_le (2 ^ k) (number_of free initial word)
wider_more free initial nodes word k b long bits extends small is =
    ap (λ b. b || truth free nodes (bit_at word k)) is
    ∙ wider_step (2 ^ k) (2 ^ (k + 1)) (low_number free initial word k)
    (high_number free initial word (k + 1)) (number_of free initial word)
    (truth free nodes (bit_at word k)) (power_more k)
    (number-split free initial word (k + 1) (omega (arith, long))
    ∙ ap (λ n. n + 2 ^ (k + 1) * high_number free initial word (k + 1))
    (argument-more free initial nodes word k (omega (arith, long)) bits extends))
    (low_number_below free initial word k (omega (arith, long)))

-- the sign of a word
pub sign_value : (free : ℕ → Bool) (nodes : List Node) (word : List Bit) (signed : Bool) →
    length word ≡ 32 → (signed && truth free nodes (bit_at word 31))
    ≡ is_negative signed (number_of free nodes word)
sign_value free nodes word signed long =
    ap (λ t. signed && t)
    (top_is (number_of free nodes word) (low_number free nodes word 31) (truth free nodes (bit_at word 31))
    (number-highest free nodes word long) (low_number_below free nodes word 31 (omega (arith, long))))

pub sign_bit : (nodes : List Node) (word : List Bit) (bit : Bit) (signed : Bool) →
    bit ≡ (if signed then bit_at word 31 else constant_bit false) → AreBitsOf nodes word → IsBitOf nodes bit
sign_bit nodes word bit true is bits = subst (IsBitOf nodes) (sym is) (bits 31)
sign_bit nodes word bit false is bits = subst (IsBitOf nodes) (sym is) (omega arith)

-- what is left, and the next place brought down
pub next_is : (free : ℕ → Bool) (initial nodes : List Node) (dividend : List Bit) (k i d r n : ℕ) →
    length dividend ≡ 32 → AreBitsOf initial dividend → Extends initial nodes → k + 1 + i ≡ 32
    → r ≡ high_number free initial dividend (k + 1) % d →
    n ≡ (2 * r + digit (truth free nodes (bit_at dividend k))) % 2 ^ 32
    → n ≡ 2 * (high_number free initial dividend (k + 1) % d) + digit (truth free initial (bit_at dividend k))
next_is free initial nodes dividend k i d r n long bits extends whole r_is is =
    next_value i (high_number free initial dividend (k + 1)) d r n (truth free initial (bit_at dividend k))
    (omega arith)
    (high_number_below free initial dividend (k + 1) i (long ∙ sym whole)) r_is
    (is ∙ ap (λ t. (2 * r + digit t) % 2 ^ 32) (extends.keeps free (bit_at dividend k) (bits k)))

-- ---- the width of a word

-- a word with no one from a place on
pub number_low : (free : ℕ → Bool) (nodes : List Node) (word : List Bit) (n : ℕ) → length word ≡ 32 → n ≤ 32
    → ((place : ℕ) → n ≤ place → place < 32 → truth free nodes (bit_at word place) ≡ false) →
    number_of free nodes word < 2 ^ n
number_low free nodes word n long few above =
    let filled : number_of free nodes word + digit false * 2 ^ n
    ≡ low_number free nodes word n + digit false * 2 ^ 32 =
    filled-number free nodes word n false long few above in
    omega (arith, filled, low_number_below free nodes word n (omega (arith, long)))

-- a word with a one at a place
pub number_above : (free : ℕ → Bool) (nodes : List Node) (word : List Bit) (k : ℕ) → length word ≡ 32 →
    k < 32 → truth free nodes (bit_at word k) ≡ true
    → 2 ^ k ≤ number_of free nodes word
number_above free nodes word k long small is =
    let more : low_number free nodes word (k + 1) ≡ low_number free nodes word k + 2 ^ k * 1 =
    low_number-more free nodes word k (omega (arith, long))
    ∙ ap (λ t. low_number free nodes word k + 2 ^ k * digit t) is in
    omega (arith, more, number-split free nodes word (k + 1) (omega (arith, long)))

-- a word with a one
pub number_positive : (free : ℕ → Bool) (nodes : List Node) (word : List Bit) (k : ℕ) → length word ≡ 32 →
    k < 32 → truth free nodes (bit_at word k) ≡ true → 0 < number_of free nodes word
number_positive free nodes word k long small is =
    omega (arith, pow_pos k, number_above free nodes word k long small is)

-- the low places alone, if there are no others
pub low_whole : (free : ℕ → Bool) (nodes : List Node) (word : List Bit) (n : ℕ) → length word ≡ 32 →
    n ≤ 32 → number_of free nodes word < 2 ^ n → low_number free nodes word n ≡ number_of free nodes word
low_whole free nodes word n long few small = whole (high_number free nodes word n)
    (number-split free nodes word n (omega (arith, long)))
  where
    whole : (h : ℕ) → number_of free nodes word ≡ low_number free nodes word n + 2 ^ n * h →
        low_number free nodes word n ≡ number_of free nodes word
    whole zero split = omega arith
    whole (suc h) split =
        let more : 2 ^ n * suc h ≡ 2 ^ n * h + 2 ^ n = mul-suc (2 ^ n) h in
        absurd (omega arith)

-- the low places are what is left by a power of two
pub low_number-mod : (free : ℕ → Bool) (nodes : List Node) (word : List Bit) (n : ℕ) → n ≤ length word →
    low_number free nodes word n ≡ number_of free nodes word % 2 ^ n
low_number-mod free nodes word n few =
    let turned : low_number free nodes word n + 2 ^ n * high_number free nodes word n
    ≡ high_number free nodes word n * 2 ^ n + low_number free nodes word n = grind arith in
    sym (ap (λ m. m % 2 ^ n) (number-split free nodes word n few ∙ turned)
    ∙ mod-mul-add (high_number free nodes word n) (2 ^ n) (low_number free nodes word n)
    (low_number_below free nodes word n few))

-- ---- a step of a division

turned : (l p h : ℕ) → l + p * h ≡ h * p + l
turned l p h = grind arith

-- the low places of the remainder, without those of the divisor
module _ (free : ℕ → Bool) (old middle : List Node)
    (rest divisor low low_divisor complement difference : List Bit) (carry : Bit) (width known kept : ℕ)
    (rest_long : length rest ≡ 32) (divisor_long : length divisor ≡ 32) (difference_long : length difference
    ≡ 32)
    (few : width ≤ 32) (first : kept ≤ width) (one : (kept ≡ width) ⊎ (kept ≡ known))
    (small : number_of free old rest < 2 ^ width) (narrow : number_of free old divisor < 2 ^ known)
    (known_few : known ≤ 32)
    (twice : known < 32 → number_of free old rest < 2 * number_of free old divisor)
    (low_is : number_of free old low ≡ low_number free old rest kept)
    (low_divisor_is : number_of free old low_divisor ≡ low_number free old divisor kept)
    (whole : number_of free old complement + number_of free old low_divisor + 1 ≡ 2 ^ 32)
    (sum : number_of free middle difference + 2 ^ 32 * digit (truth free middle carry)
    ≡ number_of free old low + number_of free old complement + 1) where
  -- all places are kept, or the divisor has no more
  kept_is : (kept ≡ width) ⊎ ((number_of free old divisor < 2 ^ kept)
      × (number_of free old rest < 2 * number_of free old divisor))
  kept_is = elim one [
    | inl here ↦ inl here
    | inr here ↦ elim (cases_lt known 32) [
      | inl below ↦ inr (subst (λ n. number_of free old divisor < 2 ^ n) (sym here) narrow, twice below)
      | inr above ↦ inl (omega arith)
    ]
  ]

  one_more : number_of free old rest < 2 * 2 ^ kept
  one_more = elim kept_is [
    | inl here ↦ omega (arith, subst (λ n. number_of free old rest < 2 ^ n) (sym here) small)
    | inr here ↦ omega (arith, here.0, here.1)
  ]

  rest_is : number_of free old rest ≡ low_number free old rest kept + 2 ^ kept * digit
      (truth free old (bit_at rest kept))
  rest_is = elim (cases_lt kept 32) [
    | inl below ↦
        sym (low_whole free old rest (kept + 1) rest_long (omega arith)
        (omega (arith, one_more, power_more kept)))
        ∙ low_number-more free old rest kept (omega (arith, rest_long))
    | inr above ↦
        let past : length rest ≤ kept = omega (arith, rest_long) in
        let none : truth free old (bit_at rest kept) ≡ false =
        ap (truth free old) (get_or_past rest kept (constant_bit false) past)
        ∙ truth-constant free old false in
        sym (low_number-all free old rest kept past) ∙ omega arith
        ∙ sym (ap (λ t. low_number free old rest kept + 2 ^ kept * digit t) none)
  ]

  low_sum : number_of free middle difference + 2 ^ 32 * digit (truth free middle carry)
      ≡ low_number free old rest kept + number_of free old complement + 1
  low_sum = sum ∙ ap (λ n. n + number_of free old complement + 1) low_is

  low_whole_divisor : number_of free old complement + low_number free old divisor kept + 1 ≡ 2 ^ 32
  low_whole_divisor = sym (ap (λ n. number_of free old complement + n + 1) low_divisor_is) ∙ whole

  narrow_sum : number_of free old divisor < 2 ^ kept →
      number_of free middle difference + 2 ^ 32 * digit (truth free middle carry) + number_of free old
      divisor ≡ low_number free old rest kept + 2 ^ 32
  narrow_sum below = omega (
    arith,
    low_sum,
    low_whole_divisor,
    low_whole free old divisor kept divisor_long
        (omega arith) below,
  )

  pub fits_value : ((truth free middle carry || truth free old (bit_at rest kept))
      && not (nat_le (2 ^ width) (number_of free old divisor)))
      ≡ nat_le (number_of free old divisor) (number_of free old rest)
  fits_value = elim kept_is [
    | inl here ↦
        ap (λ n. (truth free middle carry || truth free old (bit_at rest kept))
        && not (nat_le (2 ^ n) (number_of free old divisor))) (sym here)
        ∙ whole_fits (2 ^ kept) (number_of free old rest) (number_of free old divisor)
        (low_number free old rest kept) (low_number free old divisor kept)
        (number_of free middle difference) (number_of free old complement)
        (high_number free old divisor kept) (truth free middle carry)
        (subst (λ n. number_of free old rest < 2 ^ n) (sym here) small)
        (low_number_below free old divisor kept (omega (arith, divisor_long)))
        (number_small free middle difference difference_long) low_whole_divisor low_sum
        (number-split free old divisor kept (omega (arith, divisor_long)))
        (truth free old (bit_at rest kept)) rest_is
    | inr here ↦
        let most : 2 ^ kept ≤ 2 ^ width = pow-le-pow_right {n = 2} (omega arith) first in
        ap (λ b. (truth free middle carry || truth free old (bit_at rest kept)) && not b)
        (le_false (2 ^ width) (number_of free old divisor) (omega (arith, most, here.0)))
        ∙ and-true (truth free middle carry || truth free old (bit_at rest kept))
        ∙ narrow_fits (2 ^ kept) (number_of free old rest) (number_of free old divisor)
        (low_number free old rest kept) (number_of free middle difference) (truth free middle carry)
        (truth free old (bit_at rest kept))
        rest_is here.0 (number_small free middle difference difference_long) (narrow_sum here.0)
  ]

  pub left_value : nat_le (number_of free old divisor) (number_of free old rest) ≡ true →
      low_number free middle difference kept ≡ number_of free old rest - number_of free old divisor
  left_value fits = elim kept_is [
    | inl here ↦
        whole_left (2 ^ kept) (number_of free old rest) (number_of free old divisor)
        (low_number free old rest kept) (low_number free old divisor kept)
        (number_of free middle difference) (number_of free old complement)
        (high_number free old divisor kept) (truth free middle carry)
        (subst (λ n. number_of free old rest < 2 ^ n) (sym here) small)
        (low_number_below free old divisor kept (omega (arith, divisor_long)))
        (number_small free middle difference difference_long) low_whole_divisor low_sum
        (number-split free old divisor kept (omega (arith, divisor_long)))
        (truth free old (bit_at rest kept)) (low_number free middle difference kept)
        (high_number free middle difference kept) rest_is
        (number-split free middle difference kept (omega (arith, difference_long))) (le_from_true _ _ fits)
    | inr here ↦
        let split : number_of free middle difference ≡ high_number free middle difference kept * 2 ^ kept
        + low_number free middle difference kept =
        number-split free middle difference kept (omega (arith, difference_long))
        ∙ turned (low_number free middle difference kept) (2 ^ kept)
        (high_number free middle difference kept) in
        narrow_left (2 ^ kept) (number_of free old rest) (number_of free old divisor)
        (low_number free old rest kept) (number_of free middle difference)
        (low_number free middle difference kept)
        (2 ^ (32 - kept)) (high_number free middle difference kept) (truth free middle carry)
        (truth free old (bit_at rest kept)) rest_is here.0
        (number_small free middle difference difference_long)
        (narrow_sum here.0) split (low_number_below free middle difference kept
        (omega (arith, difference_long))) (powers kept (omega arith)) here.1 (le_from_true _ _ fits)
  ]

  pub rest_value : nat_le (number_of free old divisor) (number_of free old rest) ≡ false →
      low_number free old rest kept ≡ number_of free old rest
  rest_value fails =
      let below : number_of free old rest < number_of free old divisor = lt_from_false _ _ fails in
      low_whole free old rest kept rest_long (omega arith)
      (elim kept_is [
        | inl here ↦ subst (λ n. number_of free old rest < 2 ^ n) (sym here) small
        | inr here ↦ omega (arith, here.0)
      ])
