-- Numbers spelled by binary digits.

use Rattle.std.proofs.Common.{◌≡◌, ℕ, zero, suc, ◌+◌, ◌*◌, ◌^◌, ◌<◌, ◌≤◌, Bool, true, false, not, ◌&&◌, ◌||◌, List, [], ◌∷◌, ◌++◌, length, map, get_or, take, replicate, bit_and, bit_or, bit_xor, refl, sym, ap, ◌∙◌, arith}
use Rattle.std.proofs.Math.Nat.{pow-suc}
use Rattle.std.proofs.lemmas.Nat.{and_block, or_block, xor_block}
use Rattle.std.proofs.lemmas.List.{take_more, length-take-le}
use Rattle.ba_nodes.specs.Gates.{bool_xor}
use Rattle.ba_words.specs.Words.{digit, spelled}

-- the next power of two
pub twice : (n : ℕ) → 2 ^ suc n ≡ 2 * 2 ^ n
twice n = omega (arith, pow-suc 2 n)

pub digit_small : (bit : Bool) → digit bit ≤ 1
digit_small true = omega arith
digit_small false = omega arith

pub spelled_below : (bits : List Bool) → spelled bits < 2 ^ length bits
spelled_below [] = omega arith
spelled_below (bit ∷ bits) = omega (arith, spelled_below bits, twice (length bits), digit_small bit)

regroup : (a b s n y : ℕ) → a + 2 * (s + n * y) ≡ a + 2 * s + (2 * n) * y
regroup a b s n y = grind arith

pub spelled-append : (xs ys : List Bool) → spelled (xs ++ ys) ≡ spelled xs + 2 ^ length xs * spelled ys
spelled-append [] ys = omega arith
spelled-append (x ∷ xs) ys =
    ap (λ n. digit x + 2 * n) (spelled-append xs ys)
    ∙ regroup (digit x) 0 (spelled xs) (2 ^ length xs) (spelled ys)
    ∙ ap (λ p. digit x + 2 * spelled xs + p * spelled ys) (sym (twice (length xs)))

-- one digit more
pub spelled-take_more : (bits : List Bool) (i : ℕ) → i < length bits → spelled (take (i + 1) bits) ≡ spelled (take i bits) + 2 ^ i * digit (get_or bits i false)
spelled-take_more bits i within =
    let size : length (take i bits) ≡ i = length-take-le i bits (omega arith) in
    ap spelled (take_more bits i false within)
    ∙ spelled-append (take i bits) (get_or bits i false ∷ [])
    ∙ ap (λ n. spelled (take i bits) + 2 ^ n * (digit (get_or bits i false) + 2 * 0)) size
    ∙ ap (λ d. spelled (take i bits) + 2 ^ i * d) (omega arith)

pub spelled-complement : (bits : List Bool) → spelled (map not bits) + spelled bits + 1 ≡ 2 ^ length bits
spelled-complement [] = refl
spelled-complement (true ∷ bits) = omega (arith, spelled-complement bits, twice (length bits))
spelled-complement (false ∷ bits) = omega (arith, spelled-complement bits, twice (length bits))

pub spelled-zeros : (n : ℕ) → spelled (replicate n false) ≡ 0
spelled-zeros zero = refl
spelled-zeros (suc n) = omega (arith, spelled-zeros n)

pub spelled-ones : (n : ℕ) → spelled (replicate n true) + 1 ≡ 2 ^ n
spelled-ones zero = refl
spelled-ones (suc n) = omega (arith, spelled-ones n, twice n)

-- digit by digit
pub paired : (Bool → Bool → Bool) → List Bool → List Bool → List Bool
paired f [] ys = []
paired f (x ∷ xs) [] = []
paired f (x ∷ xs) (y ∷ ys) = f x y ∷ paired f xs ys

pub length-paired : (f : Bool → Bool → Bool) (xs ys : List Bool) → length xs ≡ length ys → length (paired f xs ys) ≡ length xs
unfolding paired
length-paired f [] ys same = refl
length-paired f (x ∷ xs) [] same = absurd (omega arith)
length-paired f (x ∷ xs) (y ∷ ys) same = ap suc (length-paired f xs ys (omega arith))

pub get_or-paired : (f : Bool → Bool → Bool) (xs ys : List Bool) (i : ℕ) (d : Bool) → i < length xs → length xs ≡ length ys → get_or (paired f xs ys) i d ≡ f (get_or xs i d) (get_or ys i d)
unfolding paired
get_or-paired f [] ys i d within same = absurd (omega arith)
get_or-paired f (x ∷ xs) [] i d within same = absurd (omega arith)
get_or-paired f (x ∷ xs) (y ∷ ys) zero d within same = refl
get_or-paired f (x ∷ xs) (y ∷ ys) (suc i) d within same = get_or-paired f xs ys i d (omega arith) (omega arith)

pub digit-and : (x y : Bool) → bit_and (digit x) (digit y) ≡ digit (x && y)
digit-and true true = refl
digit-and true false = refl
digit-and false true = refl
digit-and false false = refl

pub digit-or : (x y : Bool) → bit_or (digit x) (digit y) ≡ digit (x || y)
digit-or true true = refl
digit-or true false = refl
digit-or false true = refl
digit-or false false = refl

pub digit-xor : (x y : Bool) → bit_xor (digit x) (digit y) ≡ digit (bool_xor x y)
digit-xor true true = refl
digit-xor true false = refl
digit-xor false true = refl
digit-xor false false = refl

-- a number by its lowest digit, as the block lemmas have it
as_block : (d n : ℕ) → d + 2 * n ≡ n * 2 ^ 1 + d
as_block d n = omega arith

pub digit_below : (bit : Bool) → digit bit < 2 ^ 1
digit_below true = omega arith
digit_below false = omega arith

pub spelled-paired_and : (xs ys : List Bool) → length xs ≡ length ys → spelled (paired (λ x y. x && y) xs ys) ≡ bit_and (spelled xs) (spelled ys)
unfolding paired
spelled-paired_and [] [] same = refl
spelled-paired_and [] (y ∷ ys) same = absurd (omega arith)
spelled-paired_and (x ∷ xs) [] same = absurd (omega arith)
spelled-paired_and (x ∷ xs) (y ∷ ys) same =
    ap (λ n. digit (x && y) + 2 * n) (spelled-paired_and xs ys (omega arith))
    ∙ as_block (digit (x && y)) (bit_and (spelled xs) (spelled ys))
    ∙ ap (λ d. bit_and (spelled xs) (spelled ys) * 2 ^ 1 + d) (sym (digit-and x y))
    ∙ sym (and_block 1 (spelled xs) (spelled ys) (digit x) (digit y) (digit_below x) (digit_below y))
    ∙ (λ i. bit_and (sym (as_block (digit x) (spelled xs)) i) (sym (as_block (digit y) (spelled ys)) i))

pub spelled-paired_or : (xs ys : List Bool) → length xs ≡ length ys → spelled (paired (λ x y. x || y) xs ys) ≡ bit_or (spelled xs) (spelled ys)
unfolding paired
spelled-paired_or [] [] same = refl
spelled-paired_or [] (y ∷ ys) same = absurd (omega arith)
spelled-paired_or (x ∷ xs) [] same = absurd (omega arith)
spelled-paired_or (x ∷ xs) (y ∷ ys) same =
    ap (λ n. digit (x || y) + 2 * n) (spelled-paired_or xs ys (omega arith))
    ∙ as_block (digit (x || y)) (bit_or (spelled xs) (spelled ys))
    ∙ ap (λ d. bit_or (spelled xs) (spelled ys) * 2 ^ 1 + d) (sym (digit-or x y))
    ∙ sym (or_block 1 (spelled xs) (spelled ys) (digit x) (digit y) (digit_below x) (digit_below y))
    ∙ (λ i. bit_or (sym (as_block (digit x) (spelled xs)) i) (sym (as_block (digit y) (spelled ys)) i))

pub spelled-paired_xor : (xs ys : List Bool) → length xs ≡ length ys → spelled (paired bool_xor xs ys) ≡ bit_xor (spelled xs) (spelled ys)
unfolding paired
spelled-paired_xor [] [] same = refl
spelled-paired_xor [] (y ∷ ys) same = absurd (omega arith)
spelled-paired_xor (x ∷ xs) [] same = absurd (omega arith)
spelled-paired_xor (x ∷ xs) (y ∷ ys) same =
    ap (λ n. digit (bool_xor x y) + 2 * n) (spelled-paired_xor xs ys (omega arith))
    ∙ as_block (digit (bool_xor x y)) (bit_xor (spelled xs) (spelled ys))
    ∙ ap (λ d. bit_xor (spelled xs) (spelled ys) * 2 ^ 1 + d) (sym (digit-xor x y))
    ∙ sym (xor_block 1 (spelled xs) (spelled ys) (digit x) (digit y) (digit_below x) (digit_below y))
    ∙ (λ i. bit_xor (sym (as_block (digit x) (spelled xs)) i) (sym (as_block (digit y) (spelled ys)) i))
