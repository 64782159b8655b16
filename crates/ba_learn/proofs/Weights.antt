-- Whether a clause is false or unit doesn't depend on the order of its literals.

use Rattle.std.proofs.Common.{◌≡◌, ℕ, ◌+◌, Bool, true, false, ◌&&◌, Option, None, Some, List, [], ◌∷◌, eqb, refl, sym, ap, ◌∙◌, arith}
use Rattle.std.proofs.lemmas.Bool.Decides.{nat_tests}
use Rattle.std.proofs.lemmas.List.Recursion.{is_sum_by}
use Rattle.std.proofs.lemmas.List.Sorted.{sum_by-IsPermutation}
use Rattle.std.specs.List.Sorted.{IsPermutation}
use Rattle.ba_lits.specs.Literals.{Literal}
use Rattle.ba_watch.specs.Propagation.{falsified, is_false, unit_step, is_unit}

-- a sum over a list doesn't depend on its order
pub total-permutation : {X : Type 0} (total : List X → ℕ) (part : X → ℕ) → total [] ≡ 0 →
    ((x : X) (xs : List X) → total (x ∷ xs) ≡ part x + total xs) → (xs ys : List X) → IsPermutation xs ys →
    total ys ≡ total xs
total-permutation total part none more xs ys same =
    is_sum_by total part none more ys
    ∙ (sum_by-IsPermutation part xs ys same ∙ sym (is_sum_by total part none more xs))

-- a clause is false if its weight is 0, and unit if it is 1
abbrev weight_of : Option Bool → ℕ
weight_of None = 1
weight_of (Some true) = 2
weight_of (Some false) = 0

abbrev weight : (Literal → Option Bool) → List Literal → ℕ
weight value [] = 0
weight value (x ∷ xs) = weight_of (value x) + weight value xs

plus_zero : (n : ℕ) → n ≡ 0 + n
plus_zero n = omega arith

false_weight : (value : Literal → Option Bool) (xs : List Literal) →
    is_false value xs ≡ eqb (weight value xs) 0
false_weight value [] = refl
false_weight value (x ∷ xs) = step (value x) (is_false value xs) (weight value xs) (false_weight value xs)
  where
    step : (v : Option Bool) (b : Bool) (n : ℕ) → b ≡ eqb n 0 → (falsified v && b) ≡ eqb (weight_of v + n) 0
    step None b n e = grind (arith, nat_tests)
    step (Some true) b n e = grind (arith, nat_tests)
    step (Some false) b n e = e ∙ ap (λ (m : ℕ). eqb m 0) (plus_zero n)

unit_weight : (value : Literal → Option Bool) (xs : List Literal) → is_unit value xs ≡ eqb (weight value xs) 1
unit_weight value [] = refl
unit_weight value (x ∷ xs) = step (value x) (is_false value xs) (is_unit value xs) (weight value xs)
    (false_weight value xs) (unit_weight value xs)
  where
    step : (v : Option Bool) (a b : Bool) (n : ℕ) → a ≡ eqb n 0 → b ≡ eqb n 1 →
        unit_step v a b ≡ eqb (weight_of v + n) 1
    step None a b n e f = e ∙ one n
      where
        one : (n : ℕ) → eqb n 0 ≡ eqb (1 + n) 1
        one n = grind (arith, nat_tests)
    step (Some true) a b n e f = two n
      where
        two : (n : ℕ) → false ≡ eqb (2 + n) 1
        two n = grind (arith, nat_tests)
    step (Some false) a b n e f = f ∙ ap (λ (m : ℕ). eqb m 1) (plus_zero n)

weight-permutation : (value : Literal → Option Bool) (xs ys : List Literal) → IsPermutation xs ys →
    weight value ys ≡ weight value xs
weight-permutation value =
    total-permutation (weight value) (λ (x : Literal). weight_of (value x)) refl (λ x xs. refl)

pub is_false-permutation : (value : Literal → Option Bool) (xs ys : List Literal) → IsPermutation xs ys →
    is_false value ys ≡ is_false value xs
is_false-permutation value xs ys same = false_weight value ys
    ∙ (ap (λ (n : ℕ). eqb n 0) (weight-permutation value xs ys same) ∙ sym (false_weight value xs))

pub is_unit-permutation : (value : Literal → Option Bool) (xs ys : List Literal) → IsPermutation xs ys →
    is_unit value ys ≡ is_unit value xs
is_unit-permutation value xs ys same = unit_weight value ys
    ∙ (ap (λ (n : ℕ). eqb n 1) (weight-permutation value xs ys same) ∙ sym (unit_weight value xs))
