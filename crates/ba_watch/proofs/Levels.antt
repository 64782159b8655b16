-- Levels of a trail.

use Rattle.std.proofs.Common.{◌≡◌, ℕ, suc, zero, ◌+◌, ◌<◌, ◌≤◌, cond, Option, None, Some, is_some, List, [], ◌∷◌, ◌++◌, length, get_or, take, drop, refl, arith}
use Rattle.ba_watch.specs.Trails.{decided, kept}

pub decided-append : (xs ys : List (Option ℕ)) → decided (xs ++ ys) ≡ decided xs + decided ys
decided-append [] ys = omega arith
decided-append (None ∷ xs) ys = omega (arith, decided-append xs ys)
decided-append (Some r ∷ xs) ys = decided-append xs ys

pub decided-le-length : (xs : List (Option ℕ)) → decided xs ≤ length xs
decided-le-length [] = omega arith
decided-le-length (None ∷ xs) = omega (arith, decided-le-length xs)
decided-le-length (Some r ∷ xs) = omega (arith, decided-le-length xs)

pub decided-take_drop : (n : ℕ) (xs : List (Option ℕ)) →
    decided (take n xs) + decided (drop n xs) ≡ decided xs
decided-take_drop zero xs = omega arith
decided-take_drop (suc n) [] = omega arith
decided-take_drop (suc n) (None ∷ xs) = omega (arith, decided-take_drop n xs)
decided-take_drop (suc n) (Some r ∷ xs) = decided-take_drop n xs

pub decided-take-le : (m n : ℕ) (xs : List (Option ℕ)) → m ≤ n → decided (take m xs) ≤ decided (take n xs)
decided-take-le zero n xs le = omega arith
decided-take-le (suc m) zero xs le = absurd (omega arith)
decided-take-le (suc m) (suc n) [] le = omega arith
decided-take-le (suc m) (suc n) (None ∷ xs) le = omega (arith, decided-take-le m n xs (omega arith))
decided-take-le (suc m) (suc n) (Some r ∷ xs) le = decided-take-le m n xs (omega arith)

later : (p : ℕ) → suc p + 1 ≡ suc (p + 1)
later p = omega arith

-- a decision begins a level, and no other place does
pub decided-take_none : (p : ℕ) (xs : List (Option ℕ)) → p < length xs → get_or xs p None ≡ None →
    decided (take (p + 1) xs) ≡ decided (take p xs) + 1
decided-take_none zero [] within is = absurd (omega arith)
decided-take_none zero (None ∷ xs) within is = refl
decided-take_none zero (Some r ∷ xs) within is = absurd (cc is)
decided-take_none (suc p) [] within is = absurd (omega arith)
decided-take_none (suc p) (None ∷ xs) within is =
    rw (later p) (omega (arith, decided-take_none p xs (omega arith) is))
decided-take_none (suc p) (Some r ∷ xs) within is = rw (later p) (decided-take_none p xs (omega arith) is)

-- what is kept has at most the level, and all of it is kept
pub kept_below : (level n : ℕ) (xs : List (Option ℕ)) → level < decided (take n xs) → kept level xs < n
kept_below level zero xs more = absurd (omega arith)
kept_below level (suc n) [] more = absurd (omega arith)
kept_below zero (suc n) (None ∷ xs) more = omega arith
kept_below (suc level) (suc n) (None ∷ xs) more = omega (arith, kept_below level n xs (omega arith))
kept_below zero (suc n) (Some r ∷ xs) more = omega (arith, kept_below zero n xs more)
kept_below (suc level) (suc n) (Some r ∷ xs) more = omega (arith, kept_below (suc level) n xs more)

pub kept_above : (level n : ℕ) (xs : List (Option ℕ)) → decided (take n xs) ≤ level → n ≤ length xs →
    n ≤ kept level xs
kept_above level zero xs le within = omega arith
kept_above level (suc n) [] le within = absurd (omega arith)
kept_above zero (suc n) (None ∷ xs) le within = absurd (omega arith)
kept_above (suc level) (suc n) (None ∷ xs) le within =
    omega (arith, kept_above level n xs (omega arith) (omega arith))
kept_above zero (suc n) (Some r ∷ xs) le within = omega (arith, kept_above zero n xs le (omega arith))
kept_above (suc level) (suc n) (Some r ∷ xs) le within =
    omega (arith, kept_above (suc level) n xs le (omega arith))

pub kept-le : (level : ℕ) (xs : List (Option ℕ)) → kept level xs ≤ length xs
kept-le level [] = omega arith
kept-le zero (None ∷ xs) = omega arith
kept-le (suc level) (None ∷ xs) = omega (arith, kept-le level xs)
kept-le zero (Some r ∷ xs) = omega (arith, kept-le zero xs)
kept-le (suc level) (Some r ∷ xs) = omega (arith, kept-le (suc level) xs)

pub decided-kept : (level : ℕ) (xs : List (Option ℕ)) → level ≤ decided xs →
    decided (take (kept level xs) xs) ≡ level
decided-kept zero [] le = refl
decided-kept (suc level) [] le = absurd (omega arith)
decided-kept zero (None ∷ xs) le = refl
decided-kept (suc level) (None ∷ xs) le = omega (arith, decided-kept level xs (omega arith))
decided-kept zero (Some r ∷ xs) le = decided-kept zero xs le
decided-kept (suc level) (Some r ∷ xs) le = decided-kept (suc level) xs le

pub decided-take_step : (p : ℕ) (xs : List (Option ℕ)) → p < length xs →
    decided (take (p + 1) xs) ≡ decided (take p xs) + cond (is_some (get_or xs p None)) 0 1
decided-take_step zero [] within = absurd (omega arith)
decided-take_step zero (None ∷ xs) within = refl
decided-take_step zero (Some r ∷ xs) within = refl
decided-take_step (suc p) [] within = absurd (omega arith)
decided-take_step (suc p) (None ∷ xs) within =
    rw (later p) (omega (arith, decided-take_step p xs (omega arith)))
decided-take_step (suc p) (Some r ∷ xs) within = rw (later p) (decided-take_step p xs (omega arith))
