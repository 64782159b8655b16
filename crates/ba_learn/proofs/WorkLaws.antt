-- The parts of a resolution's work, as a place more is seen.

use Rattle.std.proofs.Common.{◌≡◌, ℕ, suc, zero, ◌+◌, ◌<◌, ◌≤◌, Bool, true, false, ◌||◌, Option, None, Some, IsSome, List, [], ◌∷◌, ◌++◌, length, get_or, eqb, ltb, cond, refl, sym, ap, ◌∙◌, arith, ◌≢◌, ◌⊎◌, inl, inr, ⊎_elim}
use Rattle.std.proofs.lemmas.Bool.{cases_eq}
use Rattle.std.proofs.lemmas.Bool.Decides.{nat_tests}
use Rattle.ba_lits.specs.Literals.{Literal}
use Rattle.ba_lits.specs.Satisfaction.{one_if}
use Rattle.ba_watch.specs.Chains.{occurrences}
use Rattle.ba_watch.specs.Trails.{trail_index, trail_index_if, level_at, level_of}
use Rattle.ba_watch.proofs.Levels.{decided-take_none}
use Rattle.ba_learn.specs.Resolving.{count_below}

-- a place that has a value
pub some_place : (T : List Literal) (v : ℕ) → trail_index T v < length T → IsSome (trail_index_if T v)
some_place T v within = step (trail_index T v) (length T) within
  where
    step : (p n : ℕ) → p < n → IsSome (cond (ltb p n) (Some p) None)
    step p n lt = grind (arith, nat_tests)

pub place-is : (T : List Literal) (v p : ℕ) → trail_index T v < length T → trail_index_if T v ≡ Some p →
    p ≡ trail_index T v
place-is T v p within e = step (trail_index T v) (length T) within e
  where
    step : (q n : ℕ) → q < n → cond (ltb q n) (Some q) None ≡ Some p → p ≡ q
    step q n lt e = grind (arith, nat_tests)

pub some_level : (T : List Literal) (R : List (Option ℕ)) (v : ℕ) → trail_index T v < length T →
    IsSome (level_of T R v)
some_level T R v within = step (trail_index T v) (length T) (level_at R (trail_index T v)) within
  where
    step : (p n l : ℕ) → p < n → IsSome (cond (ltb p n) (Some l) None)
    step p n l lt = grind (arith, nat_tests)

pub level-is : (T : List Literal) (R : List (Option ℕ)) (v l : ℕ) → trail_index T v < length T →
    level_of T R v ≡ Some l → l ≡ level_at R (trail_index T v)
level-is T R v l within e = step (trail_index T v) (length T) (level_at R (trail_index T v)) within e
  where
    step : (q n m : ℕ) → q < n → cond (ltb q n) (Some m) None ≡ Some l → l ≡ m
    step q n m lt e = grind (arith, nat_tests)

-- at level 0 nothing was decided
pub zero_has_reason : (R : List (Option ℕ)) (p : ℕ) → p < length R → level_at R p ≡ 0 →
    IsSome (get_or R p None)
zero_has_reason R p within e = step (get_or R p None) refl
  where
    step : (o : Option ℕ) → get_or R p None ≡ o → IsSome o
    step None is = absurd (omega (arith, e, decided-take_none p R within is))
    step (Some r) is = refl

-- how often a place is in a list
pub occurrences-append : (p : ℕ) (xs ys : List ℕ) →
    occurrences p (xs ++ ys) ≡ occurrences p xs + occurrences p ys
occurrences-append p [] ys = omega arith
occurrences-append p (x ∷ xs) ys = omega (arith, occurrences-append p xs ys)

pub occurrences-push : (p : ℕ) (xs : List ℕ) (q : ℕ) →
    occurrences p (xs ++ q ∷ []) ≡ occurrences p xs + one_if (eqb q p)
occurrences-push p xs q = omega (arith, occurrences-append p xs (q ∷ []))

pub pushed_cases : (p : ℕ) (xs : List ℕ) (q : ℕ) → 0 < occurrences p (xs ++ q ∷ []) →
    (0 < occurrences p xs) ⊎ (p ≡ q)
pushed_cases p xs q some =
    ⊎_elim (λ e. inr e) (λ ne. inl (step (occurrences p xs) _ ne (occurrences-push p xs q) some))
    (cases_eq p q)
  where
    step : (n m : ℕ) → p ≢ q → m ≡ n + one_if (eqb q p) → 0 < m → 0 < n
    step n m ne e some = grind (arith, nat_tests)

-- how many places are in a set that has one more
pub count_below-same : (f g : ℕ → Bool) → ((q : ℕ) → g q ≡ f q) → (n : ℕ) → count_below g n ≡ count_below f n
count_below-same f g same zero = refl
count_below-same f g same (suc n) = ap (λ (b : Bool). one_if b + count_below g n) (same n)
    ∙ ap (λ (k : ℕ). one_if (f n) + k) (count_below-same f g same n)

pub count_below-add : (f g : ℕ → Bool) (p : ℕ) → ((q : ℕ) → g q ≡ (eqb q p || f q)) → f p ≡ false →
    (n : ℕ) → count_below g n ≡ count_below f n + one_if (ltb p n)
count_below-add f g p adds new zero = none p
  where
    none : (p : ℕ) → 0 ≡ 0 + one_if (ltb p 0)
    none p = grind (arith, nat_tests)
count_below-add f g p adds new (suc n) = step (f n) (g n) (count_below f n) (count_below g n)
    (λ e. sym (ap f e) ∙ new) (adds n) (count_below-add f g p adds new n)
  where
    step : (a b : Bool) (k m : ℕ) → (p ≡ n → a ≡ false) → b ≡ (eqb n p || a) → m ≡ k + one_if (ltb p n) →
        one_if b + m ≡ (one_if a + k) + one_if (ltb p (suc n))
    step true b k m apart is h = grind (arith, nat_tests)
    step false b k m apart is h = grind (arith, nat_tests)

pub count_below-le : (f g : ℕ → Bool) → ((q : ℕ) → f q ≡ true → g q ≡ true) → (n : ℕ) →
    count_below f n ≤ count_below g n
count_below-le f g more zero = omega arith
count_below-le f g more (suc n) = step (f n) (g n) (more n) (count_below-le f g more n)
  where
    step : (a b : Bool) → (a ≡ true → b ≡ true) → count_below f n ≤ count_below g n →
        one_if a + count_below f n ≤ one_if b + count_below g n
    step true true h le = omega arith
    step true false h le = absurd (cc (h refl))
    step false true h le = omega arith
    step false false h le = omega arith

pub one_if-le : (b : Bool) → one_if b ≤ 1
one_if-le true = omega arith
one_if-le false = omega arith

pub count_below-bound : (f : ℕ → Bool) (n : ℕ) → count_below f n ≤ n
count_below-bound f zero = omega arith
count_below-bound f (suc n) = omega (arith, count_below-bound f n, one_if-le (f n))
