-- Walks along threaded lists.

use Rattle.std.proofs.Common.{◌≡◌, ◌≢◌, ℕ, suc, zero, ◌+◌, ◌<◌, ◌≤◌, Bool, true, false, Option, None, Some, List, [], ◌∷◌, length, eqb, cond, refl, ap, ◌∙◌, arith, ◌||◌, get_or}
use Rattle.std.proofs.lemmas.Bool.Decides.{nat_tests}
use Rattle.std.specs.List.{IsDistinct, AllByRecursion, list_any}
use Rattle.std.proofs.lemmas.Map.Steps.{length-le_from_distinct_below}
use Rattle.ba_watch.specs.Chains.{walk, end_of_walk, occurrences}

-- the list is threaded from the head
abbrev pub Leads : (ℕ → Option ℕ) → Option ℕ → List ℕ → Type 0
Leads next head [] = head ≡ None
Leads next head (x ∷ xs) = (head ≡ Some x) × Leads next (next x) xs

-- a walk that has come to its end is the list
pub Leads-walk : (n : ℕ) (next : ℕ → Option ℕ) (head : Option ℕ) → end_of_walk n next head ≡ None →
    Leads next head (walk n next head)
Leads-walk zero next head ends = ends
Leads-walk (suc n) next None ends = refl
Leads-walk (suc n) next (Some r) ends = (refl, Leads-walk n next (next r) ends)

-- a threaded list that is short enough is what the walk finds
pub walk-Leads : (n : ℕ) (next : ℕ → Option ℕ) (head : Option ℕ) (xs : List ℕ) → Leads next head xs →
    length xs ≤ n → walk n next head ≡ xs
walk-Leads zero next head [] leads short = refl
walk-Leads zero next head (x ∷ xs) leads short = absurd (omega arith)
walk-Leads (suc n) next head [] leads short = ap (walk (suc n) next) leads
walk-Leads (suc n) next head (x ∷ xs) leads short =
    ap (walk (suc n) next) leads.0 ∙ ap (λ ys. x ∷ ys) (walk-Leads n next (next x) xs leads.1 (omega arith))

pub end_of_walk-Leads : (n : ℕ) (next : ℕ → Option ℕ) (head : Option ℕ) (xs : List ℕ) → Leads next head xs →
    length xs ≤ n → end_of_walk n next head ≡ None
end_of_walk-Leads zero next head [] leads short = leads
end_of_walk-Leads zero next head (x ∷ xs) leads short = absurd (omega arith)
end_of_walk-Leads (suc n) next head [] leads short = ap (end_of_walk (suc n) next) leads
end_of_walk-Leads (suc n) next head (x ∷ xs) leads short =
    ap (end_of_walk (suc n) next) leads.0 ∙ end_of_walk-Leads n next (next x) xs leads.1 (omega arith)

-- a change of what comes after r leaves the lists without r
pub Leads-elsewhere : (next next' : ℕ → Option ℕ) (r : ℕ) (head : Option ℕ) (xs : List ℕ) →
    ((k : ℕ) → k ≢ r → next' k ≡ next k) → occurrences r xs ≡ 0 → Leads next head xs → Leads next' head xs
Leads-elsewhere next next' r head [] same absent leads = leads
Leads-elsewhere next next' r head (x ∷ xs) same absent leads =
    let other : x ≢ r = λ e. differ x r (occurrences r xs) e absent in (
      leads.0,
      rw (same x other) (Leads-elsewhere next next' r (next x) xs same
          (rest x r (occurrences r xs) absent) leads.1),
    )
  where
    differ : (x r n : ℕ) → x ≡ r → cond (eqb x r) 1 0 + n ≡ 0 → ⊥
    differ x r n e h = grind (arith, nat_tests)

    rest : (x r n : ℕ) → cond (eqb x r) 1 0 + n ≡ 0 → n ≡ 0
    rest x r n h = omega arith

pub Leads-same : (next next' : ℕ → Option ℕ) (head : Option ℕ) (xs : List ℕ) →
    ((k : ℕ) → next' k ≡ next k) → Leads next head xs → Leads next' head xs
Leads-same next next' head [] same leads = leads
Leads-same next next' head (x ∷ xs) same leads =
    (leads.0, rw (same x) (Leads-same next next' (next x) xs same leads.1))

apart_first : (x y n : ℕ) → cond (eqb y x) 1 0 + n ≡ 0 → eqb x y ≡ false
apart_first x y n h = grind (arith, nat_tests)

apart_rest : (x : ℕ) (ys : List ℕ) → occurrences x ys ≡ 0 → AllByRecursion (λ y. eqb x y ≡ false) ys
apart_rest x [] none = tt
apart_rest x (y ∷ ys) none = (apart_first x y (occurrences x ys) none, apart_rest x ys (omega arith))

once_first : (y n : ℕ) → cond (eqb y y) 1 0 + n ≤ 1 → n ≡ 0
once_first y n h = grind (arith, nat_tests)

IsDistinct-from_occurrences : (ys : List ℕ) → ((r : ℕ) → occurrences r ys ≤ 1) → IsDistinct eqb ys
unfolding IsDistinct
IsDistinct-from_occurrences [] h = tt
IsDistinct-from_occurrences (y ∷ ys) h = (
  apart_rest y ys (once_first y (occurrences y ys) (h y)),
  IsDistinct-from_occurrences ys
      (λ r. omega (arith, h r)),
)

eqb-comm : (q y : ℕ) → eqb q y ≡ eqb y q
eqb-comm q y = grind (arith, nat_tests)

positive_step : (b b' any : Bool) (n : ℕ) → b ≡ b' → (any ≡ true → 0 < n) → (b || any) ≡ true →
    0 < cond b' 1 0 + n
positive_step true b' any n e rest h = rw (← e) (omega arith)
positive_step false b' any n e rest h = omega (arith, rest h)

positive : (q : ℕ) (ys : List ℕ) → list_any (eqb q) ys ≡ true → 0 < occurrences q ys
positive q [] has = absurd (cc has)
positive q (y ∷ ys) has =
    positive_step (eqb q y) (eqb y q) (list_any (eqb q) ys) (occurrences q ys) (eqb-comm q y)
    (positive q ys) has

-- what is at a place occurs
pub at_occurs : (xs : List ℕ) (k : ℕ) → k < length xs → 0 < occurrences (get_or xs k 0) xs
at_occurs [] k within = absurd (omega arith)
at_occurs (x ∷ xs) zero within = here x (occurrences x xs)
  where
    here : (n k : ℕ) → 0 < cond (eqb n n) 1 0 + k
    here n k = grind (arith, nat_tests)
at_occurs (x ∷ xs) (suc k) within = omega (arith, at_occurs xs k (omega arith))

-- numbers below n, none of them twice, are at most n
pub length-le_from_occurrences : (xs : List ℕ) (n : ℕ) → ((r : ℕ) → occurrences r xs ≤ 1) →
    ((r : ℕ) → 0 < occurrences r xs → r < n) → length xs ≤ n
length-le_from_occurrences xs n once below =
    length-le_from_distinct_below xs n (IsDistinct-from_occurrences xs once)
    (λ q has. below q (positive q xs has))
