-- How a clause stands if some literals are false, told by its literals in any order.

use Rattle.std.proofs.Common.{◌≡◌, ◌≢◌, ℕ, suc, ◌+◌, ◌<◌, Bool, true, false, ◌||◌, None, Some, List, [], ◌∷◌, length, eqb, cond, refl, sym, ap, subst, ◌∙◌, arith, ◌⊎◌, ⊎_elim}
use Rattle.std.proofs.lemmas.Bool.{cases_eq}
use Rattle.std.proofs.lemmas.Bool.Decides.{nat_tests}
use Rattle.std.proofs.lemmas.List.Elements.{All-head, All-tail}
use Rattle.std.specs.List.{All}
use Rattle.std.specs.List.Sorted.{IsPermutation}
use Rattle.ba_lits.specs.Literals.{Literal, negate, index_of}
use Rattle.ba_lits.specs.Hints.{has_literal, value_where, Standing, IsFalse, IsUnit, with_literal, standing}
use Rattle.ba_lits.proofs.Members.{same_from_index}
use Rattle.ba_lits.specs.Satisfaction.{one_if}
use Rattle.ba_watch.specs.Threads.{index_at, AreApart}
use Rattle.ba_learn.proofs.Weights.{total-permutation}

-- how often a literal is in a list
abbrev pub times : Literal → List Literal → ℕ
times t [] = 0
times t (x ∷ xs) = one_if (eqb (index_of x) (index_of t)) + times t xs

-- the order of the list doesn't matter for it
pub times-permutation : (t : Literal) (xs ys : List Literal) → IsPermutation xs ys → times t ys ≡ times t xs
times-permutation t =
    total-permutation (times t) (λ (x : Literal). one_if (eqb (index_of x) (index_of t))) refl (λ x xs. refl)

-- a clause in which no literal occurs twice has each of its literals once
pub times-none : (t : Literal) (xs : List Literal) →
    ((k : ℕ) → k < length xs → index_at xs k ≢ index_of t) → times t xs ≡ 0
times-none t [] none = refl
times-none t (x ∷ xs) none = step (index_of x) (index_of t) (times t xs) (none 0 (omega arith))
    (times-none t xs (λ k k_in. none (suc k) (omega arith)))
  where
    step : (m n k : ℕ) → m ≢ n → k ≡ 0 → one_if (eqb m n) + k ≡ 0
    step m n k ne e = grind (arith, nat_tests)

pub times-once : (t : Literal) (xs : List Literal) → AreApart xs → has_literal t xs ≡ true → times t xs ≡ 1
times-once t [] apart has = absurd (cc has)
times-once t (x ∷ xs) apart has = ⊎_elim
    (λ same. here (index_of x) (index_of t) (times t xs) same
    (times-none t xs (λ k k_in e. apart 0 (suc k) (omega arith) (omega arith) (λ c. omega arith) (same
    ∙ sym e))))
    (λ other. there (index_of x) (index_of t) (has_literal t xs) (times t xs) other
    (times-once t xs (λ j k j_in k_in ne. apart (suc j) (suc k) (omega arith) (omega arith)
    (λ e. ne (omega arith)))) has)
    (cases_eq (index_of x) (index_of t))
  where
    here : (m n k : ℕ) → m ≡ n → k ≡ 0 → one_if (eqb m n) + k ≡ 1
    here m n k e z = grind (arith, nat_tests)

    there : (m n : ℕ) (b : Bool) (k : ℕ) → m ≢ n → (b ≡ true → k ≡ 1) → (eqb m n || b) ≡ true →
        one_if (eqb m n) + k ≡ 1
    there m n b k ne rest has = grind (arith, nat_tests)

-- a clause all of whose literals are false
pub stands_false : (falses g : List Literal) → All (λ (x : Literal). has_literal x falses ≡ true) g →
    standing falses g ≡ IsFalse
stands_false falses [] all = refl
stands_false falses (x ∷ xs) all =
    let P : Literal → Type 0 = λ x. has_literal x falses ≡ true in
    step (has_literal x falses) _ (standing falses xs) (All-head P x xs all)
    (stands_false falses xs (All-tail P x xs all))
  where
    step : (a b : Bool) (st : Standing) → a ≡ true → st ≡ IsFalse →
        with_literal x (cond a (Some false) (cond b (Some true) None)) st ≡ IsFalse
    step true b st e h = h
    step false b st e h = absurd (cc e)

-- a clause with one literal that has no value, all of whose others are false
module _ (falses : List Literal) (t : Literal) (no_t : has_literal t falses ≡ false)
    (no_negation : has_literal (negate t) falses ≡ false) where
  abbrev Fits : Literal → Type 0
  Fits x = (x ≡ t) ⊎ (has_literal x falses ≡ true)

  other : (x : Literal) → has_literal x falses ≡ true → index_of x ≢ index_of t
  other x has e = absurd (cc
      (sym has ∙ ap (λ (l : Literal). has_literal l falses) (same_from_index x t e) ∙ no_t))

  rest_false : (g : List Literal) → All Fits g → times t g ≡ 0 → standing falses g ≡ IsFalse
  rest_false [] all none = refl
  rest_false (x ∷ xs) all none = ⊎_elim
      (λ is. absurd (once (index_of x) (index_of t) (times t xs) (ap index_of is) none))
      (λ has. step (has_literal x falses) _ (standing falses xs) has
      (rest_false xs (All-tail Fits x xs all) (omega arith)))
      (All-head Fits x xs all)
    where
      once : (m n k : ℕ) → m ≡ n → one_if (eqb m n) + k ≡ 0 → ⊥
      once m n k e z = grind (arith, nat_tests)

      step : (a b : Bool) (st : Standing) → a ≡ true → st ≡ IsFalse →
          with_literal x (cond a (Some false) (cond b (Some true) None)) st ≡ IsFalse
      step true b st e h = h
      step false b st e h = absurd (cc e)

  pub stands_unit : (g : List Literal) → All Fits g → times t g ≡ 1 → standing falses g ≡ IsUnit t
  stands_unit [] all once = absurd (omega arith)
  stands_unit (x ∷ xs) all once = ⊎_elim
      (λ is. subst (λ (y : Literal). with_literal y (value_where falses y) (standing falses xs) ≡ IsUnit t)
      (sym is)
      (free (has_literal t falses) (has_literal (negate t) falses) (standing falses xs) no_t no_negation
      (rest_false xs (All-tail Fits x xs all) (first (index_of x) (index_of t) (times t xs)
      (ap index_of is) once))))
      (λ has. step (has_literal x falses) _ (standing falses xs) has
      (stands_unit xs (All-tail Fits x xs all) (later (index_of x) (index_of t) (times t xs)
      (other x has) once)))
      (All-head Fits x xs all)
    where
      first : (m n k : ℕ) → m ≡ n → one_if (eqb m n) + k ≡ 1 → k ≡ 0
      first m n k e z = grind (arith, nat_tests)

      later : (m n k : ℕ) → m ≢ n → one_if (eqb m n) + k ≡ 1 → k ≡ 1
      later m n k e z = grind (arith, nat_tests)

      free : (a b : Bool) (st : Standing) → a ≡ false → b ≡ false → st ≡ IsFalse →
          with_literal t (cond a (Some false) (cond b (Some true) None)) st ≡ IsUnit t
      free true b st e f h = absurd (cc e)
      free false true st e f h = absurd (cc f)
      free false false st e f h = ap (with_literal t None) h

      step : (a b : Bool) (st : Standing) → a ≡ true → st ≡ IsUnit t →
          with_literal x (cond a (Some false) (cond b (Some true) None)) st ≡ IsUnit t
      step true b st e h = h
      step false b st e h = absurd (cc e)
