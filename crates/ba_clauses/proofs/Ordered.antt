-- Indices of literals in order, and each once.

use Rattle.std.proofs.Common.{◌≡◌, ◌≢◌, ℕ, suc, zero, ◌+◌, ◌-◌, ◌*◌, ◌/◌, ◌%◌, ◌<◌, ◌≤◌, Bool, true, false, not, ◌||◌, List, [], ◌∷◌, length, get_or, eqb, cond, map, refl, sym, ap, subst, ◌∙◌, arith, All}
use Rattle.std.proofs.lemmas.Bool.{eqb-true}
use Rattle.std.specs.List.{list_any, dedup, dedup_from}
use Rattle.std.specs.List.Sorted.{IsStrictlyIncreasing}
use native.Mathlib.Nat.{div-add-mod, mod-lt, zero-lt-suc}
use Rattle.ba_lits.specs.Literals.{Literal, literal_at, lit_at, IsClause}
use Rattle.ba_lits.specs.Satisfaction.{Assignment, signed, any_true}
use Rattle.ba_clauses.specs.Clauses.{IsCodeOf, code_true}

-- what occurs twice is counted once
once : (a b rest : Bool) → a ≡ b → (b || rest) ≡ (b || (a || rest))
once true true rest e = refl
once true false rest e = absurd (cc)
once false true rest e = refl
once false false rest e = refl

list_any-dedup_from : (test : ℕ → Bool) (k : ℕ) (xs : List ℕ) →
    list_any test (dedup_from eqb k xs) ≡ (test k || list_any test xs)
list_any-dedup_from test k [] = refl
list_any-dedup_from test k (x ∷ xs) = step (eqb x k) refl (list_any-dedup_from test k xs)
    (list_any-dedup_from test x xs)
  where
    step : (b : Bool) → eqb x k ≡ b → list_any test (dedup_from eqb k xs) ≡ (test k || list_any test xs) →
        list_any test (dedup_from eqb x xs) ≡ (test x || list_any test xs) →
        list_any test (cond b (dedup_from eqb k xs) (k ∷ dedup_from eqb x xs)) ≡ (test k || (test x ||
        list_any test xs))
    step true same first second = first ∙ once (test x) (test k) (list_any test xs) (ap test (eqb-true x k
        same))
    step false other first second = ap (λ b. test k || b) second

pub list_any-dedup : (test : ℕ → Bool) (xs : List ℕ) → list_any test (dedup eqb xs) ≡ list_any test xs
list_any-dedup test [] = refl
list_any-dedup test (x ∷ xs) = list_any-dedup_from test x xs

-- the literals of indices
pub any_true-codes : (v : Assignment) (codes : List ℕ) →
    any_true v (map literal_at codes) ≡ list_any (code_true v) codes
any_true-codes v [] = refl
any_true-codes v (code ∷ codes) = ap (λ b. code_true v code || b) (any_true-codes v codes)

-- an index next to an even one is that of the opposite literal, so one of the two is true
pub one_is_true : (v : Assignment) (x y : ℕ) → x % 2 ≡ 0 → y ≡ x + 1 → (code_true v x || code_true v y) ≡ true
one_is_true v x y even next =
    let whole : 2 * (x / 2) + x % 2 ≡ x = div-add-mod x 2 in
    let variable : y / 2 ≡ x / 2 = omega arith in
    let odd : y % 2 ≡ 1 = omega arith in
    let first : code_true v x ≡ v (x / 2) = ap (λ r. signed (eqb r 1) (v (x / 2))) even in
    let second : code_true v y ≡ not (v (x / 2)) = ap (λ r. signed (eqb r 1) (v (y / 2))) odd ∙ ap (λ u.
    not (v u)) variable in
    (λ i. first i || second i) ∙ either (v (x / 2))
  where
    either : (b : Bool) → (b || not b) ≡ true
    either true = refl
    either false = refl

-- one of two neighbours of a list is true
any_at_next : (test : ℕ → Bool) (xs : List ℕ) (k : ℕ) → suc k < length xs →
    (test (get_or xs k 0) || test (get_or xs (suc k) 0)) ≡ true → list_any test xs ≡ true
any_at_next test [] k within one = absurd (omega arith)
any_at_next test (x ∷ []) k within one = absurd (omega arith)
any_at_next test (x ∷ y ∷ xs) zero within one = pair (test x) (test y) (list_any test xs) one
  where
    pair : (a b rest : Bool) → (a || b) ≡ true → (a || (b || rest)) ≡ true
    pair true b rest e = refl
    pair false true rest e = refl
    pair false false rest e = absurd (cc)
any_at_next test (x ∷ y ∷ xs) (suc k) within one = later (test x) (list_any test (y ∷ xs)) (any_at_next
    test (y ∷ xs) k (omega arith) one)
  where
    later : (a rest : Bool) → rest ≡ true → (a || rest) ≡ true
    later true rest e = refl
    later false rest e = e

-- both literals of a variable are among the indices, so one of all is true
pub opposites_hold : (codes shown all : List ℕ) → shown ≡ codes → ((test : ℕ → Bool) →
    list_any test codes ≡ list_any test all) →
    ((k : ℕ) × (k + 1 < length shown) × (get_or shown k 0 % 2 ≡ 0) × (get_or shown (k + 1) 0 ≡ get_or shown
    k 0 + 1)) →
    (v : Assignment) → list_any (code_true v) all ≡ true
opposites_hold codes shown all is same found v =
    sym (same (code_true v)) ∙ sym (ap (list_any (code_true v)) is)
    ∙ any_at_next (code_true v) shown found.0 (omega (arith, found.1))
    (let next : suc found.0 ≡ found.0 + 1 = omega arith in
    ap (λ (n : ℕ). code_true v (get_or shown found.0 0) || code_true v (get_or shown n 0)) next
    ∙ one_is_true v (get_or shown found.0 0) (get_or shown (found.0 + 1) 0) found.2 found.3)

-- the literals at the places of a list of indices
lit_at-codes : (codes : List ℕ) (k : ℕ) → k < length codes →
    lit_at (map literal_at codes) k ≡ literal_at (get_or codes k 0)
lit_at-codes [] k within = absurd (omega arith)
lit_at-codes (code ∷ codes) zero within = refl
lit_at-codes (code ∷ codes) (suc k) within = lit_at-codes codes k (omega arith)

length-codes : (codes : List ℕ) → length (map literal_at codes) ≡ length codes
length-codes [] = refl
length-codes (code ∷ codes) = ap suc (length-codes codes)

-- halves rise if no number is next to an even one
half_rises : (x y r : ℕ) → x < y → x % 2 ≡ r → r < 2 → (x % 2 ≡ 0 → y ≢ x + 1) → x / 2 < y / 2
half_rises x y zero less even low other = let gap : y ≢ x + 1 = other even in omega arith
half_rises x y (suc zero) less odd low other = omega arith
half_rises x y (suc (suc r)) less odd low other = absurd (omega arith)

-- neighbours rise, so all numbers do
all_rise : (f : ℕ → ℕ) (n j gap k : ℕ) → ((i : ℕ) → i + 1 < n → f i < f (i + 1)) → j + 1 + gap ≡ k →
    k < n → f j < f k
all_rise f n j zero k near is within =
    let here : j + 1 ≡ k = omega arith in
    subst (λ (m : ℕ). f j < f m) here (near j (omega arith))
all_rise f n j (suc gap) k near is within =
    let before : f j < f (j + 1 + gap) = all_rise f n j gap (j + 1 + gap) near refl (omega arith) in
    let last : f (j + 1 + gap) < f (j + 1 + gap + 1) = near (j + 1 + gap) (omega arith) in
    let whole : f j < f (j + 1 + gap + 1) = omega (arith, before, last) in
    let here : j + 1 + gap + 1 ≡ k = omega arith in
    subst (λ (m : ℕ). f j < f m) here whole

halves_rise : (codes : List ℕ) → IsStrictlyIncreasing codes →
    ((k : ℕ) → k + 1 < length codes → get_or codes k 0 % 2 ≡ 0 →
    get_or codes (k + 1) 0 ≢ get_or codes k 0 + 1) →
    (j k : ℕ) → j < k → k < length codes → get_or codes j 0 / 2 < get_or codes k 0 / 2
halves_rise codes rising apart j k before within =
    all_rise (λ i. get_or codes i 0 / 2) (length codes) j (k - (j + 1)) k
    (λ i inside. half_rises (get_or codes i 0) (get_or codes (i + 1) 0) (get_or codes i 0 % 2) (rising i
    inside) refl
    (mod-lt (get_or codes i 0) (zero-lt-suc 1)) (apart i inside))
    (omega arith) within

-- indices that rise, none of which is next to that of its opposite, are those of a clause
pub IsClause-codes : (bound : ℕ) (codes : List ℕ) → IsStrictlyIncreasing codes → All (IsCodeOf bound) codes →
    ((k : ℕ) → k + 1 < length codes → get_or codes k 0 % 2 ≡ 0 →
    get_or codes (k + 1) 0 ≢ get_or codes k 0 + 1) →
    IsClause bound (map literal_at codes)
IsClause-codes bound codes rising inside apart = record {
  ascends = λ j k before within.
      let here : k < length codes = omega (arith, length-codes codes) in
      let front : lit_at (map literal_at codes) j ≡ literal_at (get_or codes j 0) = lit_at-codes codes j
      (omega arith) in
      let back : lit_at (map literal_at codes) k ≡ literal_at (get_or codes k 0) = lit_at-codes codes k
      here in
      let less : get_or codes j 0 / 2 < get_or codes k 0 / 2 = halves_rise codes rising apart j k before
      here in
      subst (λ (n : ℕ). n < (lit_at (map literal_at codes) k).variable) (sym (ap (λ (l : Literal).
      l.variable) front))
      (subst (λ (n : ℕ). get_or codes j 0 / 2 < n) (sym (ap (λ (l : Literal). l.variable) back)) less);
  counted = λ k within.
      let here : k < length codes = omega (arith, length-codes codes) in
      let is : lit_at (map literal_at codes) k ≡ literal_at (get_or codes k 0) = lit_at-codes codes k here in
      let code : IsCodeOf bound (get_or codes k 0) = inside k 0 here in
      let some : 1 ≤ get_or codes k 0 / 2 = omega (arith, code.low) in
      subst (λ (n : ℕ). 1 ≤ n) (sym (ap (λ (l : Literal). l.variable) is)) some;
  within = λ k within.
      let here : k < length codes = omega (arith, length-codes codes) in
      let is : lit_at (map literal_at codes) k ≡ literal_at (get_or codes k 0) = lit_at-codes codes k here in
      let code : IsCodeOf bound (get_or codes k 0) = inside k 0 here in
      let low : get_or codes k 0 / 2 ≤ bound = omega (arith, code.high) in
      subst (λ (n : ℕ). n ≤ bound) (sym (ap (λ (l : Literal). l.variable) is)) low;
}

-- the same, with the lists as the code has them
pub clause_of : (bound : ℕ) (codes first second : List ℕ) (lits shown : List Literal) → first ≡ codes →
    second ≡ codes →
    lits ≡ map literal_at second → shown ≡ lits → IsStrictlyIncreasing codes → All (IsCodeOf bound) codes →
    ((k : ℕ) → k + 1 < length first → get_or first k 0 % 2 ≡ 0 →
    get_or first (k + 1) 0 ≢ get_or first k 0 + 1) →
    IsClause bound shown
clause_of bound codes first second lits shown one two made is rising inside apart =
    rw (is, made, two)
    (IsClause-codes bound codes rising inside
    (subst (λ (xs : List ℕ). (k : ℕ) → k + 1 < length xs → get_or xs k 0 % 2 ≡ 0 →
    get_or xs (k + 1) 0 ≢ get_or xs k 0 + 1) one apart))
