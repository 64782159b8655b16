-- Literals that are in a list.

use Rattle.std.proofs.Common.{◌≡◌, ◌≢◌, ℕ, suc, zero, ◌+◌, ◌*◌, ◌<◌, Bool, true, false, ◌||◌, List, [], ◌∷◌, ◌++◌, length, get_or, set, eqb, cond, refl, sym, ap, subst, ◌∙◌, arith, ◌⊎◌, inl, inr, ⊎_elim}
use Rattle.std.proofs.lemmas.Bool.{cases_eq, eqb-true, eq-eqb, ne_eqb, or_cases, or_from, or_left, or_right}
use Rattle.std.proofs.lemmas.List.Sorted.{list_any-IsPermutation}
use Rattle.std.specs.List.{list_any}
use Rattle.std.specs.List.Sorted.{IsPermutation}
use mathlib.Core.Bool.{not-not, or_assoc, or-false}
use Rattle.ba_lits.specs.Literals.{Literal, negate, index_of, lit_at, literal_at, index_of-literal_at}
use Rattle.ba_lits.specs.Hints.{has_literal}
use Rattle.ba_lits.specs.Members.{has_index, AreMarks}
use Rattle.ba_lits.proofs.StampLaws.{marked-set}

-- indices tell literals apart
pub same_from_index : (a b : Literal) → index_of a ≡ index_of b → a ≡ b
same_from_index a b e = step a.variable b.variable a.negated b.negated e
  where
    step : (v w : ℕ) (s t : Bool) → 2 * v + cond s 1 0 ≡ 2 * w + cond t 1 0 →
        ◌≡◌ {A = Literal} (record { variable = v; negated = s }) (record { variable = w; negated = t })
    step v w true true e = let h : v ≡ w = omega arith in cc
    step v w true false e = absurd (omega arith)
    step v w false true e = absurd (omega arith)
    step v w false false e = let h : v ≡ w = omega arith in cc

pub literal_at-index_of : (l : Literal) → literal_at (index_of l) ≡ l
literal_at-index_of l = same_from_index (literal_at (index_of l)) l (index_of-literal_at (index_of l))

pub same_literal : (x y : Literal) → eqb (index_of x) (index_of y) ≡ true → x ≡ y
same_literal x y e = same_from_index x y (eqb-true (index_of x) (index_of y) e)

pub negate-negate : (l : Literal) → negate (negate l) ≡ l
negate-negate l = ap (λ (b : Bool). record { variable = l.variable; negated = b }) (not-not l.negated)

-- the literals at the places of a list
pub has_literal-at : (xs : List Literal) (k : ℕ) → k < length xs → has_literal (lit_at xs k) xs ≡ true
has_literal-at [] k within = absurd (omega arith)
has_literal-at (x ∷ xs) zero within =
    or_left (eqb (index_of x) (index_of x)) (has_literal x xs) (eq-eqb (index_of x) (index_of x) refl)
has_literal-at (x ∷ xs) (suc k) within =
    let l : Literal = lit_at xs k in
    or_right (eqb (index_of x) (index_of l)) (has_literal l xs) (has_literal-at xs k (omega arith))

pub has_literal-index : (l : Literal) (xs : List Literal) (k : ℕ) → k < length xs →
    index_of (lit_at xs k) ≡ index_of l →
    has_literal l xs ≡ true
has_literal-index l xs k within e =
    subst (λ (x : Literal). has_literal x xs ≡ true) (same_from_index (lit_at xs k) l e)
    (has_literal-at xs k within)

pub literal_found : (l : Literal) (xs : List Literal) → has_literal l xs ≡ true →
    (k : ℕ) × (k < length xs) × (lit_at xs k ≡ l)
literal_found l [] has = absurd (cc has)
literal_found l (x ∷ xs) has =
    step (eqb (index_of x) (index_of l)) refl has (λ h. literal_found l xs h)
  where
    step : (c : Bool) → eqb (index_of x) (index_of l) ≡ c → (c || has_literal l xs) ≡ true →
        (has_literal l xs ≡ true → (k : ℕ) × (k < length xs) × (lit_at xs k ≡ l)) →
        (k : ℕ) × (k < length (x ∷ xs)) × (lit_at (x ∷ xs) k ≡ l)
    step true e h rest = (0, omega arith, same_literal x l e)
    step false e h rest = let r = rest h in (suc r.0, omega arith, r.2)

pub has_literal-not : (l : Literal) (xs : List Literal) →
    ((k : ℕ) → k < length xs → index_of (lit_at xs k) ≢ index_of l) →
    has_literal l xs ≡ false
has_literal-not l [] none = refl
has_literal-not l (x ∷ xs) none =
    or_from (eqb (index_of x) (index_of l)) (has_literal l xs)
    (ne_eqb (index_of x) (index_of l) (none 0 (omega arith)))
    (has_literal-not l xs (λ k k_in. none (suc k) (omega arith)))

pub has_literal-none : (l : Literal) (xs : List Literal) → has_literal l xs ≡ false → (k : ℕ) →
    k < length xs →
    index_of (lit_at xs k) ≢ index_of l
has_literal-none l xs absent k within e = absurd (cc (has_literal-index l xs k within e, absent))

-- the order of the list doesn't matter
has_literal-any : (l : Literal) (xs : List Literal) →
    has_literal l xs ≡ list_any (λ (x : Literal). eqb (index_of x) (index_of l)) xs
has_literal-any l [] = refl
has_literal-any l (x ∷ xs) = ap (λ (b : Bool). eqb (index_of x) (index_of l) || b) (has_literal-any l xs)

pub has_literal-permutation : (l : Literal) (xs ys : List Literal) → IsPermutation xs ys →
    has_literal l xs ≡ has_literal l ys
has_literal-permutation l xs ys same =
    has_literal-any l xs
    ∙ (list_any-IsPermutation (λ (x : Literal). eqb (index_of x) (index_of l)) xs ys same
    ∙ sym (has_literal-any l ys))

-- lists that grow
pub has_literal-more : (l : Literal) (xs ys : List Literal) → has_literal l xs ≡ true →
    has_literal l (xs ++ ys) ≡ true
has_literal-more l [] ys has = absurd (cc has)
has_literal-more l (x ∷ xs) ys has =
    let same : Bool = eqb (index_of x) (index_of l) in
    ⊎_elim
    (λ here. or_left same (has_literal l (xs ++ ys)) here)
    (λ rest. or_right same (has_literal l (xs ++ ys)) (has_literal-more l xs ys rest))
    (or_cases same (has_literal l xs) has)

pub has_literal-last : (l : Literal) (xs : List Literal) → has_literal l (xs ++ l ∷ []) ≡ true
has_literal-last l [] = or_left (eqb (index_of l) (index_of l)) false (eq-eqb (index_of l) (index_of l) refl)
has_literal-last l (x ∷ xs) =
    or_right (eqb (index_of x) (index_of l)) (has_literal l (xs ++ l ∷ [])) (has_literal-last l xs)

pub has_literal-push : (l x : Literal) (xs : List Literal) → has_literal l (xs ++ x ∷ []) ≡ true →
    (has_literal l xs ≡ true) ⊎ (x ≡ l)
has_literal-push l x [] has = inr (same_literal x l (sym (or-false (eqb (index_of x) (index_of l))) ∙ has))
has_literal-push l x (y ∷ ys) has =
    let same : Bool = eqb (index_of y) (index_of l) in
    ⊎_elim
    (λ here. inl (or_left same (has_literal l ys) here))
    (λ rest. ⊎_elim (λ there. inl (or_right same (has_literal l ys) there)) (λ e. inr e)
    (has_literal-push l x ys rest))
    (or_cases same (has_literal l (ys ++ x ∷ [])) has)

-- indices that are in a list
pub has_literal-is : (l : Literal) (xs : List Literal) → has_literal l xs ≡ has_index (index_of l) xs
has_literal-is l [] = refl
has_literal-is l (x ∷ xs) = ap (λ b. eqb (index_of x) (index_of l) || b) (has_literal-is l xs)

has_index-append : (k : ℕ) (xs ys : List Literal) →
    has_index k (xs ++ ys) ≡ (has_index k xs || has_index k ys)
has_index-append k [] ys = refl
has_index-append k (x ∷ xs) ys =
    ap (λ b. eqb (index_of x) k || b) (has_index-append k xs ys)
    ∙ sym (or_assoc (eqb (index_of x) k) (has_index k xs) (has_index k ys))

has_index-push : (k : ℕ) (xs : List Literal) (l : Literal) →
    has_index k (xs ++ l ∷ []) ≡ (eqb k (index_of l) || has_index k xs)
has_index-push k xs l = has_index-append k xs (l ∷ []) ∙ turned (has_index k xs) k (index_of l)
  where
    turned : (b : Bool) (m n : ℕ) → (b || (eqb n m || false)) ≡ (eqb m n || b)
    turned b m n = ⊎_elim
        (λ same. rw (eq-eqb m n same, eq-eqb n m (sym same)) (or_right b true refl))
        (λ other. rw (ne_eqb m n other, ne_eqb n m (λ e. other (sym e))) (or-false b))
        (cases_eq m n)

-- what the code has after it made room, and added a member
pub AreMarks-push : (marks grown more : List Bool) (members longer : List Literal) (l : Literal) (i : ℕ) →
    AreMarks marks members → ((k : ℕ) → get_or grown k false ≡ get_or marks k false) →
    more ≡ set grown i true →
    i < length grown → i ≡ index_of l → longer ≡ members ++ l ∷ [] → AreMarks more longer
AreMarks-push marks grown more members longer l i h same more_is room index longer_is = record {
  marked = λ k.
      ap (λ (ms : List Bool). get_or ms k false) more_is
      ∙ (marked-set grown i k room
      ∙ (ap (λ (n : ℕ). eqb k n || get_or grown k false) index
      ∙ (ap (λ (b : Bool). eqb k (index_of l) || b) (same k ∙ h.marked k)
      ∙ (sym (has_index-push k members l) ∙ ap (has_index k) (sym longer_is)))));
}

-- what the code reads
pub marked_is : (marks : List Bool) (members seen : List Literal) (l : Literal) (i : ℕ) (b : Bool) →
    AreMarks marks members →
    members ≡ seen → i ≡ index_of l → b ≡ get_or marks i false → b ≡ has_literal l seen
marked_is marks members seen l i b h view index read =
    read
    ∙ (ap (λ k. get_or marks k false) index
    ∙ (h.marked (index_of l) ∙ (ap (has_index (index_of l)) view ∙ sym (has_literal-is l seen))))
