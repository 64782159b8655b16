-- The order of places is total, and what it doesn't tell apart is one.
use Rattle.std.proofs.Common.{true≢false, ◌≡◌, ℕ, ◌==◌, Bool, true, false, ◌&&◌, ◌||◌, inl, inr, List, [], ◌∷◌, refl, sym, ap, subst, ◌∙◌}
use Rattle.std.specs.Prelude.{Contains}
use Rattle.std.specs.Bool.{Decides}
use Rattle.std.specs.Cmp.{Equal-is, IsTotalOrder, both_tied, eq_by_cmp_equiv, unsigned_ties}
use Rattle.std.specs.Cmp.Lexicographic.{lists_ties, slice_cmp}
use Rattle.std.specs.List.{AllByRecursion, IsDistinct, list_any}
use Rattle.std.specs.List.Sorted.{IsStrictlySortedBy}
use Rattle.std.specs.Ordering.{eq_by_cmp, is_eq, is_gt, is_lt, nat_cmp, ordering_then}
use Rattle.std.specs.declared.cmp.Ordering.{Ordering}
use Rattle.std.specs.declared.cmp.Ordering.TheVariants.{Less, Equal, Greater}
use Rattle.std.proofs.lemmas.Cmp.{lists_total, nat_cmp_total, on_total, then_total}
use Rattle.std.proofs.lemmas.Map.Keys.{IsDistinct-from_sorted, IsDistinct-head}
use Rattle.std.proofs.lemmas.Map.Lookups.{CmpEqualImpliesEq, exact_pairs, exact_unsigned}
use Rattle.std.proofs.lemmas.Slice.Eq.{slice_eq-Decides}
use Rattle.ba_places.specs.Numbers.{is_among}
use Rattle.ba_places.specs.Order.{path_cmp, place_cmp, same_place, set_cmp, step_cmp}
use Rattle.ba_tree.proofs.Members.{Has, contains_has, has_contains}
use Rattle.ba_tree.specs.Choices.{same_path, same_step}
use Rattle.ba_tree.specs.declared.run.Place.{Place}
use Rattle.ba_tree.specs.declared.run.Step.{Step}
use Rattle.ba_tree.specs.declared.run.Step.TheVariants.{Call, Turn}

-- TOTAL

-- a step by three numbers: its kind, and then its own
kind_number : Step → ℕ
kind_number (Call c) = 0
kind_number (Turn l m) = 1

first_number : Step → ℕ
first_number (Call c) = c.0
first_number (Turn l m) = l.0

second_number : Step → ℕ
second_number (Call c) = 0
second_number (Turn l m) = m

abbrev by_numbers : Step → Step → Ordering
by_numbers a b =
    ordering_then (nat_cmp (kind_number a) (kind_number b))
    (ordering_then (nat_cmp (first_number a) (first_number b)) (nat_cmp (second_number a) (second_number b)))

alone : (order : Ordering) → ordering_then order Equal ≡ order
alone Less = refl
alone Equal = refl
alone Greater = refl

by_numbers_is : (a b : Step) → by_numbers a b ≡ step_cmp a b
unfolding kind_number first_number second_number
by_numbers_is (Call c) (Call d) = alone (nat_cmp c.0 d.0)
by_numbers_is (Call c) (Turn l m) = refl
by_numbers_is (Turn l m) (Call c) = refl
by_numbers_is (Turn l m) (Turn k n) = refl

pub step_total : IsTotalOrder step_cmp
step_total = subst IsTotalOrder (λ i a b. by_numbers_is a b i)
    (then_total (on_total kind_number nat_cmp_total)
    (then_total (on_total first_number nat_cmp_total) (on_total second_number nat_cmp_total)))

pub place_total : IsTotalOrder place_cmp
place_total = then_total (on_total (λ (place : Place). place.stmt.0) nat_cmp_total)
    (on_total (λ (place : Place). place.path) (lists_total step_total))

pub set_total : IsTotalOrder set_cmp
set_total = lists_total place_total

-- EXACT: equal in order is one

pub step_exact : CmpEqualImpliesEq step_cmp
step_exact (Call c) (Call d) e = λ i. Call (record { 0 = exact_unsigned c.0 d.0 e i })
step_exact (Call c) (Turn l m) e = absurd (true≢false (ap is_lt e))
step_exact (Turn l m) (Call c) e = absurd (true≢false (ap is_gt e))
step_exact (Turn l m) (Turn k n) e =
    let same = exact_pairs nat_cmp nat_cmp exact_unsigned exact_unsigned (l.0, m) (k.0, n) e in
    λ i. Turn (record { 0 = (same i).0 }) (same i).1

-- lists by the order of their elements
pub lists_exact : {A : Type 0} {R : A → A → Ordering} → IsTotalOrder R → CmpEqualImpliesEq R
    → CmpEqualImpliesEq (slice_cmp R)
lists_exact {A} {R} total exact xs ys e =
    (slice_eq-Decides decides xs ys true (sym (lists_ties R (λ x y. refl) xs ys ∙ ap is_eq e))).0 refl
  where
    decides : (x y : A) → Decides (eq_by_cmp R x y) (x ≡ y)
    decides x y = (
      λ same. exact x y ((Equal-is (R x y)).0 same),
      λ is. ap (eq_by_cmp R x) (sym is) ∙ (eq_by_cmp_equiv total).refl x,
    )

pub place_exact : CmpEqualImpliesEq place_cmp
place_exact a b e =
    let same = exact_pairs nat_cmp path_cmp exact_unsigned (lists_exact step_total step_exact) (
      a.stmt.0,
      a.path,
    )
    (b.stmt.0, b.path) e in
    λ i. record { path = (same i).1; stmt = record { 0 = (same i).0 } }

pub set_exact : CmpEqualImpliesEq set_cmp
set_exact = lists_exact place_total place_exact

-- THE SAME PLACE

pub same_place-self : (place : Place) → same_place place place ≡ true
same_place-self = (eq_by_cmp_equiv place_total).refl

pub same_place-is : (a b : Place) → same_place a b ≡ true → a ≡ b
same_place-is a b same = place_exact a b ((Equal-is (place_cmp a b)).0 same)

-- as runs compare places
same_step-is : (a b : Step) → same_step a b ≡ eq_by_cmp step_cmp a b
same_step-is (Call c) (Call d) = unsigned_ties c.0 d.0
same_step-is (Call c) (Turn l m) = refl
same_step-is (Turn l m) (Call c) = refl
same_step-is (Turn l m) (Turn k n) =
    both_tied (l.0 == k.0) (m == n) (nat_cmp l.0 k.0) (nat_cmp m n) (unsigned_ties l.0 k.0) (unsigned_ties m
    n)

pub same_path-is : (a b : List Step) → same_path a b ≡ eq_by_cmp path_cmp a b
same_path-is [] [] = refl
same_path-is [] (y ∷ ys) = refl
same_path-is (x ∷ xs) [] = refl
same_path-is (x ∷ xs) (y ∷ ys) =
    both_tied (same_step x y) (same_path xs ys) (step_cmp x y) (path_cmp xs ys) (same_step-is x y)
    (same_path-is xs ys)

pub same_place-by_parts : (a b : Place)
    → ((a.stmt.0 == b.stmt.0) && same_path a.path b.path) ≡ same_place a b
same_place-by_parts a b =
    both_tied (a.stmt.0 == b.stmt.0) (same_path a.path b.path) (nat_cmp a.stmt.0 b.stmt.0)
    (path_cmp a.path b.path) (unsigned_ties a.stmt.0 b.stmt.0) (same_path-is a.path b.path)

-- IN A LIST

module _ {A : Type 0} {R : A → A → Ordering} (total : IsTotalOrder R) (exact : CmpEqualImpliesEq R) where
  -- an element of a list, by the first and the others
  has-any : (x : A) (xs : List A) → Has xs x → list_any (eq_by_cmp R x) xs ≡ true
  has-any x [] h = absurd h
  has-any x (y ∷ ys) (inl is) =
      ap (λ b. b || list_any (eq_by_cmp R x) ys)
      (ap (eq_by_cmp R x) (sym is) ∙ (eq_by_cmp_equiv total).refl x)
  has-any x (y ∷ ys) (inr h) = later (eq_by_cmp R x y) (has-any x ys h)
    where
      later : (b : Bool) → list_any (eq_by_cmp R x) ys ≡ true → (b || list_any (eq_by_cmp R x) ys) ≡ true
      later true among = refl
      later false among = among

  any-has : (x : A) (xs : List A) → list_any (eq_by_cmp R x) xs ≡ true → Has xs x
  any-has x [] among = absurd (true≢false (sym among))
  any-has x (y ∷ ys) among = by (eq_by_cmp R x y) refl (any-has x ys) among
    where
      by : (b : Bool) → eq_by_cmp R x y ≡ b → (list_any (eq_by_cmp R x) ys ≡ true → Has ys x)
          → (b || list_any (eq_by_cmp R x) ys) ≡ true → Has (y ∷ ys) x
      by true same later among = inl (exact x y ((Equal-is (R x y)).0 same))
      by false same later among = inr (later among)

  pub contains-any : (x : A) (xs : List A) → Contains xs x → list_any (eq_by_cmp R x) xs ≡ true
  contains-any x xs h = has-any x xs (contains_has xs x h)

  pub any-contains : (x : A) (xs : List A) → list_any (eq_by_cmp R x) xs ≡ true → Contains xs x
  any-contains x xs among = has_contains xs x (any-has x xs among)

pub contains-among : (place : Place) (places : List Place) → Contains places place
    → is_among places place ≡ true
contains-among = contains-any place_total place_exact

pub among-contains : (place : Place) (places : List Place) → is_among places place ≡ true
    → Contains places place
among-contains = any-contains place_total place_exact

-- an ascending list has each place once
pub distinct : (places : List Place) → IsStrictlySortedBy place_cmp places → IsDistinct same_place places
distinct places ascending = IsDistinct-from_sorted place_cmp places ascending

-- the first of an ascending list is not among the others, as runs compare places
pub first_apart : (place : Place) (places : List Place) → IsStrictlySortedBy place_cmp (place ∷ places)
    → list_any (λ (other : Place). (place.stmt.0 == other.stmt.0) && same_path place.path other.path) places
    ≡ false
first_apart place places ascending =
    none places (IsDistinct-head same_place place places (distinct (place ∷ places) ascending))
  where
    none : (others : List Place) → AllByRecursion (λ other. same_place place other ≡ false) others
        → list_any (λ (other : Place). (place.stmt.0 == other.stmt.0) && same_path place.path other.path)
        others ≡ false
    none [] apart = refl
    none (other ∷ others) apart =
        λ i. (same_place-by_parts place other ∙ apart.0) i || none others apart.1 i
