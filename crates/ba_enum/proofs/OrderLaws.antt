-- Sorted sets that differ are in their order.

use denote.Param.Members.{Called, Mut}
use denote.Ref.{Bor}
use Rattle.std.proofs.Common.{◌≡◌, ℕ, suc, ◌<◌, ◌≤◌, Bool, false, ◌&&◌, inl, inr, nat_eq, List, [], ◌∷◌, length, get_or, sym, ap, arith}
use Rattle.std.proofs.lemmas.Bool.Decides.{nat_tests}
use Rattle.std.proofs.lemmas.Fn.{always_returns_same}
use Rattle.std.proofs.lemmas.List.Sorted.{IsPermutation-map, sorted_far, ranks_by}
use Rattle.std.proofs.lemmas.Map.Keys.{IsDistinct-IsPermutation}
use Rattle.std.specs.Cmp.{ranks}
use Rattle.std.specs.Cmp.Lexicographic.{pointwise, slice_cmp, nat_list_cmp_total, nat_list_eq_equiv}
use Rattle.std.specs.List.{IsDistinct, AllByRecursion}
use Rattle.std.specs.List.Sorted.{IsPermutation, IsSortedBy, IsSortedByClosure}
use Rattle.std.specs.Ordering.{MatchOrdering, nat_cmp, is_lt, ordering_then}
use Rattle.std.specs.declared.cmp.Ordering.{Ordering}
use Rattle.std.specs.declared.cmp.Ordering.TheVariants.{Less, Equal, Greater}
use Rattle.ba_derivations.specs.Derivations.{sets_of}
use Rattle.ba_derivations.specs.declared.verdict.FoundSet.{FoundSet}
use Rattle.ba_tree.specs.Least.{IsBefore, IsBeforeAll, AreInOrder}

-- the order of sets by their numbers
abbrev pub is_before : FoundSet → FoundSet → Bool
is_before x y = is_lt (slice_cmp nat_cmp x.groups y.groups)

-- one that isn't after another, and isn't the same, is before it
ordered : (xs ys : List ℕ) → is_lt (slice_cmp nat_cmp ys xs) ≡ false → pointwise nat_eq xs ys ≡ false →
    IsBefore xs ys
ordered [] [] after other = absurd (cc other)
ordered [] (y ∷ ys) after other = tt
ordered (x ∷ xs) [] after other = absurd (cc after)
ordered (x ∷ xs) (y ∷ ys) after other = by_case (λ h e. ordered xs ys h e) (nat_cmp y x) (ranks y x) after
  where
    rest : y ≡ x → pointwise nat_eq xs ys ≡ false
    rest same =
        let itself : (n m : ℕ) (b : Bool) → n ≡ m → (nat_eq m n && b) ≡ false → b ≡ false =
        λ n m b e h. grind (arith, nat_tests) in
        itself y x (pointwise nat_eq xs ys) same other

    by_case : (is_lt (slice_cmp nat_cmp ys xs) ≡ false → pointwise nat_eq xs ys ≡ false → IsBefore xs ys) →
        (r : Ordering) → MatchOrdering r (y < x) (y ≡ x) (x < y) →
        is_lt (ordering_then r (slice_cmp nat_cmp ys xs)) ≡ false → IsBefore (x ∷ xs) (y ∷ ys)
    by_case later Less less h = absurd (cc h)
    by_case later Equal same h = inr (sym same, later h (rest same))
    by_case later Greater more h = inl more

-- NO LATER ONE is before an earlier one
abbrev Rises : List FoundSet → Type 0
Rises xs = (i j : ℕ) (d : FoundSet) → i ≤ j → j < length xs →
    is_before (get_or xs j d) (get_or xs i d) ≡ false

rises_tail : (x : FoundSet) (xs : List FoundSet) → Rises (x ∷ xs) → Rises xs
rises_tail x xs rises i j d le lt = rises (suc i) (suc j) d (omega (arith, le)) (omega (arith, lt))

before_all : (x : FoundSet) (ys : List FoundSet) →
    ((j : ℕ) (d : FoundSet) → j < length ys → is_before (get_or ys j d) x ≡ false) →
    AllByRecursion (λ set. pointwise nat_eq x.groups set ≡ false) (sets_of ys) →
    IsBeforeAll x.groups (sets_of ys)
before_all x [] each other = tt
before_all x (y ∷ ys) each other = (
  ordered x.groups y.groups (each 0 x (omega arith)) other.0,
  before_all x ys (λ j d lt. each (suc j) d (omega (arith, lt))) other.1,
)

all_ordered : (xs : List FoundSet) → Rises xs → IsDistinct (pointwise nat_eq) (sets_of xs) →
    AreInOrder (sets_of xs)
unfolding IsDistinct
all_ordered [] rises distinct = tt
all_ordered (x ∷ xs) rises distinct = (
  before_all x xs (λ j d lt. rises 0 (suc j) d (omega arith) (omega (arith, lt))) distinct.0,
  all_ordered xs (rises_tail x xs rises) distinct.1,
)

flips : (xs ys : List ℕ) → pointwise nat_eq xs ys ≡ pointwise nat_eq ys xs
flips xs ys = nat_list_eq_equiv.symm xs ys

-- what a sort by that order gives
sorted_order : (found sets : List FoundSet) → IsPermutation found sets → IsSortedBy is_before sets →
    IsDistinct (pointwise nat_eq) (sets_of found) → AreInOrder (sets_of sets)
sorted_order found sets moved sorted distinct =
    all_ordered sets (sorted_far is_before (ranks_by nat_list_cmp_total (λ (b : FoundSet). b.groups)) sets
    sorted)
    (IsDistinct-IsPermutation (pointwise nat_eq) flips (sets_of found) (sets_of sets)
    (IsPermutation-map (λ (b : FoundSet). b.groups) found sets moved) distinct)

-- the same by the closure that the sort is given
pub sorted_by : {F : Type 0} {g : Mut F (Bor FoundSet × (Bor FoundSet × Unit {0})) Ordering} {f : F}
    (found sets : List FoundSet) → IsPermutation found sets → IsSortedByClosure g f sets →
    ((a : Bor FoundSet × (Bor FoundSet × Unit {0})) (r : Ordering) (f' : F) → Called g f a r f' →
    (r ≡ slice_cmp nat_cmp a.0.now.groups a.1.0.now.groups) × (f' ≡ f)) →
    IsDistinct (pointwise nat_eq) (sets_of found) → AreInOrder (sets_of sets)
sorted_by {g = g} {f = f} found sets moved sorted calls distinct =
    sorted_order found sets moved
    (sorted is_before (ranks_by nat_list_cmp_total (λ (b : FoundSet). b.groups))
    (always_returns_same g (λ a r. is_lt r ≡ is_before a.0.now a.1.0.now) f
    (λ a r f' k. (ap is_lt (calls a r f' k).0, (calls a r f' k).1))))
    distinct
