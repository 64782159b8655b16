-- The order of entries, and the one ranking.
use denote.Param.Members.{Called, Mut}
use denote.Ref.{Bor}
use Rattle.std.proofs.Common.{true≢false, ◌≡◌, ℕ, suc, ◌<◌, ◌==◌, Bool, false, ◌⊎◌, inl, inr, List, [], ◌∷◌, get_or, refl, sym, ap, ap₂, subst, ◌∙◌, arith}
use Rattle.std.specs.Prelude.{AllPairs, Contains}
use Rattle.std.specs.Cmp.{IsTotalOrder, ranks}
use Rattle.std.specs.List.{IsDistinct}
use Rattle.std.specs.List.Sorted.{IsPermutation, IsSortedBy, IsSortedByClosure}
use Rattle.std.specs.Ordering.{MatchOrdering, is_lt, nat_cmp, ordering_then}
use Rattle.std.specs.declared.cmp.Ordering.{Ordering}
use Rattle.std.specs.declared.cmp.Ordering.TheVariants.{Less, Equal, Greater}
use Rattle.std.proofs.lemmas.Bool.{eqb-false}
use Rattle.std.proofs.lemmas.Bool.Decides.{nat_tests}
use Rattle.std.proofs.lemmas.Cmp.{back_total, nat_cmp_total, on_total, then_total}
use Rattle.std.proofs.lemmas.Fn.{always_returns_same}
use Rattle.std.proofs.lemmas.List.Sorted.{ranks_by, sorted_far}
use Rattle.std.proofs.lemmas.Map.Keys.{IsDistinct-IsPermutation, apart_from_distinct}
use Rattle.ba_tree.proofs.Members.{Has, contains_has, has_contains}
use Rattle.ba_rank.specs.Counts.{is_of_same}
use Rattle.ba_rank.specs.Ranking.{IsRanking, Precedes}
use Rattle.ba_rank.specs.declared.ranking.Ranked.{Ranked}

-- THE COMPARISON

abbrev pub compared : Ranked → Ranked → Ordering
compared entry other =
    ordering_then (nat_cmp other.inputs entry.inputs) (nat_cmp entry.stmt.0 other.stmt.0)

abbrev pub is_before : Ranked → Ranked → Bool
is_before entry other = is_lt (compared entry other)

compared_total : IsTotalOrder compared
compared_total = then_total (back_total (on_total (λ (entry : Ranked). entry.inputs) nat_cmp_total))
    (on_total (λ (entry : Ranked). entry.stmt.0) nat_cmp_total)

-- one that isn't before an entry of another statement is preceded by it
not_before : (a b m n : ℕ) → (r s : Ordering) → MatchOrdering r (a < b) (a ≡ b) (b < a)
    → MatchOrdering s (m < n) (m ≡ n) (n < m) → is_lt (ordering_then r s) ≡ false → (n ≡ m → ⊥)
    → (b < a) ⊎ ((a ≡ b) × (n < m))
not_before a b m n Less s first second e differs = absurd (true≢false e)
not_before a b m n Equal Less first second e differs = absurd (true≢false e)
not_before a b m n Equal Equal first second e differs = absurd (differs (sym second))
not_before a b m n Equal Greater first second e differs = inr (first, second)
not_before a b m n Greater s first second e differs = inl first

precedes : (entry other : Ranked) → is_before other entry ≡ false → is_of_same entry other ≡ false
    → Precedes entry other
precedes entry other later differs =
    not_before entry.inputs other.inputs other.stmt.0 entry.stmt.0 (nat_cmp entry.inputs other.inputs)
    (nat_cmp other.stmt.0 entry.stmt.0) (ranks entry.inputs other.inputs) (ranks other.stmt.0 entry.stmt.0)
    later (eqb-false entry.stmt.0 other.stmt.0 differs)

flips : (entry other : Ranked) → is_of_same entry other ≡ is_of_same other entry
flips entry other = by entry.stmt.0 other.stmt.0
  where
    by : (m n : ℕ) → (m == n) ≡ (n == m)
    by m n = grind (arith, nat_tests)

sorted_pairs : (old new : List Ranked) → IsPermutation old new → IsSortedBy is_before new
    → IsDistinct is_of_same old → AllPairs Precedes new
sorted_pairs old new moved sorted distinct = λ i j d low below.
    precedes (get_or new i d) (get_or new j d)
    (sorted_far is_before (ranks_by compared_total (λ (entry : Ranked). entry)) new sorted i j d
    (omega (arith, low)) below)
    (apart_from_distinct is_of_same new i j d
    (IsDistinct-IsPermutation is_of_same flips old new moved distinct) low below)

-- the same by the closure that the sort is given
pub sorted_by : {F : Type 0} {g : Mut F (Bor Ranked × (Bor Ranked × Unit {0})) Ordering} {f : F}
    (old new : List Ranked) → IsPermutation old new → IsSortedByClosure g f new
    → ((a : Bor Ranked × (Bor Ranked × Unit {0})) (r : Ordering) (f' : F) → Called g f a r f'
    → (r ≡ compared a.0.now a.1.0.now) × (f' ≡ f))
    → IsDistinct is_of_same old → AllPairs Precedes new
sorted_by {g = g} {f = f} old new moved sorted calls distinct =
    sorted_pairs old new moved
    (sorted is_before (ranks_by compared_total (λ (entry : Ranked). entry))
    (always_returns_same g (λ a r. is_lt r ≡ is_before a.0.now a.1.0.now) f
    (λ a r f' k. (ap is_lt (calls a r f' k).0, (calls a r f' k).1))))
    distinct

-- ONE RANKING

Precedes-irreflexive : (entry : Ranked) → Precedes entry entry → ⊥
Precedes-irreflexive entry (inl more) = omega (arith, more)
Precedes-irreflexive entry (inr later) = let less = later.1 in omega (arith, less)

Precedes-asymmetric : (entry other : Ranked) → Precedes entry other → Precedes other entry → ⊥
Precedes-asymmetric entry other (inl h) (inl k) = omega (arith, h, k)
Precedes-asymmetric entry other (inl h) (inr k) = let same = k.0 in omega (arith, h, same)
Precedes-asymmetric entry other (inr h) (inl k) = let same = h.0 in omega (arith, k, same)
Precedes-asymmetric entry other (inr h) (inr k) =
    let less = h.1 in let more = k.1 in omega (arith, less, more)

head_precedes : (x y : Ranked) (xs : List Ranked) → AllPairs Precedes (x ∷ xs) → Has xs y → Precedes x y
head_precedes x y xs order h = by (has_contains xs y h)
  where
    by : Contains xs y → Precedes x y
    by (k, below, is) = subst (Precedes x) is (order 0 (suc k) y (omega arith) (omega (arith, below)))

tail_order : (x : Ranked) (xs : List Ranked) → AllPairs Precedes (x ∷ xs) → AllPairs Precedes xs
tail_order x xs order = λ i j d low below. order (suc i) (suc j) d (omega (arith, low)) (omega (arith, below))

-- the first entries of two such lists are one
first_same : (x y : Ranked) (xs ys : List Ranked) → AllPairs Precedes (x ∷ xs) → AllPairs Precedes (y ∷ ys)
    → Has (y ∷ ys) x → Has (x ∷ xs) y → x ≡ y
first_same x y xs ys in_xs in_ys (inl e) k = e
first_same x y xs ys in_xs in_ys (inr h) (inl e) = sym e
first_same x y xs ys in_xs in_ys (inr h) (inr k) = absurd
    (Precedes-asymmetric x y (head_precedes x y xs in_xs k) (head_precedes y x ys in_ys h))

-- what follows the first of one list is after the first of the other
rest_has : (x y entry : Ranked) (xs ys : List Ranked) → x ≡ y → AllPairs Precedes (x ∷ xs) → Has xs entry
    → Has (y ∷ ys) entry → Has ys entry
rest_has x y entry xs ys e in_xs h (inl is_y) =
    absurd (Precedes-irreflexive x (subst (Precedes x) (is_y ∙ sym e) (head_precedes x entry xs in_xs h)))
rest_has x y entry xs ys e in_xs h (inr k) = k

same_in_order : (xs ys : List Ranked) → AllPairs Precedes xs → AllPairs Precedes ys
    → ((entry : Ranked) → Has xs entry → Has ys entry) → ((entry : Ranked) → Has ys entry → Has xs entry)
    → xs ≡ ys
same_in_order [] [] in_xs in_ys to back = refl
same_in_order [] (y ∷ ys) in_xs in_ys to back = absurd (back y (inl refl))
same_in_order (x ∷ xs) [] in_xs in_ys to back = absurd (to x (inl refl))
same_in_order (x ∷ xs) (y ∷ ys) in_xs in_ys to back =
    let first : x ≡ y = first_same x y xs ys in_xs in_ys (to x (inl refl)) (back y (inl refl)) in
    let others : xs ≡ ys = same_in_order xs ys (tail_order x xs in_xs) (tail_order y ys in_ys)
    (λ entry h. rest_has x y entry xs ys first in_xs h (to entry (inr h)))
    (λ entry h. rest_has y x entry ys xs (sym first) in_ys h (back entry (inr h))) in
    ap₂ (λ (entry : Ranked) (entries : List Ranked). entry ∷ entries) first others

pub one_ranking : (lists : List (List (List ℕ))) (xs ys : List Ranked) → IsRanking lists xs
    → IsRanking lists ys → xs ≡ ys
one_ranking lists xs ys a b = same_in_order xs ys a.in_order b.in_order
    (λ entry h. contains_has ys entry ((b.exactly entry).1 ((a.exactly entry).0 (has_contains xs entry h))))
    (λ entry h. contains_has xs entry ((a.exactly entry).1 ((b.exactly entry).0 (has_contains ys entry h))))
