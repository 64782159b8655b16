-- Sets of places and the sets of their numbers in a list.
use Rattle.std.proofs.Common.{true≢false, ◌≡◌, ℕ, zero, suc, ◌+◌, ◌-◌, ◌<◌, ◌≤◌, ◌==◌, false, cond, List, [], ◌∷◌, ◌++◌, length, take, get_or, refl, sym, ap, ap₂, subst, ◌∙◌, ◌⊎◌, inl, inr, arith}
use Rattle.std.specs.Prelude.{Contains, IsSome, None, Option, Some, is_some, nat_eq, slice_get, unwrap_or}
use Rattle.std.specs.Cmp.{nat_cmp_is, ranks, tied_itself}
use Rattle.std.specs.Cmp.Lexicographic.{lists_ties, pointwise, slice_cmp, texts_ties}
use Rattle.std.specs.List.{AllByRecursion, AllZip, cons_option}
use Rattle.std.specs.List.Sorted.{IsStrictlySortedBy}
use Rattle.std.specs.Ordering.{MatchOrdering, is_eq, nat_cmp, ordering_reverse, ordering_then}
use Rattle.std.specs.declared.cmp.Ordering.{Ordering}
use Rattle.std.specs.declared.cmp.Ordering.TheVariants.{Less, Equal, Greater}
use Rattle.std.proofs.lemmas.Bool.Decides.{nat_tests}
use Rattle.std.proofs.lemmas.List.{append-nil, get_or-replicate, length-replicate, take_more}
use Rattle.std.proofs.lemmas.List.Elements.{filter_map-append}
use Rattle.std.proofs.lemmas.List.Sums.{sum_by-cons}
use Rattle.std.proofs.lemmas.Map.Keys.{Less-from_sorted}
use Rattle.std.proofs.lemmas.Option.{get_or_from_slice_get, slice_get-get_or, slice_get_cases, slice_get_past, slice_get_within}
use Rattle.ba_places.specs.Numbers.{place_at, places_at, unit_weights_of}
use Rattle.ba_places.specs.Order.{place_cmp, same_place, set_cmp}
use Rattle.ba_places.proofs.Orders.{place_total}
use Rattle.ba_tree.specs.Least.{AreRelaxableAbove, IsBefore, IsRelaxableSet, entry_of, weight_at, weight_of}
use Rattle.ba_tree.specs.declared.run.Place.{Place}

-- these places have these numbers, one by one
abbrev pub HaveNumbers : List Place → List ℕ → List Place → Type 0
HaveNumbers places = AllZip (λ n place. place_at places n ≡ Some place)

-- ONE PLACE

not_zero : (n : ℕ) → (suc n == 0) ≡ false
not_zero n = grind (arith, nat_tests)

back_one : (n : ℕ) → suc n - 1 ≡ n
back_one n = omega arith

at_next : (places : List Place) (n : ℕ) → place_at places (suc n) ≡ slice_get places n
at_next places n =
    ap (λ b. cond b None (slice_get places (suc n - 1))) (not_zero n) ∙ ap (slice_get places) (back_one n)

-- the place of a number stands in the list, one before the number
record StandsAt (places : List Place) (n : ℕ) (place : Place) : Type 0 where
  positive : 1 ≤ n
  within : n - 1 < length places
  is : (d : Place) → get_or places (n - 1) d ≡ place

stands : (places : List Place) (n : ℕ) (place : Place) → place_at places n ≡ Some place
    → StandsAt places n place
stands places zero place e = absurd (true≢false (sym (ap is_some e)))
stands places (suc n) place e =
    let found : slice_get places n ≡ Some place = sym (at_next places n) ∙ e in
    let inside = slice_get_within places n place found in
    record {
      positive = omega arith;
      within = subst (λ k. k < length places) (sym (back_one n)) inside;
      is = λ d. ap (λ k. get_or places k d) (back_one n) ∙ get_or_from_slice_get places n place d found;
    }

pub number_contains : (places : List Place) (n : ℕ) (place : Place) → place_at places n ≡ Some place
    → Contains places place
number_contains places n place at =
    let found = stands places n place at in (n - 1, found.within, found.is place)

-- places stand in the order of their numbers
place_order : (places : List Place) (m n : ℕ) (a b : Place) → IsStrictlySortedBy place_cmp places
    → place_at places m ≡ Some a → place_at places n ≡ Some b → place_cmp a b ≡ nat_cmp m n
place_order places m n a b ascending at_m at_n =
    by (nat_cmp m n) (ranks m n) (stands places m a at_m) (stands places n b at_n)
  where
    less : (m n : ℕ) (a b : Place) → m < n → StandsAt places m a → StandsAt places n b
        → place_cmp a b ≡ Less
    less m n a b low sa sb =
        let positive = sa.positive in
        ap₂ place_cmp (sym (sa.is a)) (sym (sb.is a))
        ∙ Less-from_sorted place_cmp places (m - 1) (n - 1) a ascending (omega (arith, low, positive))
        sb.within

    by : (order : Ordering) → MatchOrdering order (m < n) (m ≡ n) (n < m) → StandsAt places m a
        → StandsAt places n b → place_cmp a b ≡ order
    by Less low sa sb = less m n a b low sa sb
    by Equal same sa sb =
        ap (λ other. place_cmp other b)
        (sym (sa.is a) ∙ ap (λ k. get_or places (k - 1) a) same ∙ sb.is a)
        ∙ tied_itself place_total b
    by Greater low sa sb =
        place_total.antisymm a b ∙ ap ordering_reverse (less n m b a low sb sa)

-- SETS OF PLACES AND OF NUMBERS

pub numbers_give : (places : List Place) (numbers : List ℕ) (set : List Place)
    → HaveNumbers places numbers set → places_at places numbers ≡ set
numbers_give places [] [] have = refl
numbers_give places [] (place ∷ set) have = absurd have
numbers_give places (n ∷ numbers) [] have = absurd have
numbers_give places (n ∷ numbers) (place ∷ set) have =
    ap₂ cons_option have.0 (numbers_give places numbers set have.1)

-- the places of numbers, with one number more
places_more : (places : List Place) (numbers : List ℕ) (i d : ℕ) → i < length numbers
    → places_at places (take (i + 1) numbers)
    ≡ places_at places (take i numbers) ++ cons_option (place_at places (get_or numbers i d)) []
places_more places numbers i d within =
    ap (places_at places) (take_more numbers i d within)
    ∙ filter_map-append (place_at places) (take i numbers) (get_or numbers i d ∷ [])

pub places_some : (places : List Place) (numbers : List ℕ) (i d : ℕ) (place : Place) → i < length numbers
    → place_at places (get_or numbers i d) ≡ Some place
    → places_at places (take (i + 1) numbers) ≡ places_at places (take i numbers) ++ place ∷ []
places_some places numbers i d place within at =
    places_more places numbers i d within
    ∙ ap (λ found. places_at places (take i numbers) ++ cons_option found []) at

pub places_none : (places : List Place) (numbers : List ℕ) (i d : ℕ) → i < length numbers
    → place_at places (get_or numbers i d) ≡ None
    → places_at places (take (i + 1) numbers) ≡ places_at places (take i numbers)
places_none places numbers i d within at =
    places_more places numbers i d within
    ∙ ap (λ found. places_at places (take i numbers) ++ cons_option found []) at
    ∙ append-nil (places_at places (take i numbers))

-- sets stand in the order of their numbers
pub set_order : (places : List Place) (xs ys : List ℕ) (a b : List Place)
    → IsStrictlySortedBy place_cmp places → HaveNumbers places xs a → HaveNumbers places ys b
    → set_cmp a b ≡ slice_cmp nat_cmp xs ys
set_order places [] [] [] [] ascending have_a have_b = refl
set_order places [] [] (p ∷ a) b ascending have_a have_b = absurd have_a
set_order places [] [] [] (q ∷ b) ascending have_a have_b = absurd have_b
set_order places [] (y ∷ ys) (p ∷ a) b ascending have_a have_b = absurd have_a
set_order places [] (y ∷ ys) [] [] ascending have_a have_b = absurd have_b
set_order places [] (y ∷ ys) [] (q ∷ b) ascending have_a have_b = refl
set_order places (x ∷ xs) ys [] b ascending have_a have_b = absurd have_a
set_order places (x ∷ xs) [] (p ∷ a) [] ascending have_a have_b = refl
set_order places (x ∷ xs) [] (p ∷ a) (q ∷ b) ascending have_a have_b = absurd have_b
set_order places (x ∷ xs) (y ∷ ys) (p ∷ a) [] ascending have_a have_b = absurd have_b
set_order places (x ∷ xs) (y ∷ ys) (p ∷ a) (q ∷ b) ascending have_a have_b =
    ap₂ ordering_then (place_order places x y p q ascending have_a.0 have_b.0)
    (set_order places xs ys a b ascending have_a.1 have_b.1)

-- places ascend where their numbers do, and the other way round
module _ (places : List Place) (ascending : IsStrictlySortedBy place_cmp places) where
  below_places : (n : ℕ) (place : Place) (numbers : List ℕ) (set : List Place)
      → place_at places n ≡ Some place → HaveNumbers places numbers set
      → AllByRecursion (λ m. nat_cmp n m ≡ Less) numbers
      → AllByRecursion (λ other. place_cmp place other ≡ Less) set
  below_places n place [] [] at have below = tt
  below_places n place [] (other ∷ set) at have below = absurd have
  below_places n place (m ∷ numbers) [] at have below = absurd have
  below_places n place (m ∷ numbers) (other ∷ set) at have below = (
    place_order places n m place other ascending at have.0 ∙ below.0,
    below_places n place numbers set at have.1 below.1,
  )

  pub places_ascend : (numbers : List ℕ) (set : List Place) → HaveNumbers places numbers set
      → IsStrictlySortedBy nat_cmp numbers → IsStrictlySortedBy place_cmp set
  unfolding IsStrictlySortedBy
  places_ascend [] [] have sorted = tt
  places_ascend [] (place ∷ set) have sorted = absurd have
  places_ascend (n ∷ numbers) [] have sorted = absurd have
  places_ascend (n ∷ numbers) (place ∷ set) have sorted = (
    below_places n place numbers set have.0 have.1 sorted.0,
    places_ascend numbers set have.1 sorted.1,
  )

  below_numbers : (n : ℕ) (place : Place) (numbers : List ℕ) (set : List Place)
      → place_at places n ≡ Some place → HaveNumbers places numbers set
      → AllByRecursion (λ other. place_cmp place other ≡ Less) set
      → AllByRecursion (λ m. nat_cmp n m ≡ Less) numbers
  below_numbers n place [] [] at have below = tt
  below_numbers n place [] (other ∷ set) at have below = absurd have
  below_numbers n place (m ∷ numbers) [] at have below = absurd have
  below_numbers n place (m ∷ numbers) (other ∷ set) at have below = (
    sym (place_order places n m place other ascending at have.0) ∙ below.0,
    below_numbers n place numbers set at have.1 below.1,
  )

  pub numbers_ascend : (numbers : List ℕ) (set : List Place) → HaveNumbers places numbers set
      → IsStrictlySortedBy place_cmp set → IsStrictlySortedBy nat_cmp numbers
  unfolding IsStrictlySortedBy
  numbers_ascend [] [] have sorted = tt
  numbers_ascend [] (place ∷ set) have sorted = absurd have
  numbers_ascend (n ∷ numbers) [] have sorted = absurd have
  numbers_ascend (n ∷ numbers) (place ∷ set) have sorted = (
    below_numbers n place numbers set have.0 have.1 sorted.0,
    numbers_ascend numbers set have.1 sorted.1,
  )

-- WHAT THEY WEIGH

unit_at : (places : List Place) (n : ℕ) (place : Place) → place_at places n ≡ Some place
    → weight_at (unit_weights_of places) n ≡ Some 1
unit_at places zero place e = absurd (true≢false (sym (ap is_some e)))
unit_at places (suc n) place e =
    let inside = slice_get_within places n place (sym (at_next places n) ∙ e) in
    let units = unit_weights_of places in
    let short : n < length units =
    subst (λ k. n < k) (sym (length-replicate (length places) (Some 1))) inside in
    ap (λ b. cond b None (entry_of (slice_get units (suc n - 1)))) (not_zero n)
    ∙ ap (λ k. entry_of (slice_get units k)) (back_one n)
    ∙ ap entry_of (slice_get-get_or units n None short
    ∙ ap Some (get_or-replicate (length places) n (Some 1) None inside))

-- a number that weighs something has a place
at_unit : (places : List Place) (n : ℕ) → IsSome (weight_at (unit_weights_of places) n)
    → (place : Place) × (place_at places n ≡ Some place)
at_unit places zero some = absurd (true≢false (sym some))
at_unit places (suc n) some = by (slice_get_cases places n).1
  where
    units : List (Option ℕ)
    units = unit_weights_of places

    nothing : length places ≤ n → weight_at units (suc n) ≡ None
    nothing past =
        ap (λ b. cond b None (entry_of (slice_get units (suc n - 1)))) (not_zero n)
        ∙ ap (λ k. entry_of (slice_get units k)) (back_one n)
        ∙ ap entry_of (slice_get_past units n
        (subst (λ k. k ≤ n) (sym (length-replicate (length places) (Some 1))) past))

    by : ((place : Place) × (n < length places) × (slice_get places n ≡ Some place)
        × (get_or places n place ≡ place))
        ⊎ ((length places ≤ n) × (slice_get places n ≡ None))
        → (place : Place) × (place_at places (suc n) ≡ Some place)
    by (inl (place, inside, found, read)) = (place, at_next places n ∙ found)
    by (inr (past, none)) = absurd (true≢false (sym some ∙ ap is_some (nothing past)))

pub weigh_one : (places : List Place) (numbers : List ℕ) (set : List Place)
    → HaveNumbers places numbers set → weight_of (unit_weights_of places) numbers ≡ length set
weigh_one places [] [] have = refl
weigh_one places [] (place ∷ set) have = absurd have
weigh_one places (n ∷ numbers) [] have = absurd have
weigh_one places (n ∷ numbers) (place ∷ set) have =
    let first : unwrap_or (weight_at (unit_weights_of places) n) 0 ≡ 1 =
    ap (λ weight. unwrap_or weight 0) (unit_at places n place have.0) in
    let both = sum_by-cons (λ m. unwrap_or (weight_at (unit_weights_of places) m) 0) n numbers in
    let others = weigh_one places numbers set have.1 in
    omega (arith, first, both, others)

-- RELAXABLE SETS OF NUMBERS

pub relaxable_have : (places : List Place) (low : ℕ) (numbers : List ℕ)
    → AreRelaxableAbove (unit_weights_of places) low numbers
    → HaveNumbers places numbers (places_at places numbers)
relaxable_have places low [] relaxable = tt
relaxable_have places low (n ∷ numbers) relaxable =
    by (at_unit places n relaxable.1) (relaxable_have places n numbers relaxable.2)
  where
    by : (place : Place) × (place_at places n ≡ Some place)
        → HaveNumbers places numbers (places_at places numbers)
        → HaveNumbers places (n ∷ numbers) (places_at places (n ∷ numbers))
    by (place, at) rest =
        subst (λ found. HaveNumbers places (n ∷ numbers) (cons_option found (places_at places numbers)))
        (sym at) (at, rest)

relaxable_below : (places : List Place) (low n : ℕ) (numbers : List ℕ) → n ≤ low
    → AreRelaxableAbove (unit_weights_of places) low numbers
    → AllByRecursion (λ m. nat_cmp n m ≡ Less) numbers
relaxable_below places low n [] upto relaxable = tt
relaxable_below places low n (m ∷ numbers) upto relaxable =
    let above = relaxable.0 in
    let less : n < m = omega (arith, upto, above) in (
      sym (nat_cmp_is n m Less less),
      relaxable_below places m n numbers (omega (arith, less)) relaxable.2,
    )

pub relaxable_ascend : (places : List Place) (low : ℕ) (numbers : List ℕ)
    → AreRelaxableAbove (unit_weights_of places) low numbers → IsStrictlySortedBy nat_cmp numbers
unfolding IsStrictlySortedBy
relaxable_ascend places low [] relaxable = tt
relaxable_ascend places low (n ∷ numbers) relaxable = (
  relaxable_below places n n numbers (omega arith) relaxable.2,
  relaxable_ascend places n numbers relaxable.2,
)

above_from : (n m : ℕ) → nat_cmp n m ≡ Less → n < m
above_from n m less = subst (λ order. MatchOrdering order (n < m) (n ≡ m) (m < n)) less (ranks n m)

pub have_relaxable : (places : List Place) (low : ℕ) (numbers : List ℕ) (set : List Place)
    → HaveNumbers places numbers set → AllByRecursion (λ m. nat_cmp low m ≡ Less) numbers
    → IsStrictlySortedBy nat_cmp numbers → AreRelaxableAbove (unit_weights_of places) low numbers
unfolding IsStrictlySortedBy
have_relaxable places low [] [] have above sorted = tt
have_relaxable places low [] (place ∷ set) have above sorted = absurd have
have_relaxable places low (n ∷ numbers) [] have above sorted = absurd have
have_relaxable places low (n ∷ numbers) (place ∷ set) have above sorted = (
  above_from low n above.0,
  ap is_some (unit_at places n place have.0),
  have_relaxable places n numbers set have.1 sorted.0 sorted.1,
)

-- the numbers of a set are above 0
above_zero : (places : List Place) (numbers : List ℕ) (set : List Place) → HaveNumbers places numbers set
    → AllByRecursion (λ m. nat_cmp 0 m ≡ Less) numbers
above_zero places [] [] have = tt
above_zero places [] (place ∷ set) have = absurd have
above_zero places (n ∷ numbers) [] have = absurd have
above_zero places (n ∷ numbers) (place ∷ set) have =
    let positive = (stands places n place have.0).positive in
    (sym (nat_cmp_is 0 n Less (omega (arith, positive))), above_zero places numbers set have.1)

pub have_set : (places : List Place) (numbers : List ℕ) (set : List Place)
    → IsStrictlySortedBy place_cmp places → HaveNumbers places numbers set
    → IsStrictlySortedBy place_cmp set → IsRelaxableSet (unit_weights_of places) numbers
have_set places numbers set ascending have sorted =
    have_relaxable places 0 numbers set have (above_zero places numbers set have)
    (numbers_ascend places ascending numbers set have sorted)

-- the places of a relaxable set of numbers are as many as it weighs
pub places_many : (places : List Place) (set : List ℕ) → IsRelaxableSet (unit_weights_of places) set
    → length (places_at places set) ≡ weight_of (unit_weights_of places) set
places_many places set relaxable =
    sym (weigh_one places set (places_at places set) (relaxable_have places 0 set relaxable))

-- places of the list have numbers
pub numbers_of : (places set : List Place) → AllByRecursion (Contains places) set
    → (numbers : List ℕ) × HaveNumbers places numbers set
numbers_of places [] within = ([], tt)
numbers_of places (place ∷ set) within =
    let others = numbers_of places set within.1 in
    let k = within.0.0 in
    let at : place_at places (suc k) ≡ Some place =
    at_next places k ∙ slice_get-get_or places k place within.0.1 ∙ ap Some within.0.2 in
    (suc k ∷ others.0, (at, others.1))

-- THE ORDER OF SETS OF NUMBERS

pub before_is : (xs ys : List ℕ) → IsBefore xs ys → slice_cmp nat_cmp xs ys ≡ Less
before_is [] [] before = absurd before
before_is [] (y ∷ ys) before = refl
before_is (x ∷ xs) [] before = absurd before
before_is (x ∷ xs) (y ∷ ys) (inl less) =
    ap (λ order. ordering_then order (slice_cmp nat_cmp xs ys)) (sym (nat_cmp_is x y Less less))
before_is (x ∷ xs) (y ∷ ys) (inr later) =
    ap₂ ordering_then (sym (nat_cmp_is x y Equal later.0)) (before_is xs ys later.1)

-- sets of places are equal where their numbers are
pub set_same : (places : List Place) (xs ys : List ℕ) (a b : List Place)
    → IsStrictlySortedBy place_cmp places → HaveNumbers places xs a → HaveNumbers places ys b
    → pointwise same_place a b ≡ pointwise nat_eq xs ys
set_same places xs ys a b ascending have_a have_b =
    lists_ties place_cmp (λ x y. refl) a b
    ∙ ap is_eq (set_order places xs ys a b ascending have_a have_b) ∙ sym (texts_ties xs ys)
