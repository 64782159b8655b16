-- Where a list of places is enough, the least sets of numbers are the least sets of places.
use Rattle.std.proofs.Common.{◌≡◌, ℕ, suc, ◌≤◌, Bool, true, false, cond, List, [], ◌∷◌, length, map, refl, sym, ap, subst, ◌∙◌, inl, inr, arith}
use Rattle.std.specs.Prelude.{Contains, IsSome, filter, nat_eq}
use Rattle.std.specs.Cmp.Lexicographic.{pointwise}
use Rattle.std.specs.List.{AllByRecursion, IsDistinct}
use Rattle.std.specs.List.Sorted.{IsStrictlySortedBy}
use Rattle.std.specs.declared.cmp.Ordering.TheVariants.{Less}
use Rattle.std.proofs.lemmas.List.{length-map}
use Rattle.std.proofs.lemmas.List.Elements.{All-contains, All-filter, All-from_recursion, All-weaker, filter_passes, recursion_from_All}
use Rattle.std.proofs.lemmas.List.Kept.{IsStrictlySortedBy-filter}
use Rattle.ba_choices.specs.declared.Choice.{Choice}
use Rattle.ba_derivations.specs.Derivations.{AreTooMany}
use Rattle.ba_places.specs.Least.{AreLeastPlaces, AreTooManyPlaces, IsFeasiblePlaceSet, IsLeastPlaceSet, IsPlaceSet, JudgeOfPlaces}
use Rattle.ba_places.specs.Numbers.{AreSuspects, is_among, judge_by, places_at, unit_weights_of}
use Rattle.ba_places.specs.Order.{place_cmp, same_place, set_cmp}
use Rattle.ba_places.proofs.Numbering.{HaveNumbers, before_is, have_set, number_contains, numbers_give, numbers_of, places_ascend, places_many, relaxable_ascend, relaxable_have, set_order, set_same}
use Rattle.ba_places.proofs.Orders.{among-contains}
use Rattle.ba_tree.proofs.Members.{Has, contains_has, has_contains}
use Rattle.ba_tree.specs.Least.{AreInOrder, AreLeast, IsBeforeAll, IsLeastSet, IsRelaxableSet, WeightList, weight_at, weight_of}
use Rattle.ba_tree.specs.Least as tree
use Rattle.ba_tree.specs.declared.run.Place.{Place}

-- MEMBERS of a list of which each is made of one of another

has-map : {A B : Type 0} (f : A → B) (xs : List A) (x : A) → Has xs x → Has (map f xs) (f x)
has-map f [] x h = absurd h
has-map f (y ∷ ys) x (inl is) = inl (ap f is)
has-map f (y ∷ ys) x (inr h) = inr (has-map f ys x h)

map-has : {A B : Type 0} (f : A → B) (xs : List A) (y : B) → Has (map f xs) y
    → (x : A) × Has xs x × (y ≡ f x)
map-has f [] y h = absurd h
map-has f (x ∷ xs) y (inl is) = (x, inl refl, is)
map-has f (x ∷ xs) y (inr h) = let found = map-has f xs y h in (found.0, inr found.1, found.2)

-- A FILTER that drops nothing is the whole

filter_fewer : {A : Type 0} (test : A → Bool) (xs : List A) → length (filter test xs) ≤ length xs
filter_fewer test [] = omega arith
filter_fewer test (x ∷ xs) = by (test x) (filter_fewer test xs)
  where
    by : (b : Bool) → length (filter test xs) ≤ length xs
        → length (cond b (x ∷ filter test xs) (filter test xs)) ≤ suc (length xs)
    by true fewer = omega (arith, fewer)
    by false fewer = omega (arith, fewer)

filter_all : {A : Type 0} (test : A → Bool) (xs : List A) → length xs ≤ length (filter test xs)
    → filter test xs ≡ xs
filter_all test [] long = refl
filter_all {A} test (x ∷ xs) long = by (test x) (filter_fewer test xs) (filter_all test xs) long
  where
    by : (b : Bool) → length (filter test xs) ≤ length xs
        → (length xs ≤ length (filter test xs) → filter test xs ≡ xs)
        → suc (length xs) ≤ length (cond b (x ∷ filter test xs) (filter test xs))
        → cond b (x ∷ filter test xs) (filter test xs) ≡ x ∷ xs
    by true fewer rest long = ap (λ ys. x ∷ ys) (rest (omega (arith, long)))
    by false fewer rest long = absurd (omega (arith, fewer, long))

module _ (weights : WeightList) (good : JudgeOfPlaces) (places : List Place)
    (suspects : AreSuspects weights good places) where
  abbrev units : WeightList
  units = unit_weights_of places

  abbrev judge : List ℕ → List Choice → Bool
  judge = judge_by good places

  abbrev ascending : IsStrictlySortedBy place_cmp places
  ascending = suspects.is_set.ascending

  -- THE PLACES of a set of numbers are a set

  within : (numbers : List ℕ) (set : List Place) → HaveNumbers places numbers set
      → AllByRecursion (λ (place : Place). IsSome (weight_at weights place.stmt.0)) set
  within [] [] have = tt
  within [] (place ∷ set) have = absurd have
  within (n ∷ numbers) [] have = absurd have
  within (n ∷ numbers) (place ∷ set) have = (
    All-contains (λ (place : Place). IsSome (weight_at weights place.stmt.0)) places place
        suspects.is_set.relaxable (number_contains places n place have.0),
    within numbers set have.1,
  )

  set_of : (numbers : List ℕ) → IsRelaxableSet units numbers
      → IsPlaceSet weights (places_at places numbers)
  set_of numbers relaxable =
      let have = relaxable_have places 0 numbers relaxable in
      record {
        ascending = places_ascend places ascending numbers (places_at places numbers) have
            (relaxable_ascend places 0 numbers relaxable);
        relaxable = All-from_recursion (λ (place : Place). IsSome (weight_at weights place.stmt.0))
            (places_at places numbers) (within numbers (places_at places numbers) have);
      }

  -- THE MEMBERS OF A SET that are in the list have numbers

  abbrev kept : List Place → List Place
  kept set = filter (is_among places) set

  kept_set : (set : List Place) → IsPlaceSet weights set → IsPlaceSet weights (kept set)
  kept_set set is_set = record {
    ascending = IsStrictlySortedBy-filter place_cmp (is_among places) set is_set.ascending;
    relaxable = All-filter (is_among places) (λ (place : Place). IsSome (weight_at weights place.stmt.0))
        set is_set.relaxable;
  }

  -- numbers whose places are those of a set
  record Numbered (set : List Place) : Type 0 where
    numbers : List ℕ
    relaxable : IsRelaxableSet units numbers
    give : places_at places numbers ≡ set

  kept_numbers : (set : List Place) → IsPlaceSet weights set → Numbered (kept set)
  kept_numbers set is_set =
      let found = numbers_of places (kept set) (recursion_from_All (Contains places) (kept set)
      (All-weaker (λ place. is_among places place ≡ true) (Contains places)
      (λ place. among-contains place places) (kept set) (filter_passes (is_among places) set))) in
      record {
        numbers = found.0;
        relaxable = have_set places found.0 (kept set) ascending found.1 (kept_set set is_set).ascending;
        give = numbers_give places found.0 (kept set) found.1;
      }

  feasible_numbers : (set : List Place) (found : Numbered (kept set)) → IsPlaceSet weights set
      → IsFeasiblePlaceSet good set → tree.IsFeasible judge found.numbers
  feasible_numbers set found is_set feasible = record {
    choices = feasible.choices;
    is_good = ap (λ members. good members feasible.choices) found.give
        ∙ suspects.enough set feasible.choices is_set feasible.is_good;
  }

  -- LEAST SETS

  to_places : (set : List ℕ) → IsLeastSet units judge set → IsLeastPlaceSet weights good (places_at places
      set)
  to_places set least = record {
    is_set = set_of set least.is_set;
    feasible = record { choices = least.feasible.choices; is_good = least.feasible.is_good };
    least = smaller;
  }
    where
      smaller : (other : List Place) → IsPlaceSet weights other → IsFeasiblePlaceSet good other
          → length (places_at places set) ≤ length other
      smaller other is_set feasible =
          let found = kept_numbers other is_set in
          let upto = least.least found.numbers found.relaxable (feasible_numbers other found is_set feasible)
          in
          let long = places_many places set least.is_set in
          let many = places_many places found.numbers found.relaxable in
          let same : length (places_at places found.numbers) ≡ length (kept other) = ap length found.give in
          let fewer = filter_fewer (is_among places) other in
          omega (arith, upto, long, many, same, fewer)

  -- a least set lies within the list
  least_within : (set : List Place) → IsLeastPlaceSet weights good set → kept set ≡ set
  least_within set least = filter_all (is_among places) set
      (least.least (kept set) (kept_set set least.is_set) (record {
        choices = least.feasible.choices;
        is_good = suspects.enough set least.feasible.choices least.is_set least.feasible.is_good;
      }))

  to_numbers : (set : List Place) (least : IsLeastPlaceSet weights good set) (found : Numbered (kept set))
      → IsLeastSet units judge found.numbers
  to_numbers set least found = record {
    is_set = found.relaxable;
    feasible = feasible_numbers set found least.is_set least.feasible;
    least = lighter;
  }
    where
      lighter : (other : List ℕ) → IsRelaxableSet units other → tree.IsFeasible judge other
          → weight_of units found.numbers ≤ weight_of units other
      lighter other relaxable feasible =
          let upto = least.least (places_at places other) (set_of other relaxable)
          (record { choices = feasible.choices; is_good = feasible.is_good }) in
          let long = places_many places found.numbers found.relaxable in
          let many = places_many places other relaxable in
          let same : length (places_at places found.numbers) ≡ length set =
          ap length (found.give ∙ least_within set least) in
          omega (arith, upto, long, many, same)

  -- LISTS OF LEAST SETS

  -- their places in order
  before_all : (set : List ℕ) (sets : List (List ℕ)) → IsBeforeAll set sets → IsRelaxableSet units set
      → ((other : List ℕ) → Has sets other → IsRelaxableSet units other)
      → AllByRecursion (λ other. set_cmp (places_at places set) other ≡ Less) (map (places_at places) sets)
  before_all set [] before relaxable each = tt
  before_all set (other ∷ others) before relaxable each = (
    set_order places set other (places_at places set) (places_at places other) ascending
        (relaxable_have places 0 set relaxable) (relaxable_have places 0 other (each other (inl refl)))
        ∙ before_is set other before.0,
    before_all set others before.1 relaxable (λ o h. each o (inr h)),
  )

  in_order : (sets : List (List ℕ)) → AreInOrder sets
      → ((set : List ℕ) → Has sets set → IsRelaxableSet units set)
      → IsStrictlySortedBy set_cmp (map (places_at places) sets)
  unfolding IsStrictlySortedBy
  in_order [] order each = tt
  in_order (set ∷ sets) order each = (
    before_all set sets order.0 (each set (inl refl)) (λ o h. each o (inr h)),
    in_order sets order.1 (λ o h. each o (inr h)),
  )

  -- and different
  differs_all : (set : List ℕ) (sets : List (List ℕ))
      → AllByRecursion (λ other. pointwise nat_eq set other ≡ false) sets → IsRelaxableSet units set
      → ((other : List ℕ) → Has sets other → IsRelaxableSet units other)
      → AllByRecursion (λ other. pointwise same_place (places_at places set) other ≡ false)
      (map (places_at places) sets)
  differs_all set [] differ relaxable each = tt
  differs_all set (other ∷ others) differ relaxable each = (
    set_same places set other (places_at places set) (places_at places other) ascending
        (relaxable_have places 0 set relaxable) (relaxable_have places 0 other (each other (inl refl)))
        ∙ differ.0,
    differs_all set others differ.1 relaxable (λ o h. each o (inr h)),
  )

  differ : (sets : List (List ℕ)) → IsDistinct (pointwise nat_eq) sets
      → ((set : List ℕ) → Has sets set → IsRelaxableSet units set)
      → IsDistinct (pointwise same_place) (map (places_at places) sets)
  unfolding IsDistinct
  differ [] distinct each = tt
  differ (set ∷ sets) distinct each = (
    differs_all set sets distinct.0 (each set (inl refl)) (λ o h. each o (inr h)),
    differ sets distinct.1 (λ o h. each o (inr h)),
  )

  -- the numbers behind a set of places that stands in the list of them
  record Behind (sets : List (List ℕ)) (set : List Place) : Type 0 where
    numbers : List ℕ
    is_there : Contains sets numbers
    is : set ≡ places_at places numbers

  source : (sets : List (List ℕ)) (set : List Place) → Contains (map (places_at places) sets) set
      → Behind sets set
  source sets set h =
      let found = map-has (places_at places) sets set (contains_has (map (places_at places) sets) set h) in
      record { numbers = found.0; is_there = has_contains sets found.0 found.1; is = found.2 }

  pub all_least : (sets : List (List ℕ)) → AreLeast units judge sets
      → AreLeastPlaces weights good (map (places_at places) sets)
  all_least sets least = record {
    in_order = in_order sets least.in_order
        (λ set h. ((least.exactly set).0 (has_contains sets set h)).is_set);
    exactly = λ set. (to set, back set);
  }
    where
      to : (set : List Place) → Contains (map (places_at places) sets) set → IsLeastPlaceSet weights good set
      to set h =
          let from = source sets set h in
          subst (IsLeastPlaceSet weights good) (sym from.is)
          (to_places from.numbers ((least.exactly from.numbers).0 from.is_there))

      back : (set : List Place) → IsLeastPlaceSet weights good set
          → Contains (map (places_at places) sets) set
      back set h =
          let found = kept_numbers set h.is_set in
          let here = (least.exactly found.numbers).1 (to_numbers set h found) in
          subst (Contains (map (places_at places) sets)) (found.give ∙ least_within set h)
          (has_contains (map (places_at places) sets) (places_at places found.numbers)
          (has-map (places_at places) sets found.numbers (contains_has sets found.numbers here)))

  pub too_many : (members most : ℕ) (sets : List (List ℕ)) → AreTooMany units judge members most sets
      → AreTooManyPlaces weights good members most (map (places_at places) sets)
  too_many members most sets many = record {
    each = each;
    each_has = each_has;
    differ = differ sets many.differ (λ set h. (many.each set (has_contains sets set h)).is_set);
    count = length-map sets (places_at places) ∙ many.count;
  }
    where
      each : (set : List Place) → Contains (map (places_at places) sets) set
          → IsLeastPlaceSet weights good set
      each set h =
          let from = source sets set h in
          subst (IsLeastPlaceSet weights good) (sym from.is)
          (to_places from.numbers (many.each from.numbers from.is_there))

      each_has : (set : List Place) → Contains (map (places_at places) sets) set → length set ≡ members
      each_has set h =
          let from = source sets set h in
          ap length from.is ∙ places_many places from.numbers (many.each from.numbers from.is_there).is_set
          ∙ many.each_weighs from.numbers from.is_there
