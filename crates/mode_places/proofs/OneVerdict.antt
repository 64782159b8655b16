-- Two verdicts on the same runs that are true say the same sets of places, or how many places each has.

use Rattle.std.proofs.Common.{◌≡◌, ◌≢◌, ℕ, ◌≤◌, Bool, true, List, [], ◌∷◌, length, refl, sym, subst, ◌∙◌, arith}
use Rattle.std.specs.Prelude.{Contains}
use Rattle.std.specs.Cmp.{Equal-is, IsEquivalence, eq_by_cmp_equiv}
use Rattle.std.specs.Cmp.Lexicographic.{lists_equiv, lists_ties, pointwise}
use Rattle.std.specs.List.{list_any}
use Rattle.std.proofs.lemmas.List.{length-map}
use Rattle.std.proofs.lemmas.Map.Made.{length-le_from_is_member}
use Rattle.std.proofs.lemmas.Map.Views.{Contains-from_any, list_any-from_Contains}
use Rattle.ba_localise.specs.Places.{AreLocatedPlaces, FoundPlaces, place_sets_of}
use Rattle.ba_places.proofs.Orders.{place_total, set_exact}
use Rattle.ba_places.proofs.Unique.{AreLeastPlaces-unique}
use Rattle.ba_places.specs.Least.{AreLeastPlaces, AreTooManyPlaces, IsLeastPlaceSet, JudgeOfPlaces}
use Rattle.ba_places.specs.Order.{place_cmp, same_place, set_cmp}
use Rattle.ba_tree.specs.Least.{WeightList}
use Rattle.ba_tree.specs.declared.run.Place.{Place}

-- SETS OF PLACES, compared place by place

abbrev same_set : List Place → List Place → Bool
same_set = pointwise same_place

same_set-equiv : IsEquivalence same_set
same_set-equiv = lists_equiv (eq_by_cmp_equiv place_total)

same_set-is : (set other : List Place) → same_set set other ≡ true → set ≡ other
same_set-is set other same =
    set_exact set other ((Equal-is (set_cmp set other)).0
    (sym (lists_ties place_cmp (λ x y. refl) set other) ∙ same))

-- a set that is found in the one list is found in the other
found_within : (sets others : List (List Place)) →
    ((set : List Place) → Contains sets set → Contains others set) → (set : List Place) →
    list_any (same_set set) sets ≡ true → list_any (same_set set) others ≡ true
found_within sets others within set found = list_any-from_Contains same_set-equiv set others
    (within set (Contains-from_any same_set-is set sets found))

module _ (weights : WeightList) (good : JudgeOfPlaces) (most : ℕ) where
  abbrev AreAll : ℕ → List FoundPlaces → Type 0
  AreAll members sets = AreLocatedPlaces weights good most members sets

  abbrev AreMany : ℕ → List (List Place) → Type 0
  AreMany members sets = AreTooManyPlaces weights good members most sets

  -- a list of sets of which there are some has a first one
  has_members : (sets : List FoundPlaces) (one other : ℕ) → sets ≢ [] →
      ((set : List Place) → Contains (place_sets_of sets) set → length set ≡ one) →
      ((set : List Place) → Contains (place_sets_of sets) set → length set ≡ other) → one ≡ other
  has_members [] one other some first second = absurd (some refl)
  has_members (set ∷ sets) one other some first second =
      sym (first set.places (0, omega arith, refl)) ∙ second set.places (0, omega arith, refl)

  pub all_same : (members more : ℕ) (sets others : List FoundPlaces) → AreAll members sets →
      AreAll more others → place_sets_of sets ≡ place_sets_of others
  all_same members more sets others one other = AreLeastPlaces-unique weights good
      (place_sets_of sets) (place_sets_of others) one.least other.least

  pub all_have : (members more : ℕ) (sets others : List FoundPlaces) → AreAll members sets →
      AreAll more others → members ≡ more
  all_have members more sets others one other = has_members sets members more one.some one.each_has
      (subst (λ sets. (set : List Place) → Contains sets set → length set ≡ more)
      (sym (all_same members more sets others one other)) other.each_has)

  no_sets : (sets : List FoundPlaces) → place_sets_of sets ≡ [] → sets ≡ []
  no_sets [] e = refl
  no_sets (set ∷ sets) e = absurd (let no : ⊥ = cc in no)

  pub some_or_none : (members : ℕ) (sets : List FoundPlaces) → AreAll members sets →
      AreLeastPlaces weights good [] → ⊥
  some_or_none members sets all none = all.some (no_sets sets
      (AreLeastPlaces-unique weights good (place_sets_of sets) [] all.least none))

  -- more sets than may be listed are some, and aren't all of a list of no more
  pub many_or_none : (members : ℕ) (sets : List (List Place)) → AreMany members sets →
      AreLeastPlaces weights good [] → ⊥
  many_or_none members [] many none = let count = many.count in omega (arith, count)
  many_or_none members (set ∷ sets) many none =
      let has : Contains [] set = (none.exactly set).1 (many.each set (0, omega arith, refl)) in
      omega (arith, has.1)

  pub many_or_few : (members more : ℕ) (sets : List FoundPlaces) (others : List (List Place)) →
      AreAll members sets → AreMany more others → ⊥
  many_or_few members more sets others all many =
      let short : length others ≤ length (place_sets_of sets) =
      length-le_from_is_member same_set-equiv others (place_sets_of sets) many.differ
      (found_within others (place_sets_of sets) (λ set has. (all.least.exactly set).1 (many.each set has))) in
      let count = many.count in
      let few = all.few in
      let same = length-map sets (λ (f : FoundPlaces). f.places) in omega (arith, short, count, few, same)

  -- two least sets have as many members
  as_many : (set other : List Place) → IsLeastPlaceSet weights good set → IsLeastPlaceSet weights good other →
      length set ≡ length other
  as_many set other one two =
      let below = one.least other two.is_set two.feasible in
      let above = two.least set one.is_set one.feasible in omega arith

  pub many_have : (members more : ℕ) (sets others : List (List Place)) → AreMany members sets →
      AreMany more others → members ≡ more
  many_have members more [] others one two = let count = one.count in omega arith
  many_have members more (set ∷ sets) [] one two = let count = two.count in omega arith
  many_have members more (set ∷ sets) (other ∷ others) one two =
      sym (one.each_has set (0, omega arith, refl))
      ∙ as_many set other (one.each set (0, omega arith, refl)) (two.each other (0, omega arith, refl))
      ∙ two.each_has other (0, omega arith, refl)
