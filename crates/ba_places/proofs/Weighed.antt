-- The places whose statements have a weight.
use Rattle.std.proofs.Common.{true≢false, ◌≡◌, Bool, true, false, cond, List, [], ◌∷◌, get_or, refl, sym, ap, subst, ◌∙◌, inl, inr}
use Rattle.std.specs.Prelude.{◌↔◌, Contains, IsSome, filter, is_some}
use Rattle.std.specs.List.Sorted.{IsStrictlySortedBy}
use Rattle.std.proofs.lemmas.List.Elements.{Contains-get_or}
use Rattle.ba_places.specs.Least.{IsPlaceSet}
use Rattle.ba_places.specs.Order.{place_cmp}
use Rattle.ba_tree.proofs.Members.{Has, contains_has, has_contains}
use Rattle.ba_tree.specs.Least.{WeightList, weight_at}
use Rattle.ba_tree.specs.declared.run.Place.{Place}

-- MEMBERS of a filtered list

filtered-has : {A : Type 0} (test : A → Bool) (xs : List A) (x : A) → Has (filter test xs) x
    → Has xs x × (test x ≡ true)
filtered-has test [] x h = absurd h
filtered-has {A} test (y ∷ ys) x h = by (test y) refl (filtered-has test ys x) h
  where
    by : (b : Bool) → test y ≡ b → (Has (filter test ys) x → Has ys x × (test x ≡ true))
        → Has (cond b (y ∷ filter test ys) (filter test ys)) x → Has (y ∷ ys) x × (test x ≡ true)
    by true passes later (inl is) = (inl is, ap test is ∙ passes)
    by true passes later (inr h) = let both = later h in (inr both.0, both.1)
    by false fails later h = let both = later h in (inr both.0, both.1)

has-filtered : {A : Type 0} (test : A → Bool) (xs : List A) (x : A) → Has xs x → test x ≡ true
    → Has (filter test xs) x
has-filtered test [] x h passes = absurd h
has-filtered {A} test (y ∷ ys) x h passes = by (test y) refl (λ k. has-filtered test ys x k passes) h
  where
    by : (b : Bool) → test y ≡ b → (Has ys x → Has (filter test ys) x) → Has (y ∷ ys) x
        → Has (cond b (y ∷ filter test ys) (filter test ys)) x
    by true first_passes later (inl is) = inl is
    by true first_passes later (inr h) = inr (later h)
    by false fails later (inl is) = absurd (true≢false (sym passes ∙ ap test is ∙ fails))
    by false fails later (inr h) = later h

-- THE LIST

abbrev has_weight : WeightList → Place → Bool
has_weight weights place = is_some (weight_at weights place.stmt.0)

-- those of a list that has the weighed places
module _ (weights : WeightList) (places weighed kept : List Place)
    (are : weighed ≡ filter (has_weight weights) places)
    (same : (place : Place) → Contains kept place ↔ Contains weighed place) where
  pub exactly_weighed : (place : Place)
      → Contains kept place ↔ (Contains places place × IsSome (weight_at weights place.stmt.0))
  exactly_weighed place = (to, back)
    where
      to : Contains kept place → Contains places place × IsSome (weight_at weights place.stmt.0)
      to h =
          let both = filtered-has (has_weight weights) places place
          (contains_has (filter (has_weight weights) places) place
          (subst (λ ps. Contains ps place) are ((same place).0 h))) in
          (has_contains places place both.0, both.1)

      back : Contains places place × IsSome (weight_at weights place.stmt.0) → Contains kept place
      back (h, weighs) = (same place).1 (subst (λ ps. Contains ps place) (sym are)
          (has_contains (filter (has_weight weights) places) place
          (has-filtered (has_weight weights) places place (contains_has places place h) weighs)))

  pub weighed_set : IsStrictlySortedBy place_cmp kept → IsPlaceSet weights kept
  weighed_set ascending = record {
    ascending = ascending;
    relaxable = λ k d within. ((exactly_weighed (get_or kept k d)).0 (Contains-get_or kept k d within)).1;
  }
