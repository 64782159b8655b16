-- Sorted places, of which equal neighbours are dropped.
use denote.Param.Members.{Called, Mut}
use denote.Ref.{Bor}
use Rattle.std.proofs.Common.{◌≡◌, Bool, List, refl, sym, ap, subst}
use Rattle.std.specs.Prelude.{◌↔◌, Contains}
use Rattle.std.specs.Cmp.{eq_by_cmp_equiv}
use Rattle.std.specs.List.{dedup}
use Rattle.std.specs.List.Sorted.{IsPermutation, IsSorted, IsSortedByClosure, IsStrictlySortedBy}
use Rattle.std.specs.Ordering.{is_lt}
use Rattle.std.specs.declared.cmp.Ordering.{Ordering}
use Rattle.std.proofs.lemmas.Fn.{always_returns_same}
use Rattle.std.proofs.lemmas.List.Kept.{Contains-dedup, Contains-from_dedup, IsStrictlySortedBy-dedup}
use Rattle.std.proofs.lemmas.List.Sorted.{Contains-permutation, IsPermutation-sym, ranks_by}
use Rattle.ba_places.specs.Order.{place_cmp, same_place}
use Rattle.ba_places.proofs.Orders.{place_total, same_place-is}
use Rattle.ba_tree.specs.declared.run.Place.{Place}

abbrev is_before : Place → Place → Bool
is_before place other = is_lt (place_cmp place other)

-- what a sort leaves that is given the order as a closure
pub sorted_by : {F : Type 0} {g : Mut F (Bor Place × (Bor Place × Unit {0})) Ordering} {f : F}
    (places : List Place) → IsSortedByClosure g f places
    → ((a : Bor Place × (Bor Place × Unit {0})) (r : Ordering) (f' : F) → Called g f a r f'
    → (r ≡ place_cmp a.0.now a.1.0.now) × (f' ≡ f))
    → IsSorted place_cmp places
sorted_by {g = g} {f = f} places sorted calls =
    sorted is_before (ranks_by place_total (λ (place : Place). place))
    (always_returns_same g (λ a r. is_lt r ≡ is_before a.0.now a.1.0.now) f
    (λ a r f' k. (ap is_lt (calls a r f' k).0, (calls a r f' k).1)))

pub kept_ascending : (sorted kept : List Place) → IsSorted place_cmp sorted → kept ≡ dedup same_place sorted
    → IsStrictlySortedBy place_cmp kept
kept_ascending sorted kept order is =
    subst (IsStrictlySortedBy place_cmp) (sym is)
    (IsStrictlySortedBy-dedup place_total (λ x y. refl) sorted order)

pub kept_same : (places sorted kept : List Place) (place : Place) → IsPermutation places sorted
    → kept ≡ dedup same_place sorted → Contains kept place ↔ Contains places place
kept_same places sorted kept place moved is = (
  λ h. Contains-permutation sorted places place (IsPermutation-sym places sorted moved)
      (Contains-from_dedup same_place sorted place (subst (λ ps. Contains ps place) is h)),
  λ h. subst (λ ps. Contains ps place) (sym is)
      (Contains-dedup (eq_by_cmp_equiv place_total) same_place-is sorted place
      (Contains-permutation places sorted place moved h)),
)
