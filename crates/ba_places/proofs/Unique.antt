-- One strictly ascending list has the same members as another only if it is that list.
use Rattle.std.proofs.Common.{◌≡◌, List}
use Rattle.std.specs.Prelude.{Contains}
use Rattle.std.specs.Cmp.{IsTotalOrder, both_ways}
use Rattle.std.specs.List.{list_any}
use Rattle.std.specs.List.Sorted.{IsStrictlySortedBy}
use Rattle.std.specs.Ordering.{eq_by_cmp}
use Rattle.std.specs.declared.cmp.Ordering.{Ordering}
use Rattle.std.proofs.lemmas.Map.Lookups.{CmpEqualImpliesEq, btree_set_from_contains}
use Rattle.ba_places.specs.Least.{AreLeastPlaces, JudgeOfPlaces}
use Rattle.ba_places.proofs.Orders.{any-contains, contains-any, set_exact, set_total}
use Rattle.ba_tree.specs.Least.{WeightList}
use Rattle.ba_tree.specs.declared.run.Place.{Place}

pub same_members : {A : Type 0} {R : A → A → Ordering} → IsTotalOrder R → CmpEqualImpliesEq R
    → (xs ys : List A) → IsStrictlySortedBy R xs → IsStrictlySortedBy R ys
    → ((x : A) → Contains xs x → Contains ys x) → ((x : A) → Contains ys x → Contains xs x) → xs ≡ ys
same_members {R = R} total exact xs ys in_xs in_ys to back =
    btree_set_from_contains total (record { keys = xs }) (record { keys = ys }) in_xs in_ys
    (λ x. both_ways (list_any (eq_by_cmp R x) xs) (list_any (eq_by_cmp R x) ys)
    (λ h. contains-any total exact x ys (to x (any-contains total exact x xs h)))
    (λ h. contains-any total exact x xs (back x (any-contains total exact x ys h)))) exact

-- the list of the least sets of places is one
pub AreLeastPlaces-unique : (weights : WeightList) (good : JudgeOfPlaces) (sets others : List (List Place))
    → AreLeastPlaces weights good sets → AreLeastPlaces weights good others → sets ≡ others
AreLeastPlaces-unique weights good sets others a b = same_members set_total set_exact sets others
    a.in_order b.in_order (λ set h. (b.exactly set).1 ((a.exactly set).0 h))
    (λ set h. (a.exactly set).1 ((b.exactly set).0 h))
