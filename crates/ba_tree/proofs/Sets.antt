-- The order of sets, and the one list of the least sets.
use Rattle.std.proofs.Common.{◌≡◌, ℕ, List, [], ◌∷◌, refl, sym, ◌∙◌, ap, inl, inr, arith}
use Rattle.ba_tree.specs.Least.{IsBefore, IsBeforeAll, AreInOrder, AreLeast, WeightList}
use Rattle.ba_choices.specs.Judges.{Judge}
use Rattle.ba_tree.proofs.Members.{Has, contains_has, has_contains}

pub IsBefore-irreflexive : (s : List ℕ) → IsBefore s s → ⊥
IsBefore-irreflexive [] h = h
IsBefore-irreflexive (x ∷ xs) (inl h) = omega arith
IsBefore-irreflexive (x ∷ xs) (inr h) = IsBefore-irreflexive xs h.1

pub IsBefore-asymmetric : (s t : List ℕ) → IsBefore s t → IsBefore t s → ⊥
IsBefore-asymmetric [] [] h k = h
IsBefore-asymmetric [] (y ∷ ys) h k = k
IsBefore-asymmetric (x ∷ xs) [] h k = h
IsBefore-asymmetric (x ∷ xs) (y ∷ ys) (inl h) (inl k) = omega arith
IsBefore-asymmetric (x ∷ xs) (y ∷ ys) (inl h) (inr k) = let e = k.0 in omega arith
IsBefore-asymmetric (x ∷ xs) (y ∷ ys) (inr h) (inl k) = let e = h.0 in omega arith
IsBefore-asymmetric (x ∷ xs) (y ∷ ys) (inr h) (inr k) = IsBefore-asymmetric xs ys h.1 k.1

before_each : (s t : List ℕ) (ts : List (List ℕ)) → IsBeforeAll s ts → Has ts t → IsBefore s t
before_each s t [] h k = absurd k
before_each s t (u ∷ us) h (inl e) = rw e h.0
before_each s t (u ∷ us) h (inr k) = before_each s t us h.1 k

-- the first sets of two such lists are one
first_same : (x y : List ℕ) (xs ys : List (List ℕ)) → IsBeforeAll x xs → IsBeforeAll y ys → Has (y ∷ ys) x → Has (x ∷ xs) y → x ≡ y
first_same x y xs ys x_first y_first (inl e) k = e
first_same x y xs ys x_first y_first (inr h) (inl e) = sym e
first_same x y xs ys x_first y_first (inr h) (inr k) =
    absurd (IsBefore-asymmetric x y (before_each x y xs x_first k) (before_each y x ys y_first h))

-- what follows the first of one list is after the first of the other
rest_has : (x y : List ℕ) (xs ys : List (List ℕ)) (s : List ℕ) → x ≡ y → IsBeforeAll x xs → Has xs s → Has (y ∷ ys) s → Has ys s
rest_has x y xs ys s e x_first h (inl is_y) =
    absurd (IsBefore-irreflexive x (before_each x x xs x_first (rw (e, ← is_y) h)))
rest_has x y xs ys s e x_first h (inr k) = k

-- two lists in order with the same members are one
pub same_in_order : (xs ys : List (List ℕ)) → AreInOrder xs → AreInOrder ys
    → ((s : List ℕ) → Has xs s → Has ys s) → ((s : List ℕ) → Has ys s → Has xs s) → xs ≡ ys
same_in_order [] [] in_xs in_ys to back = refl
same_in_order [] (y ∷ ys) in_xs in_ys to back = absurd (back y (inl refl))
same_in_order (x ∷ xs) [] in_xs in_ys to back = absurd (to x (inl refl))
same_in_order (x ∷ xs) (y ∷ ys) in_xs in_ys to back =
    let first : x ≡ y = first_same x y xs ys in_xs.0 in_ys.0 (to x (inl refl)) (back y (inl refl)) in
    let others : xs ≡ ys = same_in_order xs ys in_xs.1 in_ys.1
    (λ s h. rest_has x y xs ys s first in_xs.0 h (to s (inr h)))
    (λ s h. rest_has y x ys xs s (sym first) in_ys.0 h (back s (inr h))) in
    ap (λ s. s ∷ xs) first ∙ ap (λ ss. y ∷ ss) others

-- the list of the least sets is one
pub AreLeast-unique : (weights : WeightList) (good : Judge) (xs ys : List (List ℕ)) → AreLeast weights good xs → AreLeast weights good ys → xs ≡ ys
AreLeast-unique weights good xs ys a b = same_in_order xs ys a.in_order b.in_order
    (λ s h. contains_has ys s ((b.exactly s).1 ((a.exactly s).0 (has_contains xs s h))))
    (λ s h. contains_has xs s ((a.exactly s).1 ((b.exactly s).0 (has_contains ys s h))))
