-- Membership in a list, by its first element and the others.
use Rattle.std.proofs.Common.{◌≡◌, List, [], ◌∷◌, refl, sym, ◌∙◌, ap, ◌⊎◌, inl, inr, arith}
use Rattle.std.specs.Prelude.{Contains}
use Rattle.std.proofs.lemmas.List.Elements.{Contains-append_right, Contains-append_cases}
use Rattle.std.specs.List.{slice_index_or}

-- x is an element of xs
abbrev pub Has : {A : Type 0} → List A → A → Type 0
Has [] x = ⊥
Has (y ∷ ys) x = (x ≡ y) ⊎ Has ys x

pub here : {A : Type 0} (x : A) (xs : List A) → Contains (x ∷ xs) x
here x xs = (0, omega arith, refl)

pub there : {A : Type 0} (y x : A) (xs : List A) → Contains xs x → Contains (y ∷ xs) x
there y x xs h = Contains-append_right (y ∷ []) xs x h

none : {A : Type 0} (x : A) → Contains [] x → ⊥
none x (k, below, is_x) = omega arith

only : {A : Type 0} (y x : A) → Contains (y ∷ []) x → x ≡ y
only y x (k, below, is_x) = let zero_k : k ≡ 0 = omega arith in sym (ap (λ i. slice_index_or (y ∷ []) i x) (sym zero_k) ∙ is_x)

pub contains_has : {A : Type 0} (xs : List A) (x : A) → Contains xs x → Has xs x
contains_has [] x h = none x h
contains_has (y ∷ ys) x h = elim (Contains-append_cases (y ∷ []) ys x h) [ inl e ↦ inl (only y x e) | inr t ↦ inr (contains_has ys x t) ]

pub has_contains : {A : Type 0} (xs : List A) (x : A) → Has xs x → Contains xs x
has_contains [] x h = absurd h
has_contains (y ∷ ys) x (inl e) = rw e (here y ys)
has_contains (y ∷ ys) x (inr t) = there y x ys (has_contains ys x t)
