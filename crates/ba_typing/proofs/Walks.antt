-- Going over a list from its front.
use Rattle.std.proofs.Common.{
  ◌≡◌,
  ℕ,
  zero,
  suc,
  ◌+◌,
  ◌<◌,
  ◌≤◌,
  List,
  [],
  ◌∷◌,
  ◌++◌,
  length,
  get_or,
  map,
  drop,
  refl,
  sym,
  ◌∙◌,
  ap,
  arith,
  append_assoc,
  append-nil,
}
use Rattle.std.proofs.Math.Seq.{drop-cons}

-- the item at a place begins what is left from there
pub next_item : {A : Type 0} (xs : List A) (i : ℕ) (x : A) → i < length xs → x ≡ get_or xs i x
    → drop i xs ≡ x ∷ drop (i + 1) xs
next_item xs i x within is = let next : suc i ≡ i + 1 = omega arith in
    drop-cons xs i x within ∙ ap (λ y. y ∷ drop (suc i) xs) (sym is) ∙ ap (λ j. x ∷ drop j xs) next

-- nothing is left at the end
pub none_left : {A : Type 0} (xs : List A) (i : ℕ) → length xs ≤ i → drop i xs ≡ []
none_left [] zero past = refl
none_left [] (suc i) past = refl
none_left (x ∷ xs) zero past = absurd (let none : ⊥ = omega (arith, past) in none)
none_left (x ∷ xs) (suc i) past = none_left xs i (omega (arith, past))

-- what each item gives is put after the others, from a place
module _ {A B : Type 0} (f : A → B) (xs : List A) (i : ℕ) (old whole : List B)
    (rest : old ++ map f (drop i xs) ≡ whole) where
  pub next_mapped : (x : A) (new : List B) → i < length xs → x ≡ get_or xs i x → new ≡ old ++ f x ∷ []
      → new ++ map f (drop (i + 1) xs) ≡ whole
  next_mapped x new within is pushed =
      ap (λ ys. ys ++ map f (drop (i + 1) xs)) pushed
      ∙ append_assoc old (f x ∷ []) (map f (drop (i + 1) xs))
      ∙ ap (λ ys. old ++ map f ys) (sym (next_item xs i x within is)) ∙ rest

  pub all_mapped : length xs ≤ i → old ≡ whole
  all_mapped past = sym (append-nil old) ∙ ap (λ ys. old ++ map f ys) (sym (none_left xs i past)) ∙ rest
