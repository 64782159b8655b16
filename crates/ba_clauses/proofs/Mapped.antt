-- A list that is written item by item as a row is read.

use Rattle.std.proofs.Common.{◌≡◌, ℕ, ◌+◌, ◌<◌, ◌≤◌, List, [], ◌∷◌, ◌++◌, length, get_or, take, map, sym, ap, ◌∙◌, append_assoc}
use Rattle.std.proofs.lemmas.List.{map_more, take_all}

-- the next item is written
pub mapped_more : {A B : Type 0} (f : A → B) (made next : List B) (xs : List A) (i : ℕ) (d : A) (y : B)
    → made ≡ map f (take i xs) → i < length xs → y ≡ f (get_or xs i d) → next ≡ made ++ y ∷ []
    → next ≡ map f (take (i + 1) xs)
mapped_more f made next xs i d y made_is within y_is next_is =
    next_is ∙ (ap (λ ys. ys ++ y ∷ []) made_is
    ∙ (ap (λ z. map f (take i xs) ++ z ∷ []) y_is ∙ sym (map_more f xs i d within)))

-- all are written
pub mapped_all : {A B : Type 0} (f : A → B) (made : List B) (xs : List A) (i : ℕ)
    → made ≡ map f (take i xs) → length xs ≤ i → made ≡ map f xs
mapped_all f made xs i made_is past = made_is ∙ ap (map f) (take_all i xs past)

-- the same after a list
pub mapped_more_after : {A B : Type 0} (front : List B) (f : A → B) (made next : List B) (xs : List A) (i : ℕ)
    (d : A) (y : B) → made ≡ front ++ map f (take i xs) → i < length xs → y ≡ f (get_or xs i d)
    → next ≡ made ++ y ∷ [] → next ≡ front ++ map f (take (i + 1) xs)
mapped_more_after front f made next xs i d y made_is within y_is next_is =
    next_is ∙ (ap (λ ys. ys ++ y ∷ []) made_is ∙ (append_assoc front (map f (take i xs)) (y ∷ [])
    ∙ (ap (λ z. front ++ (map f (take i xs) ++ z ∷ [])) y_is
    ∙ ap (λ ys. front ++ ys) (sym (map_more f xs i d within)))))

pub mapped_all_after : {A B : Type 0} (front : List B) (f : A → B) (made : List B) (xs : List A) (i : ℕ)
    → made ≡ front ++ map f (take i xs) → length xs ≤ i → made ≡ front ++ map f xs
mapped_all_after front f made xs i made_is past = made_is ∙ ap (λ ys. front ++ map f ys) (take_all i xs past)
