-- A list that is mapped in place, from the front.

use Rattle.std.proofs.Common.{◌≡◌, ℕ, suc, ◌+◌, ◌<◌, List, [], ◌∷◌, ◌++◌, length, get_or, set, take, drop, map, refl, sym, ap, ◌∙◌, arith, zero}

pub map_next : {X : Type 0} (f : X → X) (xs : List X) (i : ℕ) (d : X) → i < length xs
    → set (map f (take i xs) ++ drop i xs) i (f (get_or xs i d)) ≡ map f (take (i + 1) xs) ++ drop (i + 1) xs
map_next f [] i d h = absurd (omega (arith, h))
map_next f (x ∷ xs) zero d h = refl
map_next f (x ∷ xs) (suc i) d h =
    ap (λ (ys : List _). f x ∷ ys) (map_next f xs i d (omega (arith, h)))
    ∙ ap (λ n. map f (take n (x ∷ xs)) ++ drop n (x ∷ xs)) (index i)
  where
    index : (i : ℕ) → suc (i + 1) ≡ suc i + 1
    index i = omega arith

pub map_same : {X : Type 0} (f : X → X) (xs : List X) (i : ℕ) (d : X) → i < length xs → f (get_or xs i d) ≡ get_or xs i d
    → map f (take i xs) ++ drop i xs ≡ map f (take (i + 1) xs) ++ drop (i + 1) xs
map_same f [] i d h same = absurd (omega (arith, h))
map_same f (x ∷ xs) zero d h same = ap (λ y. y ∷ xs) (sym same)
map_same f (x ∷ xs) (suc i) d h same =
    ap (λ (ys : List _). f x ∷ ys) (map_same f xs i d (omega (arith, h)) same)
    ∙ ap (λ n. map f (take n (x ∷ xs)) ++ drop n (x ∷ xs)) (index i)
  where
    index : (i : ℕ) → suc (i + 1) ≡ suc i + 1
    index i = omega arith

-- what is at the place that comes next
pub map_at : {X : Type 0} (f : X → X) (xs : List X) (i : ℕ) (d : X) → get_or (map f (take i xs) ++ drop i xs) i d ≡ get_or xs i d
map_at f [] zero d = refl
map_at f [] (suc i) d = refl
map_at f (x ∷ xs) zero d = refl
map_at f (x ∷ xs) (suc i) d = map_at f xs i d

pub map_length : {X : Type 0} (f : X → X) (xs : List X) (i : ℕ) → length (map f (take i xs) ++ drop i xs) ≡ length xs
map_length f [] zero = refl
map_length f [] (suc i) = refl
map_length f (x ∷ xs) zero = refl
map_length f (x ∷ xs) (suc i) = ap suc (map_length f xs i)

-- the loop's steps: a value is read, and what it is mapped to is written, or it is mapped to itself
pub map_write : {X : Type 0} (f : X → X) (xs now after : List X) (i : ℕ) (y v : X)
    → now ≡ map f (take i xs) ++ drop i xs → i < length xs → v ≡ get_or now i v → y ≡ f v → after ≡ set now i y
    → after ≡ map f (take (i + 1) xs) ++ drop (i + 1) xs
map_write f xs now after i y v now_is h v_is y_is after_is =
    let read : v ≡ get_or xs i v = v_is ∙ (ap (λ (ys : List _). get_or ys i v) now_is ∙ map_at f xs i v) in
    after_is ∙ (ap (λ (ys : List _). set ys i y) now_is
    ∙ (ap (set (map f (take i xs) ++ drop i xs) i) (y_is ∙ ap f read) ∙ map_next f xs i v h))

pub map_keep : {X : Type 0} (f : X → X) (xs now after : List X) (i : ℕ) (v : X)
    → now ≡ map f (take i xs) ++ drop i xs → i < length xs → v ≡ get_or now i v → f v ≡ v → after ≡ now
    → after ≡ map f (take (i + 1) xs) ++ drop (i + 1) xs
map_keep f xs now after i v now_is h v_is same after_is =
    let read : v ≡ get_or xs i v = v_is ∙ (ap (λ (ys : List _). get_or ys i v) now_is ∙ map_at f xs i v) in
    after_is ∙ (now_is ∙ map_same f xs i v h (ap f (sym read) ∙ (same ∙ read)))
