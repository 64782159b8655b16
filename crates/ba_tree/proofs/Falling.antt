-- What is counted inside is below what it is counted in.
use Rattle.std.proofs.Common.{◌≡◌, ℕ, ◌+◌, ◌*◌, ◌<◌, ◌≤◌, suc, zero, Option, List, [], ◌∷◌, map, drop, length, get_or, slice_index_or, arith, ◌∙◌, ap}
use Rattle.std.proofs.Math.Nat.{suc-mul}
use Rattle.std.proofs.lemmas.List.Sums.{get_or-le-sum_by}
use Rattle.ba_tree.specs.Meaning.{entered}
use Rattle.ba_tree.specs.Run.{no_function}
use Rattle.ba_tree.specs.declared.tree.Function.{Function}
use Rattle.ba_tree.specs.declared.tree.Program.{Program}
use Rattle.ba_tree.specs.Heights.{total, heights, tallest}

pub item-below : {X : Type 0} (f : X → ℕ) (xs : List X) (i : ℕ) (x : X) → i < length xs → x ≡ get_or xs i x
    → f x < total (map f xs)
item-below f [] i x below is = absurd (omega arith)
item-below f (y ∷ ys) zero x below is = let e : f x ≡ f y = ap f is in omega arith
item-below f (y ∷ ys) (suc i) x below is = let h : f x < total (map f ys) = item-below f ys i x (omega arith)
    is in omega arith

-- what is left of a row is no higher than the row
drop-below : {X : Type 0} (f : X → ℕ) (i : ℕ) (xs : List X) → total (map f (drop i xs)) ≤ total (map f xs)
drop-below f zero xs = omega arith
drop-below f (suc i) [] = omega arith
drop-below f (suc i) (x ∷ xs) = let h : total (map f (drop i xs)) ≤ total (map f xs) = drop-below f i xs in
    omega arith

pub entered-below : {X : Type 0} (f : X → ℕ) (label : Option ℕ) (xs : List X)
    → total (map f (entered label xs)) ≤ total (map f xs)
entered-below f Option.None xs = omega arith
entered-below f (Option.Some at) xs = drop-below f at xs

-- a body is below what one frame less leaves
pub body-below : (p : Program) (g : Function) (fn f n : ℕ) → f ≡ suc n → fn < length p.functions
    → slice_index_or p.functions fn no_function ≡ g
    → n * tallest p + (heights g.body + 1) < f * tallest p
body-below p g fn f n frames below found =
    let tall : heights (slice_index_or p.functions fn no_function).body + 2 ≤ tallest p =
    get_or-le-sum_by (λ (f : Function). heights f.body + 2) p.functions fn no_function below in
    let own : heights (slice_index_or p.functions fn no_function).body ≡ heights g.body = ap (λ (g :
    Function). heights g.body) found in
    let more : f * tallest p ≡ n * tallest p + tallest p = ap (λ f. f * tallest p) frames
    ∙ suc-mul n (tallest p) in
    omega arith
