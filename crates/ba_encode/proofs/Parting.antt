-- The bits of executions, joined end to end, and their readings.
use Rattle.std.proofs.Common.{◌≡◌, ℕ, ◌+◌, ◌*◌, ◌<◌, ◌≤◌, ◌==◌, true, Some, None, List, [], ◌∷◌, ◌++◌, map, length, get_or, take, drop, refl, sym, ◌∙◌, ap, arith}
use Rattle.std.proofs.lemmas.Bool.{and_parts, eqb-true}
use Rattle.std.proofs.lemmas.Grind.{flat_map-append}
use Rattle.std.proofs.lemmas.List.{append-nil, drop_at, drop_more, length-append, length-drop, length-map, map-append, take_at, take_more}
use Rattle.std.specs.List.{flat_map}
use Rattle.ba_encode.specs.Parts.{are_long, bits_of, bits_of_value, bits_where}
use Rattle.ba_encode.specs.declared.places.PlaceBits.{PlaceBits}
use Rattle.ba_encode.specs.declared.places.ValueBits.{ValueBits}
use Rattle.ba_nodes.specs.declared.Bit.{Bit}

more-at : {X : Type 0} (xs : List X) (i : ℕ) (x : X) → i < length xs → x ≡ get_or xs i x
    → take (i + 1) xs ≡ take i xs ++ x ∷ []
more-at xs i x within is = take_more xs i x within ∙ ap (λ y. take i xs ++ y ∷ []) (sym is)

flat-one : {X Y : Type 0} (f : X → List Y) (x : X) → flat_map f (x ∷ []) ≡ f x
flat-one f x = append-nil (f x)

-- one element more of a list that is joined end to end
pub flat-more : {X Y : Type 0} (f : X → List Y) (xs : List X) (i : ℕ) (x : X) → i < length xs →
    x ≡ get_or xs i x
    → flat_map f (take (i + 1) xs) ≡ flat_map f (take i xs) ++ f x
flat-more f xs i x within is =
    ap (flat_map f) (more-at xs i x within is) ∙ flat_map-append f (take i xs) (x ∷ [])
    ∙ ap (λ ys. flat_map f (take i xs) ++ ys) (flat-one f x)

drop-flat : {X Y : Type 0} (f : X → List Y) (xs : List X) (i : ℕ) (x : X) → i < length xs → x ≡ get_or xs i x
    → flat_map f (drop i xs) ≡ f x ++ flat_map f (drop (i + 1) xs)
drop-flat f xs i x within is =
    ap (flat_map f) (drop_more xs i x within ∙ ap (λ y. y ∷ drop (i + 1) xs) (sym is))

-- what is left of a list that is joined end to end begins with the part of the next element
pub rest-front : {X Y Z : Type 0} (f : X → List Y) (g : Y →
    Z) (xs : List X) (i : ℕ) (x : X) (rest : List Z) (size : ℕ)
    → i < length xs → x ≡ get_or xs i x → size ≡ length (f x) → rest ≡ map g (flat_map f (drop i xs))
    → take size rest ≡ map g (f x)
rest-front f g xs i x rest size within is many are =
    ap (take size) (are ∙ ap (map g) (drop-flat f xs i x within is)
    ∙ map-append g (f x) (flat_map f (drop (i + 1) xs)))
    ∙ take_at (map g (f x)) (map g (flat_map f (drop (i + 1) xs))) size (length-map (f x) g ∙ sym many)

pub rest-back : {X Y Z : Type 0} (f : X → List Y) (g : Y →
    Z) (xs : List X) (i : ℕ) (x : X) (rest : List Z) (size : ℕ)
    → i < length xs → x ≡ get_or xs i x → size ≡ length (f x) → rest ≡ map g (flat_map f (drop i xs))
    → drop size rest ≡ map g (flat_map f (drop (i + 1) xs))
rest-back f g xs i x rest size within is many are =
    ap (drop size) (are ∙ ap (map g) (drop-flat f xs i x within is)
    ∙ map-append g (f x) (flat_map f (drop (i + 1) xs)))
    ∙ drop_at (map g (f x)) (map g (flat_map f (drop (i + 1) xs))) size (length-map (f x) g ∙ sym many)

pub rest-long : {X Y Z : Type 0} (f : X → List Y) (xs : List X) (i : ℕ) (x : X) (rest : List Z) (size : ℕ)
    → i < length xs → x ≡ get_or xs i x → size ≡ length (f x) → length rest ≡ length (flat_map f (drop i xs))
    → size ≤ length rest
rest-long f xs i x rest size within is many are =
    let whole = ap length (drop-flat f xs i x within is) ∙ length-append (f x) (flat_map f (drop (i + 1)
    xs)) in
    omega (arith, whole, many, are)

pub rest-left : {X Y Z : Type 0} (f : X → List Y) (xs : List X) (i : ℕ) (x : X) (rest : List Z) (size : ℕ)
    → i < length xs → x ≡ get_or xs i x → size ≡ length (f x) → length rest ≡ length (flat_map f (drop i xs))
    → length (drop size rest) ≡ length (flat_map f (drop (i + 1) xs))
rest-left f xs i x rest size within is many are =
    let whole = ap length (drop-flat f xs i x within is) ∙ length-append (f x) (flat_map f (drop (i + 1)
    xs)) in
    let left = length-drop size rest in
    omega (arith, whole, many, are, left)

-- VALUES have 32 bits each

pub values-long : (values : List ValueBits) → are_long values ≡ true
    → length (flat_map bits_of_value values) ≡ 32 * length values
values-long [] long = refl
values-long (value ∷ values) long =
    let both = and_parts (length value.bits == 32) (are_long values) long in
    let own : length value.bits ≡ 32 = eqb-true (length value.bits) 32 both.0 in
    let rest = values-long values both.1 in
    let whole = length-append value.bits (flat_map bits_of_value values) in
    omega (arith, whole, own, rest)

pub place-size : (place : PlaceBits) (selector : Bit) → place.selector ≡ Some selector
    → are_long place.values ≡ true → length (bits_of place) ≡ 3 + 32 * length place.values
place-size place selector is long =
    let size : length (bits_where place (Some selector)) ≡ 3 + 32 * length place.values =
    omega (arith, values-long place.values long) in
    ap (λ s. length (bits_where place s)) is ∙ size

pub place-empty : (place : PlaceBits) → place.selector ≡ None → length (bits_of place) ≡ 0
place-empty place is = ap (λ s. length (bits_where place s)) is
