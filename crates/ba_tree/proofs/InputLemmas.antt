-- Numbers of an input.
use Rattle.ba_tree.proofs.Tests.{both}
use Rattle.std.proofs.lemmas.List.{length-append, length-drop, length-replicate, length-take-le}
use Rattle.std.specs.Option.{option_or}
use Rattle.ba_bytes.specs.Pieces.{pieces_of}
use Rattle.ba_numbers.specs.declared.ids.VarId.{VarId}
use Rattle.ba_tree.specs.Facts.{is_parameter_shape}
use Rattle.ba_tree.specs.Meaning.{variable_of}
use Rattle.ba_tree.specs.Run.{fits, fits_all, fits_shape, main_of}
use Rattle.ba_tree.specs.declared.run.Input.{Input}
use Rattle.ba_tree.specs.declared.tree.Program.{Program}
use Rattle.ba_tree.specs.declared.tree.Shape.{Shape}
use Rattle.ba_tree.specs.declared.tree.Shape.TheVariants.{Value, Array, Passed}
use Rattle.std.proofs.Common.{◌≡◌, ℕ, zero, suc, ◌+◌, ◌&&◌, ◌==◌, option_map, ◌≤◌, ℤ, pos, negsuc, min, Bool, true, false, cond, not, is_none, Option, None, Some, List, [], ◌∷◌, ◌++◌, map, length, replicate, take, drop, refl, ap, ◌∙◌, arith}
use Rattle.std.proofs.lemmas.Bool.Decides.{nat_tests}
use Rattle.std.specs.List.{cons_option, position_from, zip, list_all}
use Rattle.ba_bytes.specs.Decimal.{decimal_of, nearest}
use Rattle.ba_numbers.specs.Numbers.{is_in}
use Rattle.ba_numbers.specs.declared.numbers.CType.{CType}
use Rattle.ba_numbers.specs.declared.numbers.CType.TheVariants.{I8, U8, I16, U16, I32, U32}
use Rattle.ba_tree.specs.Inputs.{NotANumber, WrongCount, OutOfRange, first_where, input_types, is_no_number, is_outside, numbers_for, numbers_of, types_for, values_for, IsInputOf}

-- THE NEAREST NUMBER OF 64 BITS is in a type exactly if the number is, and is then the number

min_same : (n m : ℕ) → n ≤ m → min n m ≡ n
min_same n m h = omega arith

pub is_in-nearest : (t : CType) (z : ℤ) → is_in t (nearest z) ≡ is_in t z
is_in-nearest I8 (pos n) = grind (arith, nat_tests)
is_in-nearest I8 (negsuc n) = grind (arith, nat_tests)
is_in-nearest U8 (pos n) = grind (arith, nat_tests)
is_in-nearest U8 (negsuc n) = grind (arith, nat_tests)
is_in-nearest I16 (pos n) = grind (arith, nat_tests)
is_in-nearest I16 (negsuc n) = grind (arith, nat_tests)
is_in-nearest U16 (pos n) = grind (arith, nat_tests)
is_in-nearest U16 (negsuc n) = grind (arith, nat_tests)
is_in-nearest I32 (pos n) = grind (arith, nat_tests)
is_in-nearest I32 (negsuc n) = grind (arith, nat_tests)
is_in-nearest U32 (pos n) = grind (arith, nat_tests)
is_in-nearest U32 (negsuc n) = grind (arith, nat_tests)

pub nearest-is_in : (t : CType) (z : ℤ) → is_in t z ≡ true → nearest z ≡ z
nearest-is_in I8 (pos n) h = ap pos (grind (arith, nat_tests, h))
nearest-is_in I8 (negsuc n) h = ap negsuc (grind (arith, nat_tests, h))
nearest-is_in U8 (pos n) h = ap pos (grind (arith, nat_tests, h))
nearest-is_in U8 (negsuc n) h = ap negsuc (grind (arith, nat_tests, h))
nearest-is_in I16 (pos n) h = ap pos (grind (arith, nat_tests, h))
nearest-is_in I16 (negsuc n) h = ap negsuc (grind (arith, nat_tests, h))
nearest-is_in U16 (pos n) h = ap pos (grind (arith, nat_tests, h))
nearest-is_in U16 (negsuc n) h = ap negsuc (grind (arith, nat_tests, h))
nearest-is_in I32 (pos n) h = ap pos (grind (arith, nat_tests, h))
nearest-is_in I32 (negsuc n) h = ap negsuc (grind (arith, nat_tests, h))
nearest-is_in U32 (pos n) h = ap pos (grind (arith, nat_tests, h))
nearest-is_in U32 (negsuc n) h = ap negsuc (grind (arith, nat_tests, h))

-- THE PIECES of a text

-- if each piece is a number, there are as many numbers
pub length-numbers_of : (i : ℕ) (pieces : List (List ℕ)) → position_from is_no_number i pieces ≡ None
    → length (numbers_of pieces) ≡ length pieces
length-numbers_of i [] none = refl
length-numbers_of i (piece ∷ pieces) none = by (decimal_of piece) none (length-numbers_of (i + 1) pieces)
  where
    by : (number : Option ℤ) → cond (is_none number) (Some i) (position_from is_no_number (i + 1) pieces) ≡
        None
        → (position_from is_no_number (i + 1) pieces ≡ None → length (numbers_of pieces) ≡ length pieces)
        → length (cons_option number (numbers_of pieces)) ≡ length (piece ∷ pieces)
    by None none others = cc
    by (Some z) none others = ap suc (others none)

-- one piece that is a number
pub first_no_number-next : (i : ℕ) (piece : List ℕ) (pieces : List (List ℕ)) (z : ℤ) → decimal_of piece ≡
    Some z
    → position_from is_no_number i (piece ∷ pieces) ≡ position_from is_no_number (i + 1) pieces
first_no_number-next i piece pieces z is =
    ap (λ number. cond (is_none number) (Some i) (position_from is_no_number (i + 1) pieces)) is

-- one that is none
pub first_no_number-here : (i : ℕ) (piece : List ℕ) (pieces : List (List ℕ)) → decimal_of piece ≡ None
    → position_from is_no_number i (piece ∷ pieces) ≡ Some i
first_no_number-here i piece pieces is =
    ap (λ number. cond (is_none number) (Some i) (position_from is_no_number (i + 1) pieces)) is

pub numbers_of-next : (piece : List ℕ) (pieces : List (List ℕ)) (z : ℤ) → decimal_of piece ≡ Some z
    → numbers_of (piece ∷ pieces) ≡ z ∷ numbers_of pieces
numbers_of-next piece pieces z is = ap (λ number. cons_option number (numbers_of pieces)) is

-- NUMBERS BESIDE THEIR TYPES

pub first_outside-nearest : (i : ℕ) (types : List CType) (zs : List ℤ)
    → position_from is_outside i (zip types (map nearest zs)) ≡ position_from is_outside i (zip types zs)
first_outside-nearest i [] zs = refl
first_outside-nearest i (t ∷ types) [] = refl
first_outside-nearest i (t ∷ types) (z ∷ zs) =
    ap (λ b. cond (not b) (Some i) (position_from is_outside (i + 1) (zip types (map nearest zs))))
    (is_in-nearest t z)
    ∙ ap (cond (not (is_in t z)) (Some i)) (first_outside-nearest (i + 1) types zs)

-- if none is outside, each is the nearest one itself
pub nearest-inside : (i : ℕ) (types : List CType) (zs : List ℤ) → length zs ≡ length types
    → position_from is_outside i (zip types zs) ≡ None → map nearest zs ≡ zs
nearest-inside i types [] same none = refl
nearest-inside i [] (z ∷ zs) same none = cc
nearest-inside i (t ∷ types) (z ∷ zs) same none = by (is_in t z) refl none (nearest-inside (i + 1) types zs
    (omega arith))
  where
    by : (inside : Bool) → is_in t z ≡ inside
        → cond (not inside) (Some i) (position_from is_outside (i + 1) (zip types zs)) ≡ None
        → (position_from is_outside (i + 1) (zip types zs) ≡ None → map nearest zs ≡ zs)
        → nearest z ∷ map nearest zs ≡ z ∷ zs
    by true is none others = ap (λ n. n ∷ map nearest zs) (nearest-is_in t z is) ∙ ap (λ rest. z ∷ rest)
        (others none)
    by false is none others = cc

-- THE INPUT FITS the parameters, if each has values of its own

abbrev inside : CType × ℤ → Bool
inside (t, z) = is_in t z

all-inside : (i : ℕ) (items : List (CType × ℤ)) → position_from is_outside i items ≡ None → list_all inside
    items ≡ true
all-inside i [] none = refl
all-inside i ((t, z) ∷ items) none = by (is_in t z) none (all-inside (i + 1) items)
  where
    by : (b : Bool) → cond (not b) (Some i) (position_from is_outside (i + 1) items) ≡ None
        → (position_from is_outside (i + 1) items ≡ None → list_all inside items ≡ true) → (b && list_all
        inside items) ≡ true
    by true none others = others none
    by false none others = cc

-- the numbers of one type that come first, and those after them
front-inside : (t : CType) (n : ℕ) (types : List CType) (zs : List ℤ) → list_all inside (zip (replicate n t
    ++ types) zs) ≡ true
    → (list_all (is_in t) (take n zs) ≡ true) × (list_all inside (zip types (drop n zs)) ≡ true)
front-inside t zero types zs all = (refl, all)
front-inside t (suc n) types [] all = (refl, nothing types)
  where
    nothing : (types : List CType) → list_all inside (zip types []) ≡ true
    nothing [] = refl
    nothing (t ∷ ts) = refl
front-inside t (suc n) types (z ∷ zs) all = by (is_in t z) all (front-inside t n types zs)
  where
    by : (b : Bool) → (b && list_all inside (zip (replicate n t ++ types) zs)) ≡ true
        → (list_all inside (zip (replicate n t ++ types) zs) ≡ true
        → (list_all (is_in t) (take n zs) ≡ true) × (list_all inside (zip types (drop n zs)) ≡ true))
        → ((b && list_all (is_in t) (take n zs)) ≡ true) × (list_all inside (zip types (drop n zs)) ≡ true)
    by true all others = others all
    by false all others = cc

shape-fits : (shape : Shape) (t : CType) (zs : List ℤ) → is_parameter_shape true shape ≡ true → length zs ≡
    numbers_for shape
    → list_all (is_in t) zs ≡ true → fits_shape shape t zs ≡ true
shape-fits Value t zs own count all = rw (count, all) refl
shape-fits (Array n) t zs own count all = rw (count, all) (grind (arith, nat_tests))
shape-fits Passed t zs own count all = cc

values-fit : (p : Program) (vs : List VarId) (zs : List ℤ) → list_all (λ v. is_parameter_shape true
    (variable_of p v).shape) vs ≡ true
    → length zs ≡ length (types_for p vs) → list_all inside (zip (types_for p vs) zs) ≡ true
    → fits_all p vs (values_for p vs zs) ≡ true
values-fit p [] zs own count all = refl
values-fit p (v ∷ vs) zs own count all =
    let variable = variable_of p v in
    let n = numbers_for variable.shape in
    let own = both (is_parameter_shape true variable.shape) (list_all (λ v. is_parameter_shape true
    (variable_of p v).shape) vs) own in
    let whole : length zs ≡ n + length (types_for p vs) =
    count ∙ length-append (replicate n variable.t) (types_for p vs)
    ∙ ap (λ k. k + length (types_for p vs)) (length-replicate n variable.t) in
    let parts = front-inside variable.t n (types_for p vs) zs all in
    let first = shape-fits variable.shape variable.t (take n zs) own.0 (length-take-le n zs (omega arith))
    parts.0 in
    let others = values-fit p vs (drop n zs) own.1 (omega (arith, length-drop n zs)) parts.1 in
    rw (first, others) refl

-- a text without a fault
no-fault : (first : Option ℕ) (b : Bool) (outside : Option ℕ)
    → option_or (option_map NotANumber first) (cond b (option_map OutOfRange outside) (Some WrongCount)) ≡
    None
    → (first ≡ None) × (b ≡ true) × (outside ≡ None)
no-fault (Some n) b outside none = cc
no-fault None false outside none = cc
no-fault None true (Some n) none = cc
no-fault None true None none = (refl, refl, refl)

pub input-fits : (p : Program) (text : List ℕ) (input : Input)
    → list_all (λ v. is_parameter_shape true (variable_of p v).shape) (main_of p).params ≡ true → IsInputOf
    p text input → fits p input ≡ true
input-fits p text input own i =
    ap (fits_all p (main_of p).params) i.values
    ∙ values-fit p (main_of p).params (numbers_of pieces) own same (all-inside 1 (zip (input_types p)
    (numbers_of pieces)) parts.2)
  where
    pieces : List (List ℕ)
    pieces = pieces_of text

    parts : (first_where is_no_number pieces ≡ None) × ((length pieces == length (input_types p)) ≡ true)
        × (first_where is_outside (zip (input_types p) (numbers_of pieces)) ≡ None)
    parts = no-fault _ _ _ i.no_fault

    same : length (numbers_of pieces) ≡ length (input_types p)
    same = length-numbers_of 1 pieces parts.0 ∙ grind (arith, nat_tests, parts.1)
