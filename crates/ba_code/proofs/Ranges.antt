-- Numbers in the ranges of types.
use Rattle.std.proofs.Common.{◌≡◌, ℕ, zero, suc, ℤ, pos, ◌≤ℤ◌, Bool, true, false, ◌||◌, cond, T, Option, None, Some, List, [], ◌∷◌, take, refl, ◌∙◌, ap, subst, arith, replicate, ◌++◌, inl, inr, ◌⊎◌}
use Rattle.std.proofs.lemmas.Bool.{and_parts, and_from}
use Rattle.std.proofs.lemmas.Int.{ints}
use Rattle.std.proofs.lemmas.Float.{T_from_true}
use Rattle.std.specs.List.{list_all}
use Rattle.std.specs.Prelude.{IfSome, IsTrue, int_le, slice_set, slice_index_or}
use Rattle.ba_code.specs.Operators.{converting, plain}
use Rattle.ba_code.specs.Types.{is_within}
use Rattle.ba_numbers.proofs.Conversions.{compared, converted_in_range, converted_own, tested, value_in_range, value_of_one_in_range}
use Rattle.ba_numbers.specs.Numbers.{IsIn, compares, converted, greatest_of, is_in, least_of, value_of, value_of_one}
use Rattle.ba_numbers.specs.declared.numbers.BinOp.{BinOp}
use Rattle.ba_numbers.specs.declared.numbers.CType.{CType}
use Rattle.ba_numbers.specs.declared.numbers.CType.TheVariants.{I8, U8, I16, U16, I32, U32}
use Rattle.ba_numbers.specs.declared.numbers.UnOp.{UnOp}
use Rattle.ba_numbers.specs.declared.numbers.UnOp.TheVariants.{Neg, Flip, IsZero}
use Rattle.ba_numbers.specs.Types.{shifts, type_of_binary, type_of_unary}
use Rattle.ba_tree.specs.Meaning.{elements_with}

of_T : (b : Bool) → T b → b ≡ true
of_T true h = refl
of_T false h = absurd h

is_true : (b : Bool) → b ≡ true → IsTrue b
is_true b h = h

pub test-in : (t : CType) (z : ℤ) → IsIn t z → is_in t z ≡ true
test-in t z h = and_from (int_le (least_of t) z) (int_le z (greatest_of t))
    (of_T (int_le (least_of t) z) h.low.le) (of_T (int_le z (greatest_of t)) h.high.le)

pub in-test : (t : CType) (z : ℤ) → is_in t z ≡ true → IsIn t z
in-test t z h = let both = and_parts (int_le (least_of t) z) (int_le z (greatest_of t)) h in record {
  low = record { le = T_from_true (int_le (least_of t) z) both.0 };
  high = record { le = T_from_true (int_le z (greatest_of t)) both.1 };
}

pub in-within : (a b : CType) (z : ℤ) → is_within a b ≡ true → is_in a z ≡ true → is_in b z ≡ true
in-within a b z w h =
    let both = and_parts (is_in b (least_of a)) (is_in b (greatest_of a)) w in
    let low : least_of b ≤ℤ least_of a = (in-test b (least_of a) both.0).low in
    let high : greatest_of a ≤ℤ greatest_of b = (in-test b (greatest_of a) both.1).high in
    let from : least_of a ≤ℤ z = (in-test a z h).low in
    let upto : z ≤ℤ greatest_of a = (in-test a z h).high in
    test-in b z (record { low = omega (arith, ints); high = omega (arith, ints) })

-- 0 and 1 are in every range
pub zero-in : (t : CType) → is_in t (pos 0) ≡ true
zero-in I8 = refl
zero-in U8 = refl
zero-in I16 = refl
zero-in U16 = refl
zero-in I32 = refl
zero-in U32 = refl

pub one-in : (t : CType) → is_in t (pos 1) ≡ true
one-in I8 = refl
one-in U8 = refl
one-in I16 = refl
one-in U16 = refl
one-in I32 = refl
one-in U32 = refl

-- OPERATORS on numbers of their types

pub unary-same : (op : UnOp) (t : CType) (a : ℤ) → is_in t a ≡ true →
    converting.unary op t a ≡ plain.unary op t a
unary-same op t a h = ap (value_of_one op t) (converted_own t a (in-test t a h))

right-same : (b : Bool) (t : CType) (z : ℤ) → (b || is_in t z) ≡ true → cond b z (converted t z) ≡ z
right-same true t z h = refl
right-same false t z h = converted_own t z (in-test t z h)

pub binary-same : (op : BinOp) (t : CType) (a b : ℤ) → is_in t a ≡ true → (shifts op || is_in t b) ≡ true
    → converting.binary op t a b ≡ plain.binary op t a b
binary-same op t a b h k =
    ap (λ a. value_of op t a (cond (shifts op) b (converted t b))) (converted_own t a (in-test t a h))
    ∙ ap (value_of op t a) (right-same (shifts op) t b k)

pub unary-in : (op : UnOp) (t : CType) (a : ℤ) → is_in (type_of_unary op t) (value_of_one op t a) ≡ true
unary-in Neg t a = test-in t (value_of_one Neg t a) (value_of_one_in_range Neg t a)
unary-in Flip t a = test-in t (value_of_one Flip t a) (value_of_one_in_range Flip t a)
unary-in IsZero t a = elim (tested t a) [
  | inl e ↦ ap (is_in I32) e ∙ refl
  | inr e ↦ ap (is_in I32) e ∙ refl
]

pub converted-in : (t : CType) (z : ℤ) → is_in t (converted t z) ≡ true
converted-in t z = test-in t (converted t z) (converted_in_range t z)

-- a comparison gives 0 or 1, any other operator a number of its type
compared-in : (o : Option ℤ) → (o ≡ Some (pos 0)) ⊎ (o ≡ Some (pos 1)) → (z : ℤ) → o ≡ Some z →
    is_in I32 z ≡ true
compared-in o (inl e) z is = let same : z ≡ pos 0 = cc in ap (is_in I32) same
compared-in o (inr e) z is = let same : z ≡ pos 1 = cc in ap (is_in I32) same

plain-in : (t : CType) (o : Option ℤ) → IfSome o (IsIn t) → (z : ℤ) → o ≡ Some z → is_in t z ≡ true
plain-in t None h z is = absurd (let f : None ≡ Some z = is in cc)
plain-in t (Some y) h z is = let same : y ≡ z = cc in subst (λ z. is_in t z ≡ true) same (test-in t y h)

binary-by : (op : BinOp) (t : CType) (a b : ℤ) (c : Bool) → compares op ≡ c → (z : ℤ) →
    value_of op t a b ≡ Some z
    → is_in (cond c I32 t) z ≡ true
binary-by op t a b true is z found = compared-in (value_of op t a b) (compared op t a b (is_true (compares
    op) is)) z found
binary-by op t a b false is z found = plain-in t (value_of op t a b) (value_in_range op t a b) z found

pub binary-in : (op : BinOp) (t : CType) (a b z : ℤ) → value_of op t a b ≡ Some z →
    is_in (type_of_binary op t) z ≡ true
binary-in op t a b z found = binary-by op t a b (compares op) refl z found

-- ELEMENTS

pub all-zero : (t : CType) (n : ℕ) → list_all (is_in t) (replicate n (pos 0)) ≡ true
all-zero t zero = refl
all-zero t (suc n) = and_from (is_in t (pos 0)) (list_all (is_in t) (replicate n (pos 0))) (zero-in t)
    (all-zero t n)

all-append : (t : CType) (xs ys : List ℤ) → list_all (is_in t) xs ≡ true → list_all (is_in t) ys ≡ true
    → list_all (is_in t) (xs ++ ys) ≡ true
all-append t [] ys h k = k
all-append t (x ∷ xs) ys h k =
    let both = and_parts (is_in t x) (list_all (is_in t) xs) h in
    and_from (is_in t x) (list_all (is_in t) (xs ++ ys)) both.0 (all-append t xs ys both.1 k)

all-take : (t : CType) (n : ℕ) (xs : List ℤ) → list_all (is_in t) xs ≡ true →
    list_all (is_in t) (take n xs) ≡ true
all-take t zero xs h = refl
all-take t (suc n) [] h = refl
all-take t (suc n) (x ∷ xs) h =
    let both = and_parts (is_in t x) (list_all (is_in t) xs) h in
    and_from (is_in t x) (list_all (is_in t) (take n xs)) both.0 (all-take t n xs both.1)

pub elements-in : (t : CType) (n : ℕ) (zs : List ℤ) → list_all (is_in t) zs ≡ true
    → list_all (is_in t) (elements_with n zs) ≡ true
elements-in t n zs h = all-take t n (zs ++ replicate n (pos 0)) (all-append t zs (replicate n (pos 0)) h
    (all-zero t n))

pub at-in : (t : CType) (zs : List ℤ) (k : ℕ) → list_all (is_in t) zs ≡ true
    → is_in t (slice_index_or zs k (pos 0)) ≡ true
at-in t [] k h = zero-in t
at-in t (z ∷ zs) zero h = (and_parts (is_in t z) (list_all (is_in t) zs) h).0
at-in t (z ∷ zs) (suc k) h = at-in t zs k (and_parts (is_in t z) (list_all (is_in t) zs) h).1

pub set-in : (t : CType) (zs : List ℤ) (k : ℕ) (y : ℤ) → is_in t y ≡ true → list_all (is_in t) zs ≡ true
    → list_all (is_in t) (slice_set zs k y) ≡ true
set-in t [] k y in_y h = h
set-in t (z ∷ zs) zero y in_y h =
    and_from (is_in t y) (list_all (is_in t) zs) in_y (and_parts (is_in t z) (list_all (is_in t) zs) h).1
set-in t (z ∷ zs) (suc k) y in_y h =
    let both = and_parts (is_in t z) (list_all (is_in t) zs) h in
    and_from (is_in t z) (list_all (is_in t) (slice_set zs k y)) both.0 (set-in t zs k y in_y both.1)
