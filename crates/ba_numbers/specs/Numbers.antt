-- The numbers of C (C90 6.1.2.5, 6.2.1, 6.3) in this profile: two's complement, arithmetic that wraps,
-- division towards zero. An operator's value is plain arithmetic on whole numbers, converted to the
-- operator's type. The conversion takes the number of the type's range that is congruent modulo 2 to the
-- type's width.

use Rattle.std.specs.Prelude.{◌≡◌, ℕ, ◌*◌, ◌^◌, ◌%◌, ℤ, pos, neg_ℤ, ◌+ℤ◌, ◌-ℤ◌, ◌*ℤ◌, ◌≤ℤ◌, Bool, true, false, not, cond, ◌&&◌, Option, None, Some, bit_and, bit_or, bit_xor, int_div, int_rem, int_lt, int_le, unsigned_abs}
use Rattle.std.specs.Int.{int_rem_euclid, int_div_euclid}
use Rattle.std.specs.Ordering.{int_eq}
use Rattle.ba_numbers.specs.declared.numbers.CType.{CType}
use Rattle.ba_numbers.specs.declared.numbers.CType.TheVariants.{I8, U8, I16, U16, I32, U32}
use Rattle.ba_numbers.specs.declared.numbers.BinOp.{BinOp}
use Rattle.ba_numbers.specs.declared.numbers.BinOp.TheVariants.{Mul, Div, Rem, Add, Sub, Shl, Shr, Lt, Le, Gt, Ge, Eq, Ne, And, Xor, Or}
use Rattle.ba_numbers.specs.declared.numbers.UnOp.{UnOp}
use Rattle.ba_numbers.specs.declared.numbers.UnOp.TheVariants.{Neg, Flip, IsZero}

-- the least and the greatest number of a type
abbrev pub least_of : CType → ℤ
least_of I8 = neg_ℤ (pos 0x80)
least_of U8 = pos 0
least_of I16 = neg_ℤ (pos 0x8000)
least_of U16 = pos 0
least_of I32 = neg_ℤ (pos 0x80000000)
least_of U32 = pos 0

-- the greatest value of a type
abbrev pub greatest_of : CType → ℤ
greatest_of I8 = pos 0x7f
greatest_of U8 = pos 0xff
greatest_of I16 = pos 0x7fff
greatest_of U16 = pos 0xffff
greatest_of I32 = pos 0x7fffffff
greatest_of U32 = pos 0xffffffff

-- the number is in the range of the type
pub record IsIn (t : CType) (z : ℤ) : Type 0 where
  pub low : least_of t ≤ℤ z
  pub high : z ≤ℤ greatest_of t

-- the same as a test
abbrev pub is_in : CType → ℤ → Bool
is_in t z = int_le (least_of t) z && int_le z (greatest_of t)

-- the width of a type in bits
abbrev pub width_of : CType → ℕ
width_of I8 = 8
width_of U8 = 8
width_of I16 = 16
width_of U16 = 16
width_of I32 = 32
width_of U32 = 32

-- the numbers differ by a multiple of m
pub record IsCongruent (m : ℕ) (y z : ℤ) : Type 0 where
  pub turns : ℤ
  pub apart : y ≡ z +ℤ turns *ℤ pos m

-- the number from -half to half - 1 that is congruent to z modulo 2 * half
abbrev pub centred : ℕ → ℤ → ℤ
centred half z = int_rem_euclid (z +ℤ pos half) (pos (2 * half)) -ℤ pos half

-- the number of the type's range that is congruent to z modulo 2 to the type's width (C90 6.2.1.2)
unfoldable pub converted : CType → ℤ → ℤ
converted I8 z = centred 0x80 z
converted U8 z = int_rem_euclid z (pos 0x100)
converted I16 z = centred 0x8000 z
converted U16 z = int_rem_euclid z (pos 0x10000)
converted I32 z = centred 0x80000000 z
converted U32 z = int_rem_euclid z (pos 0x100000000)

-- the 32 low bits of a number, as a number
abbrev pub low_word : ℤ → ℕ
low_word z = unsigned_abs (int_rem_euclid z (pos 0x100000000))

-- how far a shift goes: the low five bits of its count
abbrev pub count_of : ℤ → ℕ
count_of z = low_word z % 32

-- 1 for true, 0 for false
abbrev pub truth : Bool → ℤ
truth b = cond b (pos 1) (pos 0)

-- plain arithmetic on whole numbers; a zero divisor has no value (C90 6.3.5 to 6.3.12)
abbrev pub plain_value : BinOp → ℤ → ℤ → Option ℤ
plain_value Mul a b = Some (a *ℤ b)
plain_value Div a b = cond (int_eq b (pos 0)) None (Some (int_div a b))
plain_value Rem a b = cond (int_eq b (pos 0)) None (Some (int_rem a b))
plain_value Add a b = Some (a +ℤ b)
plain_value Sub a b = Some (a -ℤ b)
plain_value Shl a b = Some (a *ℤ pos (2 ^ count_of b))
plain_value Shr a b = Some (int_div_euclid a (pos (2 ^ count_of b)))
plain_value Lt a b = Some (truth (int_lt a b))
plain_value Le a b = Some (truth (int_le a b))
plain_value Gt a b = Some (truth (int_lt b a))
plain_value Ge a b = Some (truth (int_le b a))
plain_value Eq a b = Some (truth (int_eq a b))
plain_value Ne a b = Some (truth (not (int_eq a b)))
plain_value And a b = Some (pos (bit_and (low_word a) (low_word b)))
plain_value Xor a b = Some (pos (bit_xor (low_word a) (low_word b)))
plain_value Or a b = Some (pos (bit_or (low_word a) (low_word b)))

-- the operators that have no value at a zero divisor
abbrev pub divides : BinOp → Bool
divides Div = true
divides Rem = true
divides _ = false

-- the comparisons
abbrev pub compares : BinOp → Bool
compares Lt = true
compares Le = true
compares Gt = true
compares Ge = true
compares Eq = true
compares Ne = true
compares _ = false

-- a value converted to the type, if there is one
abbrev pub converted_value : CType → Option ℤ → Option ℤ
converted_value t None = None
converted_value t (Some z) = Some (converted t z)

-- the value of a binary operator that works in the type t, None for a zero divisor
unfoldable pub value_of : BinOp → CType → ℤ → ℤ → Option ℤ
value_of op t a b = converted_value t (plain_value op a b)

-- the value of a unary operator that works in the type t (C90 6.3.3.3)
unfoldable pub value_of_one : UnOp → CType → ℤ → ℤ
value_of_one Neg t a = converted t (neg_ℤ a)
value_of_one Flip t a = converted t (neg_ℤ a -ℤ pos 1)
value_of_one IsZero t a = truth (int_eq a (pos 0))
