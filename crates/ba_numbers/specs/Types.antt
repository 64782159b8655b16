-- The types of operators and of their operands (C90 6.2.1, 6.3).

use Rattle.std.specs.Prelude.{Bool, true, false, ◌||◌, cond}
use Rattle.ba_numbers.specs.Numbers.{compares}
use Rattle.ba_numbers.specs.declared.numbers.BinOp.{BinOp}
use Rattle.ba_numbers.specs.declared.numbers.BinOp.TheVariants.{Shl, Shr}
use Rattle.ba_numbers.specs.declared.numbers.CType.{CType}
use Rattle.ba_numbers.specs.declared.numbers.CType.TheVariants.{I8, U8, I16, U16, I32, U32}
use Rattle.ba_numbers.specs.declared.numbers.UnOp.{UnOp}
use Rattle.ba_numbers.specs.declared.numbers.UnOp.TheVariants.{IsZero}

-- both are the same type
abbrev pub same_type : CType → CType → Bool
same_type I8 I8 = true
same_type U8 U8 = true
same_type I16 I16 = true
same_type U16 U16 = true
same_type I32 I32 = true
same_type U32 U32 = true
same_type _ _ = false

-- CONVERSIONS (C90 6.2.1)

-- the types that the integral promotions give (C90 6.2.1.1)
abbrev pub is_promoted : CType → Bool
is_promoted I32 = true
is_promoted U32 = true
is_promoted _ = false

-- the integral promotions (C90 6.2.1.1)
abbrev pub promoted : CType → CType
promoted t = cond (is_promoted t) t I32

-- the type is `unsigned int` (or `unsigned long`)
abbrev pub is_u32 : CType → Bool
is_u32 U32 = true
is_u32 _ = false

-- the usual arithmetic conversions (C90 6.2.1.5)
abbrev pub usual : CType → CType → CType
usual s t = cond (is_u32 s || is_u32 t) U32 I32

-- OPERATORS (C90 6.3)

-- the operator is a shift
abbrev pub shifts : BinOp → Bool
shifts Shl = true
shifts Shr = true
shifts _ = false

-- the type in which an operator works: the promoted left operand's for a shift, else that of the usual conversions
abbrev pub working_type : BinOp → CType → CType → CType
working_type op s t = cond (shifts op) (promoted s) (usual s t)

-- the type that the right operand is converted to
abbrev pub right_type : BinOp → CType → CType → CType
right_type op s t = cond (shifts op) (promoted t) (usual s t)

-- the type of the value of an operator that works in the type t
abbrev pub type_of_binary : BinOp → CType → CType
type_of_binary op t = cond (compares op) I32 t

-- the type of a unary operator on a promoted operand
abbrev pub type_of_unary : UnOp → CType → CType
type_of_unary IsZero t = I32
type_of_unary _ t = t
