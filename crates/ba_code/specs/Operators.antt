-- How the operators of three-address code take their operands.

use Rattle.std.specs.Prelude.{ℤ, cond, Option}
use Rattle.ba_numbers.specs.Numbers.{converted, value_of, value_of_one}
use Rattle.ba_numbers.specs.declared.numbers.BinOp.{BinOp}
use Rattle.ba_numbers.specs.declared.numbers.CType.{CType}
use Rattle.ba_numbers.specs.declared.numbers.UnOp.{UnOp}
use Rattle.ba_numbers.specs.Types.{shifts}

-- the values of the operators; None for a trap
pub record Operators : Type 0 where
  pub unary : UnOp → CType → ℤ → ℤ
  pub binary : BinOp → CType → ℤ → ℤ → Option ℤ

-- Operands are converted to the type in which the operator works, except the count of a shift. So an operator
-- sees the 32 bits of an operand of any type. This is the meaning of three-address code.
abbrev pub converting : Operators
converting = record {
  unary = λ op t a. value_of_one op t (converted t a);
  binary = λ op t a b. value_of op t (converted t a) (cond (shifts op) b (converted t b));
}

-- Operands are taken as they are. It is the same if they are in the range of the type.
abbrev pub plain : Operators
plain = record { unary = value_of_one; binary = value_of }
