-- Words of bits as natural numbers, and as numbers of C.

use Rattle.std.specs.Prelude.{◌≡◌, ℕ, ◌+◌, ◌-◌, ◌*◌, ◌/◌, ◌^◌, Bool, true, false, not, List, [], ◌∷◌, length, map, take, Some, slice_index_or, ℤ, pos, Result, IfOk}
use Rattle.std.specs.declared.alloc.AllocError.{AllocError}
use Rattle.ba_nodes.specs.declared.Bit.{Bit}
use Rattle.ba_nodes.specs.declared.Node.{Node}
use Rattle.ba_nodes.specs.Gates.{truth, constant_bit, IsBitOf, Grows}
use Rattle.ba_numbers.specs.declared.numbers.CType.{CType}
use Rattle.ba_numbers.specs.declared.numbers.CType.TheVariants.{I32, U32}
use Rattle.ba_numbers.specs.declared.numbers.BinOp.{BinOp}
use Rattle.ba_numbers.specs.declared.numbers.UnOp.{UnOp}
use Rattle.ba_numbers.specs.declared.numbers.UnOp.TheVariants.{IsZero}
use Rattle.ba_numbers.specs.Numbers.{converted, value_of, value_of_one, truth as number_of_truth}

-- 1 for true, 0 for false
abbrev pub digit : Bool → ℕ
digit true = 1
digit false = 0

-- the number that binary digits spell, the lowest digit first
abbrev pub spelled : List Bool → ℕ
spelled [] = 0
spelled (bit ∷ bits) = digit bit + 2 * spelled bits

-- the number of a word under an assignment of the free bits
abbrev pub number_of : (ℕ → Bool) → List Node → List Bit → ℕ
number_of free nodes word = spelled (map (truth free nodes) word)

-- the bit at an index, and false past the end
abbrev pub bit_at : List Bit → ℕ → Bit
bit_at word place = slice_index_or word place (constant_bit false)

-- each bit of the word is a bit of these nodes
abbrev pub AreBitsOf : List Node → List Bit → Type 0
AreBitsOf nodes word = (place : ℕ) → IsBitOf nodes (bit_at word place)

-- the same of two words
pub record AreWords (nodes : List Node) (a b : List Bit) : Type 0 where
  pub first : AreBitsOf nodes a
  pub second : AreBitsOf nodes b

-- a word of these nodes has this number under each assignment
pub record HasNumber (nodes : List Node) (word : List Bit) (number : (ℕ → Bool) → ℕ) : Type 0 where
  pub long : length word ≡ 32
  pub are_bits : AreBitsOf nodes word
  pub holds : (free : ℕ → Bool) → number_of free nodes word ≡ number free

-- a call gives a word with this number, by at most this many gates, also if memory runs out
pub record MakesWord (old new : List Node) (result : Result (List Bit) AllocError) (gates : ℕ) (meaning : (ℕ → Bool) → ℕ) : Type 0 where
  pub number : IfOk result (λ word. HasNumber new word meaning)
  pub grows : Grows old new gates

-- the same for a number computed from those of two words
abbrev pub Computes : List Node → List Bit → List Bit → List Node → Result (List Bit) AllocError → (gates : ℕ) → (meaning : ℕ → ℕ → ℕ) → Type 0
Computes old a b new result gates meaning =
    MakesWord old new result gates (λ free. meaning (number_of free old a) (number_of free old b))

-- the type of 32 bits in which a word is read
abbrev pub word_type : Bool → CType
word_type true = I32
word_type false = U32

-- the value of C of a word, read as signed or as unsigned
abbrev pub word_value : Bool → (ℕ → Bool) → List Node → List Bit → ℤ
word_value signed free nodes word = converted (word_type signed) (pos (number_of free nodes word))

-- the word is the value of the operator at two words, read as signed or as unsigned
abbrev pub IsValueOf : BinOp → Bool → List Node → List Bit → List Bit → List Node → List Bit → Type 0
IsValueOf op signed old a b new word =
    (free : ℕ → Bool) → value_of op (word_type signed) (word_value signed free old a) (word_value signed free old b) ≡ Some (word_value signed free new word)

-- a call computes the operator of C on two words, signed or unsigned; `meaning` is the number that it gives
pub record IsCircuit (op : BinOp) (old : List Node) (a b : List Bit) (new : List Node) (result : Result (List Bit) AllocError) (gates : ℕ) (meaning : ℕ → ℕ → ℕ) : Type 0 where
  pub computes : Computes old a b new result gates meaning
  pub value : IfOk result (λ word. (signed : Bool) → IsValueOf op signed old a b new word)

-- the value of a shift, whose count may be read otherwise than the word
abbrev pub IsShift : BinOp → Bool → Bool → List Node → List Bit → List Bit → List Node → List Bit → Type 0
IsShift op signed counted old a count new word =
    (free : ℕ → Bool) → value_of op (word_type signed) (word_value signed free old a) (word_value counted free old count) ≡ Some (word_value signed free new word)

-- a number of 32 bits shifted down, with copies of the sign above it
abbrev pub shifted_down : ℕ → Bool → ℕ → ℕ
shifted_down n sign places = n / 2 ^ places + digit sign * (2 ^ 32 - 2 ^ (32 - places))

-- the bit is the value of the comparison of two words, read as signed or as unsigned
abbrev pub IsComparison : BinOp → Bool → List Node → List Bit → List Bit → List Node → Bit → Type 0
IsComparison op signed old a b new bit =
    (free : ℕ → Bool) → value_of op (word_type signed) (word_value signed free old a) (word_value signed free old b) ≡ Some (number_of_truth (truth free new bit))

-- the word is the value of the operator at a word, read as signed or as unsigned
abbrev pub IsValueOfOne : UnOp → Bool → List Node → List Bit → List Node → List Bit → Type 0
IsValueOfOne op signed old a new word =
    (free : ℕ → Bool) → value_of_one op (word_type signed) (word_value signed free old a) ≡ word_value signed free new word

-- the number of the low bits of a word
abbrev pub low_number : (ℕ → Bool) → List Node → List Bit → ℕ → ℕ
low_number free nodes word places = spelled (take places (map (truth free nodes) word))

-- The low bits of the sums, with the carry after them, are a sum. Its terms are those bits of a, those of b
-- from an index on, and the carry in.
pub record AddUp (old : List Node) (a b : List Bit) (carry : Bit) (from : ℕ) (new : List Node) (sums : List Bit) (carried : Bit) (places : ℕ) : Type 0 where
  pub long : length sums ≡ 32
  pub are_bits : AreBitsOf new sums
  pub is_bit : IsBitOf new carried
  pub holds : (free : ℕ → Bool) → low_number free new sums places + 2 ^ places * digit (truth free new carried) + low_number free old b from ≡ low_number free old a places + low_number free old b places + 2 ^ from * digit (truth free old carry)

-- the bit tells whether the word is not zero, read as signed or as unsigned
abbrev pub IsTest : Bool → List Node → List Bit → List Node → Bit → Type 0
IsTest signed old a new bit =
    (free : ℕ → Bool) → value_of_one IsZero (word_type signed) (word_value signed free old a) ≡ number_of_truth (not (truth free new bit))
