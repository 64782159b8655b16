-- Products, quotients and remainders of words, as numbers and as numbers of C.

use Rattle.std.specs.Prelude.{◌≡◌, ℕ, ◌+◌, ◌-◌, ◌*◌, ◌/◌, ◌%◌, ◌^◌, ◌<◌, ◌≤◌, ◌==◌, Bool, true, false, ◌&&◌, nat_lt, nat_le, List, map, drop, Some, ℤ, if◌then◌else◌}
use Rattle.ba_nodes.specs.declared.Bit.{Bit}
use Rattle.ba_nodes.specs.declared.Node.{Node}
use Rattle.ba_nodes.specs.Gates.{bool_xor, truth, HasValue}
use Rattle.ba_numbers.specs.declared.numbers.BinOp.{BinOp}
use Rattle.ba_numbers.specs.Numbers.{value_of}
use Rattle.ba_words.specs.Words.{digit, spelled, number_of, bit_at, shifted_down, word_type, word_value}

-- a number of 32 bits is negative, read as signed; never, read as unsigned
abbrev pub is_negative : Bool → ℕ → Bool
is_negative signed n = signed && nat_le (2 ^ 31) n

-- a number of 32 bits, negated if the condition holds
abbrev pub negated_where : Bool → ℕ → ℕ
negated_where negative n = if negative then (2 ^ 32 - n) % 2 ^ 32 else n

-- a power of 2, or its negation, as a number of 32 bits
abbrev pub signed_power : Bool → ℕ → ℕ
signed_power negative exponent = negated_where negative (2 ^ exponent)

-- the absolute value of a number of 32 bits
abbrev pub magnitude : Bool → ℕ → ℕ
magnitude signed n = negated_where (is_negative signed n) n

-- the quotient of numbers of `n` bits, rounded down; all ones for a divisor of 0
abbrev pub long_quotient : ℕ → ℕ → ℕ → ℕ
long_quotient places m n = if n == 0 then 2 ^ places - 1 else m / n

-- the quotient of two words, rounded towards zero; for a divisor of 0 it has the magnitude 2^32 - 1
abbrev pub quotient_of : Bool → ℕ → ℕ → ℕ
quotient_of signed m n = negated_where (bool_xor (is_negative signed m) (is_negative signed n))
    (long_quotient 32 (magnitude signed m) (magnitude signed n))

-- the remainder, with the sign of the dividend; for a divisor of 0 it is the dividend
abbrev pub remainder_of : Bool → ℕ → ℕ → ℕ
remainder_of signed m n = negated_where (is_negative signed m) (magnitude signed m % magnitude signed n)

-- the word has the value of the operator on two words, signed or unsigned, if there is one
abbrev pub IsValueWhereDefined : BinOp → Bool → List Node → List Bit → List Bit → List Node → List Bit →
    Type 0
IsValueWhereDefined op signed old a b new word =
    (free : ℕ → Bool) (value : ℤ) → value_of op (word_type signed) (word_value signed free old a)
    (word_value signed free old b) ≡ Some value → word_value signed free new word ≡ value

-- the number of a word's bits from an index on
abbrev pub high_number : (ℕ → Bool) → List Node → List Bit → ℕ → ℕ
high_number free nodes word place = spelled (drop place (map (truth free nodes) word))

-- under an assignment, a number below 2 to the power of each index whose bound is false
abbrev pub IsBounded : (ℕ → Bool) → List Node → List Bit → ℕ → Type 0
IsBounded free nodes bounds n =
    (place : ℕ) → place < 32 → truth free nodes (bit_at bounds place) ≡ false → n < 2 ^ place

-- the bits tell for each index whether the word has a one there or above it
abbrev pub AreOnesFrom : List Node → List Bit → List Bit → Type 0
AreOnesFrom nodes word above =
    (place : ℕ) → place ≤ 32 →
    HasValue nodes (bit_at above place) (λ free. nat_le (2 ^ place) (number_of free nodes word))

-- a sum of words, or a difference
abbrev pub sum_or_difference : Bool → ℕ → ℕ → ℕ
sum_or_difference minus m n = if minus then (m + (2 ^ 32 - n)) % 2 ^ 32 else (m + n) % 2 ^ 32

-- whether a number of 32 bits, read as signed, leaves a negative remainder by 2 to this power
abbrev pub has_negative_remainder : ℕ → ℕ → Bool
has_negative_remainder n exponent = is_negative true n && nat_lt 0 (n % 2 ^ exponent)

-- a number of 32 bits shifted down with its sign, and one more if the bit is true
abbrev pub shifted_sum : ℕ → ℕ → Bool → ℕ
shifted_sum n by bit = (shifted_down n (is_negative true n) by + digit bit) % 2 ^ 32

-- the multiple of a number by two binary digits, the higher first
abbrev pub multiple_of : Bool → Bool → ℕ → ℕ
multiple_of high low n = (digit low + 2 * digit high) * n
