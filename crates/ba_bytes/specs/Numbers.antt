-- Decimal numbers within a range.

use Rattle.std.specs.Prelude.{ℕ, nat_le, ◌&&◌, if◌then◌else◌, Option, None, Some, List, length}
use Rattle.std.specs.Str.Parse.{digits_value}
use Rattle.ba_bytes.specs.Decimal.{are_digits}

-- the number that a text of at most so many decimal digits writes, if it is in this range
abbrev pub number_in : ℕ → ℕ → ℕ → List ℕ → Option ℕ
number_in digits least most text =
    if (are_digits text && nat_le (length text) digits)
    && (nat_le least (digits_value 10 text) && nat_le (digits_value 10 text) most)
    then Some (digits_value 10 text) else None
