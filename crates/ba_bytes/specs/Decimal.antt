-- Decimal numbers.

use Rattle.std.specs.Prelude.{ℕ, ◌-◌, ◌^◌, ◌==◌, ℤ, pos, negsuc, neg_ℤ, min, nat_lt, Bool, ◌&&◌, if◌then◌else◌, Option, None, Some, option_map, List, [], ◌∷◌, length}
use Rattle.std.specs.Char.{is_digit}
use Rattle.std.specs.List.{list_all}
use Rattle.std.specs.Str.Parse.{digits_value}

-- one or more decimal digits
abbrev pub are_digits : List ℕ → Bool
are_digits digits = nat_lt 0 (length digits) && list_all (λ b. is_digit b 10) digits

-- the number that they write
abbrev pub natural_of : List ℕ → Option ℕ
natural_of digits = if are_digits digits then Some (digits_value 10 digits) else None

-- the number that one or more decimal digits write, which may have a minus sign before them
abbrev pub decimal_of : List ℕ → Option ℤ
decimal_of [] = None
decimal_of (b ∷ bs) = if b == 45 then option_map (λ n. neg_ℤ (pos n)) (natural_of bs) else option_map pos (natural_of (b ∷ bs))

-- the nearest number from -2^63 to 2^63 - 1
abbrev pub nearest : ℤ → ℤ
nearest (pos n) = pos (min n (2 ^ 63 - 1))
nearest (negsuc n) = negsuc (min n (2 ^ 63 - 1))
