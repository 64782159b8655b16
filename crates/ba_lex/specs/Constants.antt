-- The values of numbers and character constants (C90 6.1.3.2, 6.1.3.4).

use Rattle.std.specs.Prelude.{ℕ, pos, Bool, true, false, ◌==◌, ◌&&◌, ◌||◌, not, nat_lt, nat_le, if◌then◌else◌, List, [], ◌∷◌, length, take, drop, Option, None, Some, codes}
use Rattle.std.specs.Map.{lookup}
use Rattle.std.specs.Str.{bytes_eq}
use Rattle.std.specs.Char.{is_digit}
use Rattle.std.specs.List.{list_any, list_all, prefix_len}
use Rattle.std.specs.Str.Parse.{digits_value}
use Rattle.ba_numbers.specs.Numbers.{converted}
use Rattle.ba_numbers.specs.declared.numbers.CType.{CType}
use Rattle.ba_numbers.specs.declared.numbers.CType.TheVariants.{I8, I32, U32}
use Rattle.ba_tokens.specs.declared.token.TokenKind.{TokenKind}
use Rattle.ba_tokens.specs.declared.token.TokenKind.TheVariants.{Constant}

-- the text begins with this byte
abbrev pub begins_with : ℕ → List ℕ → Bool
begins_with c [] = false
begins_with c (b ∷ bs) = b == c

-- NUMBERS: a prefix that gives the base, digits of that base, and a suffix

-- the text begins with 0x or 0X
abbrev pub is_hexadecimal : List ℕ → Bool
is_hexadecimal [] = false
is_hexadecimal (a ∷ bs) = (a == 48) && (begins_with 120 bs || begins_with 88 bs)

-- the base of an integer constant: 16 after `0x`, 8 after another `0`, else 10
abbrev pub base_of : List ℕ → ℕ
base_of bs = if is_hexadecimal bs then 16 else (if begins_with 48 bs then 8 else 10)

-- the digits without `0x`
abbrev pub without_prefix : List ℕ → List ℕ
without_prefix bs = if is_hexadecimal bs then drop 2 bs else bs

-- u or U, and l or L
abbrev pub is_u : ℕ → Bool
is_u b = (b == 117) || (b == 85)

-- the byte is `l` or `L`
abbrev pub is_l : ℕ → Bool
is_l b = (b == 108) || (b == 76)

-- nothing, u, l, ul or lu, in either case of letter
abbrev pub is_suffix : List ℕ → Bool
is_suffix [] = true
is_suffix (a ∷ []) = is_u a || is_l a
is_suffix (a ∷ b ∷ []) = (is_u a && is_l b) || (is_l a && is_u b)
is_suffix (a ∷ b ∷ c ∷ bs) = false

-- unsigned if the suffix says so or the value is above the greatest int, else int
abbrev pub number_type : List ℕ → ℕ → CType
number_type suffix value = if list_any is_u suffix || nat_lt 2147483647 value then U32 else I32

-- the constant of these digits in this base, with this suffix, if there is at least one digit and the value
-- fits 32 bits
abbrev pub number_of : ℕ → List ℕ → List ℕ → Option TokenKind
number_of base digits suffix =
    if nat_lt 0 (length digits) && (is_suffix suffix && nat_le (digits_value base digits) 4294967295)
    then Some (Constant (number_type suffix (digits_value base digits)) (pos (digits_value base digits)))
    else None

-- how many of the bytes from the first on are digits of the base
abbrev pub digit_count : ℕ → List ℕ → ℕ
digit_count base bs = prefix_len (λ b. is_digit b base) bs

-- the constant that a number spells, if it keeps its form and its value fits
abbrev pub number_with : ℕ → List ℕ → Option TokenKind
number_with base bs = number_of base (take (digit_count base bs) bs) (drop (digit_count base bs) bs)

-- the integer constant of a word (C90 6.1.3.2), None if it is none
unfoldable pub number_kind : List ℕ → Option TokenKind
number_kind bs = number_with (base_of bs) (without_prefix bs)

-- CHARACTER CONSTANTS, by the bytes between their quotes

-- the value of one digit or more, all of the base, if it is at most 255
abbrev pub byte_code : ℕ → List ℕ → Option ℕ
byte_code base digits =
    if nat_lt 0 (length digits) && (list_all (λ b. is_digit b base) digits && nat_le (digits_value base digits) 255)
    then Some (digits_value base digits)
    else None

-- the escapes of one letter or mark, and their values
abbrev pub simple_escapes : List (List ℕ × ℕ)
simple_escapes =
    (codes "n", 10) ∷
    (codes "t", 9) ∷
    (codes "r", 13) ∷
    (codes "a", 7) ∷
    (codes "b", 8) ∷
    (codes "f", 12) ∷
    (codes "v", 11) ∷
    (codes "\\", 92) ∷
    (codes "'", 39) ∷
    (codes "\"", 34) ∷
    (codes "?", 63) ∷
    []

-- the value of a simple escape (C90 6.1.3.4)
abbrev pub simple_escape : ℕ → Option ℕ
simple_escape c = lookup (bytes_eq (c ∷ [])) simple_escapes

-- the value of what follows a backslash: x and hexadecimal digits, one to three octal digits, or a single byte
abbrev pub escape_value : List ℕ → Option ℕ
escape_value [] = None
escape_value (c ∷ bs) =
    if c == 120 then byte_code 16 bs
    else (if is_digit c 8 then (if nat_le (length bs) 2 then byte_code 8 (c ∷ bs) else None)
    else (if nat_lt 0 (length bs) then None else simple_escape c))

-- a byte from 32 to 126 other than ' and \
abbrev pub is_plain : ℕ → Bool
is_plain b = (nat_le 32 b && nat_le b 126) && not ((b == 39) || (b == 92))

-- one such byte, or one escape
abbrev pub character_value : List ℕ → Option ℕ
character_value [] = None
character_value (b ∷ bs) =
    if b == 92 then escape_value bs
    else (if is_plain b && not (nat_lt 0 (length bs)) then Some b else None)

-- the constant of a character's value: an int, by the byte as a signed char
abbrev pub character_constant : Option ℕ → Option TokenKind
character_constant None = None
character_constant (Some n) = Some (Constant I32 (converted I8 (pos n)))

-- the character constant between quotes (C90 6.1.3.4), None if it is none
unfoldable pub character_kind : List ℕ → Option TokenKind
character_kind bs = character_constant (character_value bs)
