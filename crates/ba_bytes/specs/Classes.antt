-- Classes of bytes.

use Rattle.std.specs.Prelude.{ℕ, Bool, nat_le, ◌==◌, ◌&&◌, ◌||◌}
use Rattle.std.specs.Char.{is_ascii_alphabetic, is_ascii_digit}

-- a tab, a line feed, a form feed, a carriage return or a space
abbrev pub is_blank : ℕ → Bool
is_blank b = (nat_le 9 b && nat_le b 13) || (b == 32)

-- the byte is a line feed
abbrev pub is_line_end : ℕ → Bool
is_line_end b = b == 10

-- a letter or an underscore; what may follow in a word; what may follow in a number
abbrev pub is_letter : ℕ → Bool
is_letter b = is_ascii_alphabetic b || (b == 95)

-- the byte may be in a word: a letter or a decimal digit
abbrev pub is_word_byte : ℕ → Bool
is_word_byte b = is_letter b || is_ascii_digit b

-- the byte may be in a number: a letter, a decimal digit or a point
abbrev pub is_number_byte : ℕ → Bool
is_number_byte b = is_word_byte b || (b == 46)
