-- A line of a text, by its number and without the blanks around it.

use Rattle.std.specs.Prelude.{ℕ, zero, suc, ◌-◌, List, [], length, take, drop, take_while, slice_index_or}
use Rattle.std.specs.List.{suffix_len}
use Rattle.ba_bytes.specs.Classes.{is_blank}

-- a line, counted from 1; empty if there is no such line
abbrev pub line_at : List (List ℕ) → ℕ → List ℕ
line_at lines zero = []
line_at lines (suc n) = slice_index_or lines n []

-- a line without blanks at its end, and without blanks at both ends
abbrev pub trimmed_end : List ℕ → List ℕ
trimmed_end line = take (length line - suffix_len is_blank line) line

-- the line without blanks at its ends
abbrev pub trimmed : List ℕ → List ℕ
trimmed line = trimmed_end (drop (length (take_while is_blank line)) line)
