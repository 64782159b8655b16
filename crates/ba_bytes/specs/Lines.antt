-- The lines of a text.

use Rattle.std.specs.Prelude.{ℕ, Option, None, Some, List, []}
use Rattle.std.specs.List.{slice_split}
use Rattle.ba_bytes.specs.Classes.{is_line_end}

-- the lines, without the line feeds that end them; what follows the last line feed is a line too
abbrev pub lines_of : List ℕ → List (List ℕ)
lines_of text = slice_split is_line_end text

-- the lines of the text not yet read; None has no line
abbrev pub lines_left : Option (List ℕ) → List (List ℕ)
lines_left None = []
lines_left (Some text) = lines_of text
