-- The table of weights by line numbers, which reading a text fills.

use Rattle.std.specs.Prelude.{◌≡◌, ℕ, if◌then◌else◌, Option, None, Some, is_some, List, get_or}
use Rattle.std.specs.List.{slice_set}
use Rattle.ba_inputs.specs.declared.weights.LineWeight.{LineWeight}
use Rattle.ba_inputs.specs.declared.weights.LineContent.{LineContent}
use Rattle.ba_inputs.specs.declared.weights.LineContent.TheVariants.{Skipped, Named, Bad}
use Rattle.ba_bytes.specs.Lines.{lines_of}
use Rattle.ba_inputs.specs.Weights.{bad_line, said_of}

-- what is said of each line, by its number
abbrev pub Table : Type 0
Table = List (Option LineWeight)

-- the table after a line of the text; None if the line is bad
abbrev pub after_line : Table → LineContent → Option Table
after_line table Skipped = Some table
after_line table (Named line weight) =
    if is_some (get_or table line None) then None else Some (slice_set table line (Some weight))
after_line table Bad = None

-- no line is bad, and the table has what the lines say of each line
pub record IsTableOf (text : List ℕ) (table : Table) : Type 0 where
  pub no_bad_line : bad_line text ≡ None
  pub said : (line : ℕ) → get_or table line None ≡ said_of (lines_of text) line
