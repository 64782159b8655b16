-- THE REPORT of sets that repair all runs on several inputs.

use Rattle.std.specs.Prelude.{ℕ, ◌+◌, Bool, List, [], ◌∷◌, ◌++◌, length, flat_map, codes, decimal}
use Rattle.ba_bytes.specs.Lines.{lines_of}
use Rattle.ba_choices.specs.declared.Choice.{Choice}
use Rattle.ba_report.specs.Report.{run_line, set_lines}
use Rattle.ba_tree.specs.declared.tree.Program.{Program}

-- a set as it is reported, where runs are shown with one for each input, in order
pub record ShownSet : Type 0 where
  pub groups : List ℕ
  pub runs : List (List Choice)

-- THE LINES of a report are written over the lines of the source.

-- those of runs, if runs are shown: `  run:` and its choices for each
abbrev pub runs_lines : Bool → List (List Choice) → List ℕ
runs_lines shows runs = flat_map (run_line shows) runs

-- those of sets with their runs, numbered from this number on
abbrev pub shown_lines : List (List ℕ) → Program → Bool → ℕ → List ShownSet → List ℕ
shown_lines lines p shows number [] = []
shown_lines lines p shows number (set ∷ sets) =
    set_lines lines p number set.groups ++ runs_lines shows set.runs
    ++ shown_lines lines p shows (number + 1) sets

-- those of all: `located: inputs M, weight W, sets N`, and the sets, numbered from 1
abbrev pub located_text : List (List ℕ) → Program → Bool → ℕ → ℕ → List ShownSet → List ℕ
located_text lines p shows inputs weight sets =
    codes "located: inputs " ++ decimal inputs ++ codes ", weight " ++ decimal weight ++ codes ", sets "
    ++ decimal (length sets) ++ codes "\n" ++ shown_lines lines p shows 1 sets

-- THE REPORT of sets of statements of the program that this source text spells, of their weight, and of how
-- many inputs there are
abbrev pub all_report_text : List ℕ → Program → Bool → ℕ → ℕ → List ShownSet → List ℕ
all_report_text source = located_text (lines_of source)
