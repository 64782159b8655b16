-- THE REPORT of sets of places.

use Rattle.std.specs.Prelude.{ℕ, ◌+◌, Bool, Option, None, Some, List, [], ◌∷◌, ◌++◌, length, flat_map, codes, decimal}
use Rattle.ba_bytes.specs.Lines.{lines_of}
use Rattle.ba_localise.specs.Places.{FoundPlaces}
use Rattle.ba_report.specs.Lines.{line_at}
use Rattle.ba_report.specs.Report.{statement_head, run_line, source_text}
use Rattle.ba_tree.specs.Choices.{info_of}
use Rattle.ba_tree.specs.declared.run.Place.{Place}
use Rattle.ba_tree.specs.declared.run.Step.{Step}
use Rattle.ba_tree.specs.declared.run.Step.TheVariants.{Call, Turn}
use Rattle.ba_tree.specs.declared.tree.Program.{Program}
use Rattle.ba_tree.specs.declared.tree.StmtInfo.{StmtInfo}

-- THE PATH of a place: `main`, and behind it its steps, outermost first. `/call N` is call N, and `/L:K#T`
-- iteration T of the loop whose condition stands there

-- where a statement begins: `L:K`; a number that is no statement's has no position
abbrev pub position_text : Option StmtInfo → List ℕ
position_text None = []
position_text (Some info) = decimal info.at.line ++ codes ":" ++ decimal info.at.column

abbrev pub step_text : Program → Step → List ℕ
step_text p (Call call) = codes "/call " ++ decimal call.0
step_text p (Turn stmt turn) =
    codes "/" ++ position_text (info_of p stmt) ++ codes "#" ++ decimal turn

abbrev pub path_text : Program → List Step → List ℕ
path_text p path = codes "main" ++ flat_map (step_text p) path

-- THE LINES of a report are written over the lines of the source.

-- that of a place: `  L:K KIND at PATH | TEXT`; a number that is no statement's has none
abbrev pub line_of : List (List ℕ) → Program → List Step → Option StmtInfo → List ℕ
line_of lines p path None = []
line_of lines p path (Some info) =
    codes "  " ++ statement_head info ++ codes " at " ++ path_text p path
    ++ source_text (line_at lines info.at.line)

abbrev pub place_line : List (List ℕ) → Program → Place → List ℕ
place_line lines p place = line_of lines p place.path (info_of p place.stmt)

-- those of a set, which has this number: `set I:` and a line for each of its places
abbrev pub set_lines : List (List ℕ) → Program → ℕ → List Place → List ℕ
set_lines lines p number set =
    codes "set " ++ decimal number ++ codes ":\n" ++ flat_map (place_line lines p) set

-- those of sets with their runs, numbered from this number on
abbrev pub sets_lines : List (List ℕ) → Program → Bool → ℕ → List FoundPlaces → List ℕ
sets_lines lines p runs number [] = []
sets_lines lines p runs number (found ∷ more) =
    set_lines lines p number found.places ++ run_line runs found.run
    ++ sets_lines lines p runs (number + 1) more

-- those of all: `located: places W, sets N`, and the sets, numbered from 1
abbrev pub located_text : List (List ℕ) → Program → Bool → ℕ → List FoundPlaces → List ℕ
located_text lines p runs members found =
    codes "located: places " ++ decimal members ++ codes ", sets " ++ decimal (length found) ++ codes "\n"
    ++ sets_lines lines p runs 1 found

-- THE REPORT of sets of places of the program that this source text spells, and of how many members each has
abbrev pub place_report_text : List ℕ → Program → Bool → ℕ → List FoundPlaces → List ℕ
place_report_text source = located_text (lines_of source)
