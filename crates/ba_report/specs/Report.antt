-- The report: the text that names the least sets of a program.

use Rattle.std.specs.Prelude.{◌≡◌, ℕ, ◌+◌, Bool, true, false, Option, None, Some, List, [], ◌∷◌, ◌++◌, length, flat_map, codes, decimal, All}
use Rattle.ba_choices.specs.declared.Choice.{Choice}
use Rattle.ba_derivations.specs.Derivations.{IsGood, sets_of}
use Rattle.ba_derivations.specs.declared.verdict.FoundSet.{FoundSet}
use Rattle.ba_derivations.specs.declared.verdict.Verdict.{Verdict}
use Rattle.ba_derivations.specs.declared.verdict.Verdict.TheVariants.{Located, NoRepair, TooMany, Spent}
use Rattle.ba_bytes.specs.Lines.{lines_of}
use Rattle.ba_report.specs.Lines.{line_at, trimmed}
use Rattle.ba_text.specs.Texts.{choices_text}
use Rattle.ba_tree.specs.Choices.{info_of}
use Rattle.ba_choices.specs.Judges.{Judge}
use Rattle.ba_tree.specs.Least.{stmt_of}
use Rattle.ba_tree.specs.declared.tree.Program.{Program}
use Rattle.ba_tree.specs.declared.tree.StmtInfo.{StmtInfo}
use Rattle.ba_tree.specs.declared.tree.StmtKind.{StmtKind}
use Rattle.ba_tree.specs.declared.tree.StmtKind.TheVariants.{Initialiser, Assignment, Store, Condition, Switch, Return, Call, Assert}

-- the word for a kind of statement
abbrev pub kind_word : StmtKind → List ℕ
kind_word Initialiser = codes "initialiser"
kind_word Assignment = codes "assignment"
kind_word Store = codes "store"
kind_word Condition = codes "condition"
kind_word Switch = codes "switch"
kind_word Return = codes "return"
kind_word Call = codes "call"
kind_word Assert = codes "assert"

-- THE PARTS of a statement's line: `L:K KIND`, and ` | TEXT`, where TEXT is the source line without blanks at
-- both ends

-- the head of a statement's line: its position and its kind
abbrev pub statement_head : StmtInfo → List ℕ
statement_head info =
    decimal info.at.line ++ codes ":" ++ decimal info.at.column ++ codes " " ++ kind_word info.kind

-- the source line of a statement, after ` | `
abbrev pub source_text : List ℕ → List ℕ
source_text line = codes " | " ++ trimmed line ++ codes "\n"

-- a statement: its head and its source line
abbrev pub statement_text : List (List ℕ) → StmtInfo → List ℕ
statement_text lines info = statement_head info ++ source_text (line_at lines info.at.line)

-- THE LINES of a report, which take source lines

-- the line of a statement: `  L:K KIND | TEXT`
abbrev pub info_line : List (List ℕ) → StmtInfo → List ℕ
info_line lines info = codes "  " ++ statement_text lines info

-- the line of the statement of this number; a number of no statement has none
abbrev pub line_of : List (List ℕ) → Option StmtInfo → List ℕ
line_of lines None = []
line_of lines (Some info) = info_line lines info

-- the line of the statement of a number
abbrev pub statement_line : List (List ℕ) → Program → ℕ → List ℕ
statement_line lines p n = line_of lines (info_of p (stmt_of n))

-- the lines of a set with this number: `set I:` and a line for each of its statements
abbrev pub set_lines : List (List ℕ) → Program → ℕ → List ℕ → List ℕ
set_lines lines p number set =
    codes "set " ++ decimal number ++ codes ":\n" ++ flat_map (statement_line lines p) set

-- the line of a run, if runs are shown: `  run:` and its choices
abbrev pub run_line : Bool → List Choice → List ℕ
run_line false run = []
run_line true run = codes "  run:" ++ choices_text run ++ codes "\n"

-- the lines of sets with their runs, numbered from this number on
abbrev pub sets_lines : List (List ℕ) → Program → Bool → ℕ → List FoundSet → List ℕ
sets_lines lines p runs number [] = []
sets_lines lines p runs number (found ∷ more) =
    set_lines lines p number found.groups ++ run_line runs found.run
    ++ sets_lines lines p runs (number + 1) more

-- the text of a verdict: `located: weight W, sets N`, and the sets, numbered from 1
abbrev pub located_text : List (List ℕ) → Program → Bool → ℕ → List FoundSet → List ℕ
located_text lines p runs weight found =
    codes "located: weight " ++ decimal weight ++ codes ", sets " ++ decimal (length found) ++ codes "\n"
    ++ sets_lines lines p runs 1 found

-- THE REPORT of sets of statements and of their weight, for the program that this source text spells
abbrev pub report_text : List ℕ → Program → Bool → ℕ → List FoundSet → List ℕ
report_text source = located_text (lines_of source)

-- Bytes REPORT these sets and their weight. They are the report of the sets, each with some run; if runs are
-- shown, it is good for its set.
pub record Reports (good : Judge) (source : List ℕ) (p : Program) (runs : Bool) (weight : ℕ)
    (sets : List (List ℕ)) (bytes : List ℕ) : Type 0 where
  pub found : List FoundSet
  pub sets_are : sets_of found ≡ sets
  pub runs_are_good : runs ≡ true → All (IsGood good) found
  pub bytes_are : bytes ≡ report_text source p runs weight found

-- a verdict that names sets that could repair the run
abbrev pub IsLocated : Verdict → Type 0
IsLocated (Located weight found) = Unit {0}
IsLocated NoRepair = ⊥
IsLocated (TooMany weight found) = ⊥
IsLocated Spent = ⊥
