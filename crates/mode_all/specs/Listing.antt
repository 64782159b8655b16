-- Sets that are added to a report, each with its runs.

use Rattle.std.specs.Prelude.{◌≡◌, ℕ, Bool, List, ◌++◌}
use Rattle.std.specs.List.{AllZip}
use Rattle.ba_derivations.specs.declared.verdict.FoundSet.{FoundSet}
use Rattle.ba_report.specs.Report.{set_lines}
use Rattle.ba_tree.specs.declared.run.Bounds.{Bounds}
use Rattle.ba_tree.specs.declared.run.Input.{Input}
use Rattle.ba_tree.specs.declared.tree.Program.{Program}
use Rattle.mode_all.specs.Answers.{IsShownAs}
use Rattle.mode_all.specs.Report.{ShownSet, runs_lines, shown_lines}

-- the lines of a set that has this number, as it is shown
pub record IsAdded (lines : List (List ℕ)) (p : Program) (shows : Bool) (inputs : List Input) (b : Bounds)
    (number : ℕ) (found : FoundSet) (old new : List ℕ) :
    Type 0 where
  pub shown : ShownSet
  pub is_shown : IsShownAs shows p inputs b found shown
  pub new_is : new ≡ old ++ set_lines lines p number shown.groups ++ runs_lines shows shown.runs

-- those of sets that are numbered from this number on
pub record AreAdded (lines : List (List ℕ)) (p : Program) (shows : Bool) (inputs : List Input) (b : Bounds)
    (number : ℕ) (sets : List FoundSet) (old new : List ℕ) :
    Type 0 where
  pub shown : List ShownSet
  pub are_shown : AllZip (IsShownAs shows p inputs b) sets shown
  pub new_is : new ≡ old ++ shown_lines lines p shows number shown
