-- WHAT IS TO BE REPAIRED.

use Rattle.std.specs.Prelude.{◌≡◌, ◌<◌, ◌≤◌, ◌^◌, ℕ, true, Some, List, [], ◌∷◌, length}
use Rattle.ba_answers.specs.Limits.{limit}
use Rattle.ba_answers.specs.declared.file.File.TheVariants as file
use Rattle.ba_files.specs.declared.files.Named.{Named}
use Rattle.ba_tree.specs.Run.{are_bounds}
use Rattle.mode_repair.specs.declared.jobs.RepairJob.{RepairJob}
use Rattle.mode_repair.specs.declared.texts.RepairTexts.{RepairTexts}

-- the files of a job
abbrev pub files_of : RepairJob → List Named
files_of j = record { file = file.Program; name = Some j.program }
    ∷ record { file = file.Failing; name = Some j.failing }
    ∷ record { file = file.Passing; name = Some j.passing }
    ∷ record { file = file.Weights; name = j.weights } ∷ []

-- their texts, in this order
abbrev pub parts_of : RepairTexts → List (List ℕ)
parts_of x = x.program ∷ x.failing ∷ x.passing ∷ x.weights ∷ []

-- the text of the program
abbrev pub source_of : RepairTexts → List ℕ
source_of x = x.program

-- what is asked of a job
pub record MayBeDone (j : RepairJob) : Type 0 where
  pub countable : j.conflicts < 2 ^ 62
  pub bounds : are_bounds j.bounds ≡ true

-- no text is longer than a file may be
pub record AreShort (x : RepairTexts) : Type 0 where
  pub program : length x.program ≤ limit
  pub failing : length x.failing ≤ limit
  pub passing : length x.passing ≤ limit
