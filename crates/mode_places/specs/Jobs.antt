-- WHAT IS TO BE LOCALISED by places.

use Rattle.std.specs.Prelude.{◌≡◌, ◌<◌, ◌^◌, true, List}
use Rattle.ba_answers.specs.declared.file.File.TheVariants as file
use Rattle.ba_cases.specs.Reading.{files_for}
use Rattle.ba_files.specs.declared.files.Named.{Named}
use Rattle.ba_tree.specs.Run.{are_bounds}
use Rattle.mode_places.specs.declared.jobs.PlacesJob.{PlacesJob}

-- the files of a job
abbrev pub files_of : PlacesJob → List Named
files_of j = files_for j.program file.Input j.input j.weights

-- what is asked of a job
pub record MayBeDone (j : PlacesJob) : Type 0 where
  pub countable : j.conflicts < 2 ^ 62
  pub bounds : are_bounds j.bounds ≡ true
