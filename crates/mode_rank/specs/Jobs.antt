-- JOBS of ranking.

use Rattle.std.specs.Prelude.{◌≡◌, ◌<◌, ◌^◌, true, List}
use Rattle.ba_answers.specs.declared.file.File.TheVariants as file
use Rattle.ba_cases.specs.Reading.{files_for}
use Rattle.ba_files.specs.declared.files.Named.{Named}
use Rattle.ba_tree.specs.Run.{are_bounds}
use Rattle.mode_rank.specs.declared.jobs.RankJob.{RankJob}

-- the files of a job
abbrev pub files_of : RankJob → List Named
files_of j = files_for j.program file.Inputs j.inputs j.weights

-- what is asked of a job
pub record MayBeDone (j : RankJob) : Type 0 where
  pub countable : j.conflicts < 2 ^ 62
  pub bounds : are_bounds j.bounds ≡ true
