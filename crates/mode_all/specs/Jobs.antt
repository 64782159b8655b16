-- JOBS of localising over several inputs.

use Rattle.std.specs.Prelude.{◌≡◌, ◌<◌, ◌^◌, true, List}
use Rattle.ba_answers.specs.declared.file.File.TheVariants as file
use Rattle.ba_cases.specs.Reading.{files_for}
use Rattle.ba_cert.specs.declared.head.CertHead.{CertHead}
use Rattle.ba_files.specs.declared.files.Named.{Named}
use Rattle.ba_tree.specs.Run.{are_bounds}
use Rattle.mode_all.specs.declared.jobs.AllJob.{AllJob}

-- the files of a job
abbrev pub files_of : AllJob → List Named
files_of j = files_for j.program file.Inputs j.inputs j.weights

-- the settings of a job, as a certificate has them
abbrev pub head_by : AllJob → CertHead
head_by j = record { bounds = j.bounds; conflicts = j.conflicts; sets = j.sets }

-- what is asked of a job
pub record MayBeDone (j : AllJob) : Type 0 where
  pub countable : j.conflicts < 2 ^ 62
  pub bounds : are_bounds j.bounds ≡ true
