-- JOBS of checking a certificate.

use Rattle.std.specs.Prelude.{List}
use Rattle.ba_answers.specs.declared.file.File.TheVariants as file
use Rattle.ba_cases.specs.Reading.{files_for}
use Rattle.ba_cert.specs.declared.head.CertHead.{CertHead}
use Rattle.ba_files.specs.declared.files.Named.{Named}
use Rattle.mode_check.specs.declared.jobs.CheckJob.{CheckJob}

-- the files of a job that are read whole
abbrev pub files_of : CheckJob → List Named
files_of j = files_for j.program file.Input j.input j.weights

-- the files of a job, if there are several inputs
abbrev pub files_with_inputs : CheckJob → List Named
files_with_inputs j = files_for j.program file.Inputs j.input j.weights

-- the settings of a job, as a certificate has them
abbrev pub head_by : CheckJob → CertHead
head_by j = record { bounds = j.bounds; conflicts = j.conflicts; sets = j.sets }
