-- JOBS of localising, and samples.

use Rattle.std.specs.Prelude.{ℕ, ◌<◌, ◌^◌, ◌≡◌, true, false, None, List, []}
use Rattle.ba_answers.specs.declared.file.File.TheVariants as file
use Rattle.ba_cases.specs.Reading.{files_for}
use Rattle.ba_cases.specs.declared.texts.Texts.{Texts}
use Rattle.ba_cert.specs.declared.head.CertHead.{CertHead}
use Rattle.ba_files.specs.declared.files.Named.{Named}
use Rattle.ba_samples.specs.Text.{sample_text}
use Rattle.ba_tree.specs.Run.{are_bounds}
use Rattle.mode_localise.specs.declared.jobs.LocaliseJob.{LocaliseJob}
use Rattle.mode_localise.specs.declared.jobs.Telling.TheVariants as telling

-- the files of a job
abbrev pub files_of : LocaliseJob → List Named
files_of j = files_for j.program file.Input j.input j.weights

-- the settings of a job, as a certificate has them
abbrev pub head_by : LocaliseJob → CertHead
head_by j = record { bounds = j.bounds; conflicts = j.conflicts; sets = j.sets }

-- what is asked of a job
pub record MayBeDone (j : LocaliseJob) : Type 0 where
  pub countable : j.conflicts < 2 ^ 62
  pub bounds : are_bounds j.bounds ≡ true

-- A SAMPLE: its least sets are searched for in its own text. The bound is 1, the input is empty, each
-- statement has weight 1, and the settings are the default ones. No file is read or written.
abbrev pub sample_job : ℕ → LocaliseJob
sample_job additions = record {
  program = [];
  input = [];
  weights = None;
  bounds = record { turns = 1; frames = 16 };
  conflicts = 200000;
  sets = 1000;
  cert = None;
  telling = telling.Count additions;
  steady = false;
}

-- the texts of a sample
abbrev pub sample_texts : ℕ → Texts
sample_texts additions = record { program = sample_text additions; input = []; weights = [] }
