-- THE ANSWERS OF A JOB, by the texts of its files. They say nothing of a world.

use Rattle.std.specs.Prelude.{◌≡◌, ◌⊎◌, ℕ, ◌+◌, Bool, false, None, List, [], ◌∷◌, length}
use Rattle.ba_answers.specs.declared.answers.Answer.{Answer}
use Rattle.ba_answers.specs.declared.answers.Answer.TheVariants as answer
use Rattle.ba_cases.specs.AtOnce.{case_answer, input_of, weights_of}
use Rattle.ba_cases.specs.Searching.{IsAnswerOf}
use Rattle.ba_cases.specs.declared.texts.Texts.{Texts}
use Rattle.ba_choices.specs.Judges.{Judge}
use Rattle.ba_derivations.specs.declared.verdict.FoundSet.{FoundSet}
use Rattle.ba_derivations.specs.declared.verdict.Verdict.{Verdict}
use Rattle.ba_derivations.specs.declared.verdict.Verdict.TheVariants.{Located, NoRepair, TooMany, Spent}
use Rattle.ba_derivations.specs.Handing.{Derivation}
use Rattle.ba_localise.specs.Verdicts.{Shows}
use Rattle.ba_report.specs.Report.{report_text}
use Rattle.ba_tree.specs.Least.{judge_of}
use Rattle.ba_tree.specs.declared.tree.Program.{Program}
use Rattle.mode_localise.specs.Jobs.{sample_job}
use Rattle.mode_localise.specs.declared.jobs.LocaliseJob.{LocaliseJob}
use Rattle.mode_localise.specs.declared.jobs.Telling.{Telling}
use Rattle.mode_localise.specs.declared.jobs.Telling.TheVariants as telling

-- the weights of the statements, and which choices make a good run on the input if a set of statements is
-- relaxed

-- the judge of the program on its failing input
abbrev pub judge_in : LocaliseJob → Texts → Program → Judge
judge_in j x p = judge_of p (input_of p x.input) j.bounds

-- least sets are reported; those of a sample are told by their weight and their number
abbrev pub sets_answer : Telling → List ℕ → Program → ℕ → List FoundSet → Answer
sets_answer (telling.Report runs) source p weight sets = answer.Located (report_text source p runs weight sets)
sets_answer (telling.Count additions) source p weight sets = answer.Sampled additions weight (length sets)

-- THE ANSWER OF A VERDICT:
-- - the least sets
-- - no repair
-- - more least sets than may be listed, each of this weight
-- - the allowed conflicts are spent
abbrev pub verdict_answer : LocaliseJob → List ℕ → Program → Verdict → Answer
verdict_answer j source p (Located weight sets) = sets_answer j.telling source p weight sets
verdict_answer j source p NoRepair = answer.NoRepair
verdict_answer j source p (TooMany weight sets) = answer.TooManySets weight j.sets None
verdict_answer j source p Spent = answer.BudgetSpent j.conflicts None

-- THE ROW OF A SEARCH: the derivation that was handed on shows the verdict of the answer
pub record IsFound (j : LocaliseJob) (x : Texts) (p : Program) (handed : List Derivation) (a : Answer) : Type 0
  where
    pub derivation : Derivation
    pub handed_is : handed ≡ derivation ∷ []
    pub verdict : Verdict
    pub shows : Shows (weights_of p x) (judge_in j x p) j.conflicts j.sets derivation verdict
    pub tells : a ≡ verdict_answer j x.program p verdict

-- THE ANSWERS of texts. Those of the same texts agree (`one_answer`).
abbrev pub IsAnswer : LocaliseJob → Texts → List Derivation → Answer → Type 0
IsAnswer j x = IsAnswerOf x.program (case_answer j.bounds x) (IsFound j x)

-- whether runs are shown, which need not be the same ones
abbrev pub shows_runs : Telling → Bool
shows_runs (telling.Report runs) = runs
shows_runs (telling.Count additions) = false

-- THE ANSWER TO A SAMPLE: it has one set more than additions, each of weight 1; or its conflicts are spent
abbrev pub IsAnswerOfSample : ℕ → Answer → Type 0
IsAnswerOfSample n a =
    (a ≡ answer.Sampled n 1 (n + 1)) ⊎ (a ≡ answer.BudgetSpent (sample_job n).conflicts None)
