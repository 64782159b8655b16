-- THE ANSWERS OF A JOB, by the texts of its files. They say nothing of a world.

use Rattle.std.specs.Prelude.{◌≡◌, ℕ, Bool, true, None, List, [], ◌∷◌, length, All}
use Rattle.std.specs.List.{AllZip}
use Rattle.ba_all.specs.AllRuns.{judge_of_all, tests_of}
use Rattle.ba_all.specs.Cuts.{IsCut}
use Rattle.ba_answers.specs.declared.answers.Answer.{Answer}
use Rattle.ba_answers.specs.declared.answers.Answer.TheVariants as answer
use Rattle.ba_cases.specs.AllCases.{all_answer, inputs_in}
use Rattle.ba_cases.specs.AtOnce.{weights_of}
use Rattle.ba_cases.specs.Searching.{IsAnswerOf}
use Rattle.ba_cases.specs.declared.texts.Texts.{Texts}
use Rattle.ba_choices.specs.Judges.{Judge}
use Rattle.ba_derivations.specs.Derivations.{IsGood}
use Rattle.ba_derivations.specs.declared.verdict.FoundSet.{FoundSet}
use Rattle.ba_derivations.specs.declared.verdict.Verdict.{Verdict}
use Rattle.ba_derivations.specs.declared.verdict.Verdict.TheVariants.{Located, NoRepair, TooMany, Spent}
use Rattle.ba_derivations.specs.Handing.{Derivation}
use Rattle.ba_localise.specs.Verdicts.{Shows}
use Rattle.ba_tree.specs.declared.run.Bounds.{Bounds}
use Rattle.ba_tree.specs.declared.run.Input.{Input}
use Rattle.ba_tree.specs.declared.tree.Program.{Program}
use Rattle.mode_all.specs.Report.{ShownSet, all_report_text}
use Rattle.mode_all.specs.declared.jobs.AllJob.{AllJob}

-- which choices make good runs on all inputs if a set of statements is relaxed
abbrev pub judge_in : AllJob → Texts → Program → Judge
judge_in j x p = judge_of_all p (inputs_in p x.input) j.bounds

-- the runs of sets that a verdict lists are good
abbrev pub AreGoodIn : Judge → Verdict → Type 0
AreGoodIn good (Located weight sets) = All (IsGood good) sets
AreGoodIn good _ = Unit {0}

-- A SET IS SHOWN AS IT WAS FOUND: where runs are shown its choices are cut into those of a good run on each
-- input
pub record IsShownAs (shows : Bool) (p : Program) (inputs : List Input) (b : Bounds) (found : FoundSet)
    (shown : ShownSet) :
    Type 0 where
  pub groups : shown.groups ≡ found.groups
  pub runs : shows ≡ true → IsCut (tests_of p inputs b found.groups) found.run shown.runs

-- bytes report these sets and their weight
pub record Reports (shows : Bool) (source : List ℕ) (p : Program) (inputs : List Input) (b : Bounds)
    (weight : ℕ) (sets : List FoundSet) (bytes : List ℕ) :
    Type 0 where
  pub shown : List ShownSet
  pub are_shown : AllZip (IsShownAs shows p inputs b) sets shown
  pub bytes_are : bytes ≡ all_report_text source p shows (length inputs) weight shown

-- THE ANSWER OF A VERDICT:
-- - the least sets
-- - no repair
-- - more least sets than may be listed, each of this weight
-- - the allowed conflicts are spent
abbrev pub TellsVerdict : AllJob → List ℕ → Program → List Input → Verdict → Answer → Type 0
TellsVerdict j source p inputs (Located weight sets) a =
    (bytes : List ℕ) × Reports j.runs source p inputs j.bounds weight sets bytes × (a ≡ answer.Located bytes)
TellsVerdict j source p inputs NoRepair a = a ≡ answer.NoRepair
TellsVerdict j source p inputs (TooMany weight sets) a = a ≡ answer.TooManySets weight j.sets None
TellsVerdict j source p inputs Spent a = a ≡ answer.BudgetSpent j.conflicts None

-- THE ROW OF A SEARCH: the derivation that was handed on shows the verdict of the answer
pub record IsFound (j : AllJob) (x : Texts) (p : Program) (handed : List Derivation) (a : Answer) : Type 0
  where
    pub derivation : Derivation
    pub handed_is : handed ≡ derivation ∷ []
    pub verdict : Verdict
    pub shows : Shows (weights_of p x) (judge_in j x p) j.conflicts j.sets derivation verdict
    pub tells : TellsVerdict j x.program p (inputs_in p x.input) verdict a

-- THE ANSWERS of texts. Those of the same texts agree (`one_answer_of_all`).
abbrev pub IsAnswer : AllJob → Texts → List Derivation → Answer → Type 0
IsAnswer j x = IsAnswerOf x.program (all_answer j.bounds x) (IsFound j x)
