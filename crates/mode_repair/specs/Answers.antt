-- THE ANSWER OF A JOB whose files have these texts. It says nothing of a world.

use Rattle.std.specs.Prelude.{◌≡◌, ℕ, None, List, [], ◌∷◌, map, filter}
use Rattle.std.specs.List.{enumerate_from}
use Rattle.ba_answers.specs.declared.answers.Answer.{Answer}
use Rattle.ba_answers.specs.declared.answers.Answer.TheVariants as answer
use Rattle.ba_cases.specs.Searching.{IsAnswerOf}
use Rattle.ba_choices.specs.Judges.{Judge}
use Rattle.ba_derivations.specs.Derivations.{sets_of}
use Rattle.ba_derivations.specs.Handing.{Derivation}
use Rattle.ba_derivations.specs.declared.verdict.Verdict.{Verdict}
use Rattle.ba_derivations.specs.declared.verdict.Verdict.TheVariants.{Located, NoRepair, TooMany, Spent}
use Rattle.ba_localise.specs.Verdicts.{Shows}
use Rattle.ba_rank.specs.Ranking.{stands_in}
use Rattle.ba_repair.specs.Edits.{edits_of}
use Rattle.ba_repair.specs.Good.{AreGood}
use Rattle.ba_repair.specs.declared.listing.Edit.{Edit}
use Rattle.ba_tree.specs.Least.{judge_of}
use Rattle.ba_tree.specs.Trees.{tree_of}
use Rattle.ba_tree.specs.declared.tree.Program.{Program}
use Rattle.ba_tree.specs.declared.tree.StmtInfo.{StmtInfo}
use Rattle.mode_repair.specs.Cases.{failing_input, inputs_in, repair_answer, weights_of}
use Rattle.mode_repair.specs.Report.{repair_text}
use Rattle.mode_repair.specs.declared.jobs.RepairJob.{RepairJob}
use Rattle.mode_repair.specs.declared.texts.RepairTexts.{RepairTexts}

-- which runs on the failing input are good
abbrev pub judge_in : RepairJob → RepairTexts → Program → Judge
judge_in j x p = judge_of p (failing_input x p) j.bounds

-- the numbers of the program's statements, ascending
abbrev pub statement_numbers : Program → List ℕ
statement_numbers p = map (λ (numbered : ℕ × StmtInfo). numbered.0) (enumerate_from 1 p.statements)

-- THE STATEMENTS of some of these sets, ascending
abbrev pub statements_in : Program → List (List ℕ) → List ℕ
statements_in p sets = filter (λ n. stands_in n sets) (statement_numbers p)

-- THE EDITS THAT PASS: those at the statements of the least sets that are good for all inputs. The answer is
-- their report
pub record IsRepaired (j : RepairJob) (x : RepairTexts) (p : Program) (sets : List (List ℕ)) (a : Answer) :
    Type 0 where
  pub found : List Edit
  pub good : AreGood p j.bounds (inputs_in x p) (edits_of (tree_of p) (statements_in p sets)) found
  pub tells : a ≡ answer.Edits (repair_text x.program p found)

-- THE ANSWER OF A VERDICT on the failing run. If there are least sets, it reports the edits that pass. Else
-- there is no repair; or more least sets than may be listed, each of this weight; or the conflicts are spent
abbrev pub TellsVerdict : RepairJob → RepairTexts → Program → Verdict → Answer → Type 0
TellsVerdict j x p (Located weight sets) a = IsRepaired j x p (sets_of sets) a
TellsVerdict j x p NoRepair a = a ≡ answer.NoRepair
TellsVerdict j x p (TooMany weight sets) a = a ≡ answer.TooManySets weight j.sets None
TellsVerdict j x p Spent a = a ≡ answer.BudgetSpent j.conflicts None

-- THE ROW OF A SEARCH: the derivation that was handed on shows the verdict, and the answer tells it
pub record IsFound (j : RepairJob) (x : RepairTexts) (p : Program) (handed : List Derivation) (a : Answer) :
    Type 0 where
  pub derivation : Derivation
  pub handed_is : handed ≡ derivation ∷ []
  pub verdict : Verdict
  pub shows : Shows (weights_of p x) (judge_in j x p) j.conflicts j.sets derivation verdict
  pub tells : TellsVerdict j x p verdict a

-- THE ANSWERS of texts. Those of the same texts agree (`one_repair_answer`).
abbrev pub IsAnswer : RepairJob → RepairTexts → List Derivation → Answer → Type 0
IsAnswer j x = IsAnswerOf x.program (repair_answer j.bounds x) (IsFound j x)
