-- WHAT A SEARCH of a job hands to the sink of steps, and where it ends.

use Rattle.std.specs.Prelude.{◌≡◌, None, Result, List, []}
use Rattle.ba_answers.specs.declared.answers.Answer.{Answer}
use Rattle.ba_cases.specs.Searching.{Ends, HandsAll}
use Rattle.ba_derivations.specs.Handing.{Derivation}
use Rattle.ba_localise.specs.Verdicts.{LeavesDerivation}
use Rattle.ba_search.specs.declared.search.SearchError.{SearchError}
use Rattle.ba_steps.specs.Sinks.{Rose, Told}
use Rattle.ba_tree.specs.declared.tree.Program.{Program}
use Rattle.ba_tree_laws.specs.Spelling.{Spells}
use Rattle.mode_repair.specs.Answers.{IsAnswer, judge_in}
use Rattle.mode_repair.specs.Cases.{IsCaseOf, repair_answer, weights_of}
use Rattle.mode_repair.specs.Jobs.{MayBeDone}
use Rattle.mode_repair.specs.declared.cases.RepairCase.{RepairCase}
use Rattle.mode_repair.specs.declared.jobs.RepairJob.{RepairJob}
use Rattle.mode_repair.specs.declared.texts.RepairTexts.{RepairTexts}

-- what the search for the least sets of this program leaves
abbrev pub LeavesPart : RepairJob → RepairTexts → Program → Told → Told → Type 0
LeavesPart j x p = LeavesDerivation (weights_of p x) (judge_in j x p) j.conflicts j.sets

-- A JOB STOPS whose files have these texts: nothing was handed on; or it stops in the search or after it
pub data Stops (j : RepairJob) (x : RepairTexts) (t u : Told) : Type 0 where
  at_once : HandsAll [] t u → Stops j x t u
  in_search : (p : Program) → Spells x.program p → repair_answer j.bounds x p ≡ None → LeavesPart j x p t u →
      Stops j x t u

-- an answer of the texts, whose derivation, if there is one, was handed to the sink of steps
pub record Concludes (j : RepairJob) (x : RepairTexts) (t u : Told) (a : Answer) : Type 0 where
  pub handed : List Derivation
  pub is : IsAnswer j x handed a
  pub hands : HandsAll handed t u

-- where a job ends
abbrev pub TextsEnd : RepairJob → RepairTexts → Told → Told → Result Answer SearchError → Type 0
TextsEnd j x t u = Ends (Concludes j x t u) (Stops j x t u) (Rose t.faults u.faults) t u

-- a case of a job whose sets are searched for
pub record IsSearch (j : RepairJob) (x : RepairTexts) (c : RepairCase) : Type 0 where
  pub job : MayBeDone j
  pub case : IsCaseOf j.bounds x c
