-- THE ANSWERS OF A JOB with its sink of steps and its certificate. What is left of a derivation wherever it
-- stops, and where its parts end.

use Rattle.std.specs.Prelude.{◌≡◌, Option, None, Result, List, []}
use Rattle.ba_answers.specs.declared.answers.Answer.{Answer}
use Rattle.ba_cases.specs.AtOnce.{case_answer, weights_of}
use Rattle.ba_cases.specs.Cases.{IsCaseOf}
use Rattle.ba_cases.specs.Searching.{Ends, HandsAll, HasHandFault}
use Rattle.ba_cases.specs.declared.cases.Case.{Case}
use Rattle.ba_cases.specs.declared.texts.Texts.{Texts}
use Rattle.ba_certified.specs.Certifying.{Certifies}
use Rattle.ba_certified.specs.Leaving as certified
use Rattle.ba_commands.specs.Modes.{Word}
use Rattle.ba_derivations.specs.Handing.{Derivation}
use Rattle.ba_search.specs.declared.search.SearchError.{SearchError}
use Rattle.ba_steps.specs.Sinks.{Told}
use Rattle.ba_tree.specs.declared.tree.Program.{Program}
use Rattle.ba_tree_laws.specs.Spelling.{Spells}
use Rattle.ba_world.specs.World.{Outside}
use Rattle.mode_localise.specs.Answers.{IsAnswer, judge_in}
use Rattle.mode_localise.specs.Jobs.{MayBeDone, head_by}
use Rattle.mode_localise.specs.declared.jobs.LocaliseJob.{LocaliseJob}

-- AN ANSWER of the texts. Its derivation, if there is one, was handed to the sink of steps, and written to
-- the certificate, if one is named.
pub record Concludes (j : LocaliseJob) (x : Texts) (name : Option Word) (before after : Outside) (t u : Told)
    (a : Answer) : Type 0
  where
    pub handed : List Derivation
    pub is : IsAnswer j x handed a
    pub hands : HandsAll handed t u
    pub certifies : Certifies (head_by j) name handed before after

-- what a search for the least sets of this program leaves that writes the certificate, if one is named, and
-- no other file
abbrev pub SearchLeaves : LocaliseJob → Texts → Program → Outside → Outside → Told → Told → Type 0
SearchLeaves j x p = certified.SearchLeaves (head_by j) j.cert (weights_of p x) (judge_in j x p)

-- A JOB STOPS whose files have these texts: at once, or in a search
pub data Stops (j : LocaliseJob) (x : Texts) (old new : Outside) (t u : Told) : Type 0 where
  at_once : new ≡ old → HandsAll [] t u → Stops j x old new t u
  in_search : (p : Program) → Spells x.program p → case_answer j.bounds x p ≡ None →
      SearchLeaves j x p old new t u → Stops j x old new t u

-- ITS END

-- a job whose files have these texts
abbrev pub TextsEnd : LocaliseJob → Texts → Outside → Outside → Told → Told → Result Answer SearchError →
    Type 0
TextsEnd j x before after t u = Ends (Concludes j x j.cert before after t u)
    (Stops j x before after t u) (HasHandFault j.cert before after t u) t u

-- a case of a job whose sets are searched for
pub record IsSearch (j : LocaliseJob) (x : Texts) (c : Case) : Type 0 where
  pub job : MayBeDone j
  pub case : IsCaseOf j.bounds x c
