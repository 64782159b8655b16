-- THE ANSWERS OF A CHECK, by the texts of its files.

use Rattle.std.specs.Prelude.{◌≡◌, ◌⊎◌, ℕ, ◌<◌, ◌≤◌, Option, None, Some, Result, List, [], ◌∷◌, length}
use Rattle.ba_all.specs.AllRuns.{judge_of_all}
use Rattle.ba_answers.specs.Limits.{certificate_limit}
use Rattle.ba_answers.specs.declared.answers.Answer.{Answer}
use Rattle.ba_answers.specs.declared.status.Status.{Status}
use Rattle.ba_answers.specs.declared.status.Status.TheVariants as status
use Rattle.ba_cases.specs.AllCases.{all_answer, inputs_in}
use Rattle.ba_cases.specs.AtOnce.{IsAtOnce, case_answer, input_of, weights_of}
use Rattle.ba_cases.specs.Searching.{Ends, HandsAll}
use Rattle.ba_cases.specs.declared.texts.Texts.{Texts}
use Rattle.ba_choices.specs.Judges.{Judge}
use Rattle.ba_derivations.specs.Encodings.{IsFaithful}
use Rattle.ba_derivations.specs.Handing.{Derivation, problem_of}
use Rattle.ba_search.specs.declared.search.SearchError.{SearchError}
use Rattle.ba_steps.specs.Sinks.{Told, with_told}
use Rattle.ba_steps.specs.declared.sink.Basis.{Basis}
use Rattle.ba_tree.specs.Least.{WeightList, judge_of}
use Rattle.ba_tree.specs.declared.tree.Program.{Program}
use Rattle.ba_tree_laws.specs.Spelling.{Spells}
use Rattle.ba_world.specs.World.{OnlyReads, Outside, Rose}
use Rattle.mode_check.specs.Certificates.{CertificateComesTo, Checking}
use Rattle.mode_check.specs.Jobs.{head_by}
use Rattle.mode_check.specs.declared.jobs.CheckJob.{CheckJob}

-- WHAT IS CHECKED: the answer of the runs as written before any certificate is read, and which runs are good.
-- It is said of the run on one input, and of those on several inputs taken together.
pub record Subject : Type 0 where
  pub answer_at_once : Texts → Program → Option Answer
  pub judge : Texts → Program → Judge

-- of the run on one input
abbrev pub one_run : CheckJob → Subject
one_run j = record {
  answer_at_once = case_answer j.bounds;
  judge = λ x p. judge_of p (input_of p x.input) j.bounds;
}

-- of the runs on all inputs
abbrev pub all_runs : CheckJob → Subject
all_runs j = record {
  answer_at_once = all_answer j.bounds;
  judge = λ x p. judge_of_all p (inputs_in p x.input) j.bounds;
}

-- what is checked of a certificate: its text on the problem of the runs, over the formula that was handed on
abbrev pub checking : CheckJob → WeightList → Judge → Derivation → Checking
checking j weights good over = record {
  name = j.cert;
  head = head_by j;
  problem = problem_of over good j.conflicts j.sets;
  weights = weights;
}

-- the formula encodes faithfully which runs are good
abbrev pub IsFaithfulTo : WeightList → Judge → Basis → Type 0
IsFaithfulTo weights good b = IsFaithful b.formula b.softs weights good

-- THE CERTIFICATE HAS THE ANSWER, over a faithful formula, which was handed to the sink of steps without a
-- step
pub record IsChecked (j : CheckJob) (weights : WeightList) (good : Judge) (before after : Outside)
    (handed : List Derivation) (a : Answer) : Type 0
  where
    pub over : Derivation
    pub handed_is : handed ≡ over ∷ []
    pub no_step : over.steps ≡ []
    pub faithful : IsFaithfulTo weights good over.begun
    pub comes : CertificateComesTo (checking j weights good over) a before after

-- THE ROW OF TEXTS: an answer at once; or the runs of their program fail, and the certificate is read
pub data IsAnswer (s : Subject) (j : CheckJob) (x : Texts) (before after : Outside) (handed : List Derivation)
    (a : Answer) : Type 0
  where
    at_once : IsAtOnce x.program (s.answer_at_once x) a → handed ≡ [] → after ≡ before →
        IsAnswer s j x before after handed a
    by_certificate : (p : Program) → Spells x.program p → s.answer_at_once x p ≡ None →
        IsChecked j (weights_of p x) (s.judge x p) before after handed a → IsAnswer s j x before after handed
        a

-- an answer of the texts, whose formula, if there is one, was handed to the sink of steps
pub record Concludes (s : Subject) (j : CheckJob) (x : Texts) (before after : Outside) (t u : Told) (a :
    Answer)
    : Type 0
  where
    pub handed : List Derivation
    pub is : IsAnswer s j x before after handed a
    pub hands : HandsAll handed t u

-- WHAT IS LEFT if a check stops: a faithful formula may have been handed to the sink, and no step

-- at most a faithful formula was handed to the sink
abbrev pub MayHandFormula : WeightList → Judge → Told → Told → Type 0
MayHandFormula weights good t u = (u.over ≡ t.over)
    ⊎ ((begun : Basis) × IsFaithfulTo weights good begun × (u.over ≡ with_told begun t.over))

-- what a check leaves that ended without an answer
pub data Stops (s : Subject) (j : CheckJob) (x : Texts) (before after : Outside) (t u : Told) : Type 0 where
  at_once : after ≡ before → HandsAll [] t u → Stops s j x before after t u
  in_check : (p : Program) → Spells x.program p → s.answer_at_once x p ≡ None → OnlyReads before after →
      MayHandFormula (weights_of p x) (s.judge x p) t u → u.logs ≡ t.logs → Stops s j x before after t u

-- the end of a check
abbrev pub TextsEnd : Subject → CheckJob → Texts → Outside → Outside → Told → Told → Result Answer SearchError
    →
    Type 0
TextsEnd s j x before after t u = Ends (Concludes s j x before after t u) (Stops s j x before after t u)
    (Rose t.faults u.faults) t u

-- an answer of a certificate over a formula, which was handed to the sink of steps
pub record ChecksOver (j : CheckJob) (weights : WeightList) (good : Judge) (before after : Outside) (t u :
    Told)
    (a : Answer) : Type 0
  where
    pub handed : List Derivation
    pub is : IsChecked j weights good before after handed a
    pub hands : HandsAll handed t u

-- what a check over a formula leaves that ended without an answer
pub record StopsOver (weights : WeightList) (good : Judge) (before after : Outside) (t u : Told) : Type 0
  where
    pub reads : OnlyReads before after
    pub formula : MayHandFormula weights good t u
    pub logs : u.logs ≡ t.logs

-- where a check over a formula ends, whatever runs it is of
abbrev pub FormulaEnds : CheckJob → WeightList → Judge → Outside → Outside → Told → Told →
    Result Answer SearchError → Type 0
FormulaEnds j weights good before after t u =
    Ends (ChecksOver j weights good before after t u) (StopsOver weights good before after t u)
    (Rose t.faults u.faults) t u

-- How a check ends by what the world tells of the certificate. If there is none, it can't be read. If there
-- is one, it is too long, or refused, or, if it isn't too long, accepted.
pub data IsEndOfCheck : Option (List ℕ) → Status → Type 0 where
  not_there : IsEndOfCheck None status.ReadFault
  accepted : (text : List ℕ) → length text ≤ certificate_limit → IsEndOfCheck (Some text) status.Ok
  refused : (text : List ℕ) → IsEndOfCheck (Some text) status.BadCertificate
  too_long : (text : List ℕ) → certificate_limit < length text → IsEndOfCheck (Some text) status.TooLong
