-- A checker whose steps go to a sink.

use Rattle.std.specs.Prelude.{◌≡◌, ◌≤◌, ◌⊎◌, true, false, Option, None, Some, Result, Ok, Err, IfErr, OnErr, OnOk, List, [], ◌∷◌, ◌++◌}
use Rattle.ba_choices.specs.Judges.{Judge}
use Rattle.ba_steps.specs.Sinks.{HasFault, Logs, MayAddStep, Told, with_step}
use Rattle.ba_steps.specs.declared.step.CertStep.{CertStep}
use Rattle.ba_steps.specs.declared.sink.SinkError.{SinkError}
use Rattle.ba_steps.specs.declared.sink.SinkError.TheVariants.{Failed}
use Rattle.ba_checker.specs.States.{State}
use Rattle.ba_checker.specs.StepRules.{after, error_of}

-- a checker with a judge of runs and a sink, as the sink tells
pub record Putting (J : Type 0) : Type 0 where
  pub checker : State
  pub judge : J
  pub told : Told
  pub refusal : Option SinkError

-- A LOG OF PROOFS: a checker, the runs that its judge accepts, what its sink tells, and the refusal that
-- every call answers
pub record Checking : Type 0 where
  pub checker : State
  pub accepts : Judge
  pub told : Told
  pub refusal : Option SinkError

-- a checker with a judge and a sink, as the sink tells
abbrev pub log_of : {J : Type 0} → (J → Judge) → Putting J → Checking
log_of accepts c = record {
  checker = c.checker;
  accepts = accepts c.judge;
  told = c.told;
  refusal = c.refusal;
}

-- What no call changes: the judge, the formulas and the references. The faults don't fall.
pub record Lasts (old new : Checking) : Type 0 where
  pub judge_stays : new.accepts ≡ old.accepts
  pub over_stays : new.told.over ≡ old.told.over
  pub no_fall : old.told.faults ≤ new.told.faults
  pub same_references : new.told.references ≡ old.told.references

-- the refusal of an answer
abbrev pub refusal_of : Result Unit SinkError → Option SinkError
refusal_of (Ok u) = None
refusal_of (Err error) = Some error

-- the checker has taken the step, or refuses every step from now on
abbrev pub IsTakenOrAsleep : State → CertStep → State → Type 0
IsTakenOrAsleep old step new = (new ≡ after old step) ⊎ (new.refused ≡ true)

-- the step is allowed, unless the log refuses everything
abbrev pub IsAllowed : CertStep → Checking → Type 0
IsAllowed step s = s.checker.refused ≡ false → error_of s.accepts s.checker step ≡ None

-- a step goes to the checker and then to the sink, if nothing was refused before
pub record HandsOn (step : CertStep) (result : Result Unit SinkError) (old new : Checking) : Type 0 where
  pub lasts : Lasts old new
  pub refusal_stays : new.refusal ≡ old.refusal
  pub taken : OnOk result (new.checker ≡ after old.checker step)
  pub awake : OnOk result (new.checker.refused ≡ false)
  pub told : OnOk result (new.told.logs ≡ with_step step old.told.logs)
  pub taken_too : result ≡ Err Failed → new.checker ≡ after old.checker step
  pub taken_or_asleep : OnErr result (IsTakenOrAsleep old.checker step new.checker)
  pub refused : OnErr result (MayAddStep step old.told.logs new.told.logs)
  pub cause : result ≡ Err Failed → HasFault old.told new.told

-- A STEP IS PUT: it is handed on, and a refusal is answered from then on. After a refusal nothing changes any
-- more.
pub record Puts (step : CertStep) (result : Result Unit SinkError) (old new : Checking) : Type 0 where
  pub lasts : Lasts old new
  pub fresh : OnOk result (old.refusal ≡ None)
  pub taken : OnOk result (new.checker ≡ after old.checker step)
  pub awake : OnOk result (new.checker.refused ≡ false)
  pub told : OnOk result (new.told.logs ≡ with_step step old.told.logs)
  pub still_fresh : OnOk result (new.refusal ≡ None)
  pub taken_too : old.refusal ≡ None → result ≡ Err Failed → new.checker ≡ after old.checker step
  pub taken_or_asleep : old.refusal ≡ None → OnErr result (IsTakenOrAsleep old.checker step new.checker)
  pub refused : OnErr result (MayAddStep step old.told.logs new.told.logs)
  pub keeps : IfErr result (λ error. new.refusal ≡ Some error)
  pub again : (error : SinkError) → old.refusal ≡ Some error → (result ≡ Err error) × (new ≡ old)
  pub cause : result ≡ Err Failed → (old.refusal ≡ Some Failed) ⊎ HasFault old.told new.told

-- the logs of a sink with these steps added to every log that is told
abbrev pub with_steps : List CertStep → Logs → Logs
with_steps [] logs = logs
with_steps (step ∷ steps) logs = with_steps steps (with_step step logs)

-- steps were put: they lead from one state to another, and are in the logs
pub record PutsSteps (lead : List CertStep → Type 0) (old_logs new_logs : Logs) : Type 0 where
  pub steps : List CertStep
  pub leads : lead steps
  pub logs : new_logs ≡ with_steps steps old_logs

-- What is left, also after an error. Such steps were put; or one more was tried. The checker has taken it, or
-- refuses every step after it, and some of the logs may hold it.
pub data LeavesSteps (lead : List CertStep → State → Type 0) (old_logs : Logs) (new : State)
    (new_logs : Logs) : Type 0 where
  leaves_all : (steps : List CertStep) → lead steps new → new_logs ≡ with_steps steps old_logs →
      LeavesSteps lead old_logs new new_logs
  leaves_last : (steps : List CertStep) (last : CertStep) (before : State) → lead steps before →
      lead (steps ++ last ∷ []) (after before last) → IsTakenOrAsleep before last new →
      MayAddStep last (with_steps steps old_logs) new_logs → LeavesSteps lead old_logs new new_logs
