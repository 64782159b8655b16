-- What a sink of steps tells.

use base.Fml.{GName}
use Rattle.std.specs.Prelude.{◌≡◌, ℕ, ◌+◌, ◌≤◌, ◌⊎◌, Option, None, option_map, Result, Err, OnOk, OnErr, List, [], ◌∷◌, ◌++◌, map}
use Rattle.ba_lits.specs.Satisfaction.{Soft}
use Rattle.ba_lits.specs.Formulas.{Cnf}
use Rattle.ba_steps.specs.declared.sink.Basis.{Basis}
use Rattle.ba_steps.specs.declared.sink.SinkError.{SinkError}
use Rattle.ba_steps.specs.declared.sink.SinkError.TheVariants.{Failed}
use Rattle.ba_steps.specs.declared.step.CertStep.{CertStep}
pub use Rattle.ba_world.specs.World.{Rose}

-- a list that is told or not, with one item more at its end
abbrev pub with_told : {X : Type 0} → X → Option (List X) → Option (List X)
with_told x told = option_map (λ xs. xs ++ x ∷ []) told

-- the item may have been added
abbrev pub MayAdd : {X : Type 0} → X → Option (List X) → Option (List X) → Type 0
MayAdd x old new = (new ≡ old) ⊎ (new ≡ with_told x old)

-- the logs of a sink: each is a list of steps that is told or not
abbrev pub Logs : Type 0
Logs = List (Option (List CertStep))

-- each log with one step more
abbrev pub with_step : CertStep → Logs → Logs
with_step step logs = map (with_told step) logs

-- the step may have been added to some of the logs
abbrev pub MayAddStep : CertStep → Logs → Logs → Type 0
MayAddStep step [] [] = Unit {0}
MayAddStep step [] (log ∷ logs) = ⊥
MayAddStep step (log ∷ logs) [] = ⊥
MayAddStep step (old ∷ olds) (new ∷ news) = MayAdd step old new × MayAddStep step olds news

-- what a refusal leaves of two sinks told one after the other: the second was not told, or the first has the
-- item
abbrev pub StopsInTurn : {X : Type 0} →
    X → Option (List X) → Option (List X) → Option (List X) → Option (List X) → Type 0
StopsInTurn x first first' second second' =
    (MayAdd x first first' × (second' ≡ second)) ⊎ ((first' ≡ with_told x first) × MayAdd x second second')

-- what a refusal leaves of two sinks that are asked one after the other: the second was not asked, or the
-- first has the step
abbrev pub RefusesInTurn : CertStep → Logs → Logs → Logs → Logs → Type 0
RefusesInTurn step first first' second second' =
    (MayAddStep step first first' × (second' ≡ second))
    ⊎ ((first' ≡ with_step step first) × MayAddStep step second second')

-- a formula with its soft literals
abbrev pub basis : Cnf → List Soft → Basis
basis formula softs = record { formula = formula; softs = softs }

-- WHAT A SINK TELLS at one moment:
-- - its formulas with their soft literals, if they are told
-- - its logs
-- - how often what it writes to has failed
-- - the references through which it writes
pub record Told : Type 0 where
  pub over : Option (List Basis)
  pub logs : Logs
  pub faults : ℕ
  pub references : List GName

-- what the sink writes to failed meanwhile
abbrev pub HasFault : Told → Told → Type 0
HasFault old new = Rose old.faults new.faults

-- the faults don't fall, and the references stay the same
pub record Outlasts (old new : Told) : Type 0 where
  pub no_fall : old.faults ≤ new.faults
  pub same_references : new.references ≡ old.references

-- A formula is begun. A refusal may leave it told, and is a failure only if the faults rose.
pub record Begins (begun : Basis) (result : Result Unit SinkError) (old new : Told) : Type 0 where
  pub told : OnOk result (new.over ≡ with_told begun old.over)
  pub refused : OnErr result (MayAdd begun old.over new.over)
  pub logs_stay : new.logs ≡ old.logs
  pub cause : result ≡ Err Failed → HasFault old new
  pub outlasts : Outlasts old new

-- A step is taken. A refusal may leave it in some of the logs, and is a failure only if the faults rose.
pub record Takes (step : CertStep) (result : Result Unit SinkError) (old new : Told) : Type 0 where
  pub told : OnOk result (new.logs ≡ with_step step old.logs)
  pub refused : OnErr result (MayAddStep step old.logs new.logs)
  pub over_stays : new.over ≡ old.over
  pub cause : result ≡ Err Failed → HasFault old new
  pub outlasts : Outlasts old new

-- a sink that tells nothing
abbrev pub untold : Told
untold = record { over = None; logs = []; faults = 0; references = [] }

-- what two sinks tell, the second of which is behind a reference: the formulas of the second, the logs of
-- both
abbrev pub told_by_both : GName → Told → Told → Told
told_by_both name first second = record {
  over = second.over;
  logs = first.logs ++ second.logs;
  faults = first.faults + second.faults;
  references = name ∷ (first.references ++ second.references);
}
