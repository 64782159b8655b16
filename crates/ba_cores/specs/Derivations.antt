-- Derivations by Learn, Delete and Core steps, and their starts.

use Rattle.std.specs.Prelude.{◌≡◌, ℕ, None, Some, List, [], ◌∷◌, All}
use Rattle.ba_lits.specs.Literals.{Literal}
use Rattle.ba_lits.specs.Satisfaction.{Soft}
use Rattle.ba_lits.specs.Formulas.{Cnf}
use Rattle.ba_learn.specs.Live.{IsNew}
use Rattle.ba_steps.specs.Steps.{IsFormed}
use Rattle.ba_steps.specs.declared.step.CertStep.{CertStep}
use Rattle.ba_steps.specs.declared.step.CertStep.TheVariants.{Learn, Core, Delete}
use Rattle.ba_checker.specs.States.{State, clause_at, first_state}
use Rattle.ba_choices.specs.Judges.{Judge}
use Rattle.ba_checker.specs.StepRules.{error_of, after, after_all}
use Rattle.ba_checker.specs.Facts.{IsStart}
use Rattle.ba_checker.specs.Puts.{Checking, LeavesSteps}

-- Learn, Delete and Core steps lead from one state of a checker to another. Each is formed and allowed. The
-- clause of a Learn step is new to propagation for the clauses that are live at that moment.
pub data Derives (good : Judge) : State → List CertStep → State → Type 0 where
  derives_none : (s : State) → Derives good s [] s
  derives_learn : (s t : State) (lits : List Literal) (hints : List ℕ) (steps : List CertStep) →
      IsFormed (Learn lits hints) →
      error_of good s (Learn lits hints) ≡ None → IsNew (clause_at s.clauses) lits →
      Derives good (after s (Learn lits hints)) steps t → Derives good s (Learn lits hints ∷ steps) t
  derives_delete : (s t : State) (numbers : List ℕ) (steps : List CertStep) →
      IsFormed (Delete numbers) →
      error_of good s (Delete numbers) ≡ None → Derives good (after s (Delete numbers)) steps t →
      Derives good s (Delete numbers ∷ steps) t
  derives_core : (s t : State) (lits : List Literal) (hints : List ℕ) (steps : List CertStep) →
      IsFormed (Core lits hints) →
      error_of good s (Core lits hints) ≡ None → Derives good (after s (Core lits hints)) steps t →
      Derives good s (Core lits hints ∷ steps) t

-- what such steps leave, also after an error
abbrev pub Leaves : Checking → Checking → Type 0
Leaves old new = LeavesSteps (Derives old.accepts old.checker) old.told.logs new.checker new.told.logs

-- allowed steps lead to the state from a formula with soft literals
pub record IsReached (good : Judge) (formula : Cnf) (softs : List Soft) (s : State) : Type 0 where
  pub start : IsStart formula softs
  pub conflicts : ℕ
  pub sets : ℕ
  pub steps : List CertStep
  pub formed : All IsFormed steps
  pub reached : after_all good (first_state formula softs conflicts sets) steps ≡ Some s
