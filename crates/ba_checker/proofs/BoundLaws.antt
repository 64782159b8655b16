-- A core raises the bound.

use Rattle.std.proofs.Common.{◌≡◌, ℕ, ◌+◌, ◌<◌, ◌≤◌, ltb, Bool, true, false, not, ◌||◌, None, Some, List, [], ◌∷◌, length, All, refl, arith}
use Rattle.std.proofs.lemmas.Bool.Decides.{nat_tests}
use Rattle.ba_lits.specs.Literals.{Literal, negate}
use Rattle.ba_lits.specs.Satisfaction.{Soft}
use Rattle.ba_lits.specs.Formulas.{Cnf}
use Rattle.ba_lits.specs.Hints.{has_literal}
use Rattle.ba_choices.specs.Judges.{Judge}
use Rattle.ba_steps.specs.Steps.{IsFormed}
use Rattle.ba_steps.specs.declared.step.CertStep.{CertStep}
use Rattle.ba_steps.specs.declared.step.CertStep.TheVariants.{Core}
use Rattle.ba_steps.specs.declared.step.StepError.TheVariants.{AfterEnd, NotSofts, CoreAfterSet, WrongCount, BadVariable, Memory}
use Rattle.ba_checker.specs.Splits.{is_soft}
use Rattle.ba_checker.specs.States.{State, first_state}
use Rattle.ba_checker.specs.StepRules.{error_if, lacks_variable, is_spent, lacks_soft, hint_error, core_error, error_of, after, after_all}
use Rattle.ba_checker.specs.Facts.{IsStart}
use Rattle.ba_checker.proofs.FactLaws.{no_error, lightest_weighty, facts_hold}

-- the literals of a core are negations of soft ones
core_known : (good : Judge) (s : State) (lits : List Literal) (hints : List ℕ) →
    error_of good s (Core lits hints) ≡ None → lacks_soft s.softs lits ≡ false
core_known good s lits hints none =
    let awake = no_error s.refused Memory (error_if s.ended AfterEnd (core_error s lits hints)) none in
    let going = no_error s.ended AfterEnd (core_error s lits hints) awake.1 in
    let exists = no_error (lacks_variable s lits) BadVariable
    (error_if (is_spent s) WrongCount (error_if (ltb 0 (length s.sets)) CoreAfterSet
    (error_if (lacks_soft s.softs lits) NotSofts (hint_error s lits hints)))) going.1 in
    let left = no_error (is_spent s) WrongCount (error_if (ltb 0 (length s.sets)) CoreAfterSet
    (error_if (lacks_soft s.softs lits) NotSofts (hint_error s lits hints))) exists.1 in
    let early = no_error (ltb 0 (length s.sets)) CoreAfterSet
    (error_if (lacks_soft s.softs lits) NotSofts (hint_error s lits hints)) left.1 in
    (no_error (lacks_soft s.softs lits) NotSofts (hint_error s lits hints) early.1).0

-- soft literals have weights of at least 1, so their least weight is one
pub core_raises : (good : Judge) (s : State) (lits : List Literal) (hints : List ℕ) → 0 < length lits →
    All (λ (soft : Soft). 1 ≤ soft.1) s.softs → error_of good s (Core lits hints) ≡ None →
    s.bound + 1 ≤ (after s (Core lits hints)).bound
core_raises good s [] hints some weighty none = absurd (omega (arith, some))
core_raises good s (b ∷ rest) hints some weighty none =
    omega (
      arith,
      lightest_weighty (b ∷ rest) s.softs b weighty (first_there b rest)
          (soft_there (is_soft s.softs (negate b)) (lacks_soft s.softs rest)
          (core_known good s (b ∷ rest) hints none)),
    )
  where
    first_there : (b : Literal) (rest : List Literal) → has_literal b (b ∷ rest) ≡ true
    first_there b rest = grind (arith, nat_tests)

    soft_there : (x y : Bool) → (not x || y) ≡ false → x ≡ true
    soft_there true y e = refl
    soft_there false y e = absurd (cc)

-- so it is after allowed steps
pub cores_raise : (good : Judge) (formula : Cnf) (softs : List Soft) (conflicts sets : ℕ) →
    IsStart formula softs → (steps : List CertStep) → All IsFormed steps → (s : State) →
    after_all good (first_state formula softs conflicts sets) steps ≡ Some s →
    (lits : List Literal) (hints : List ℕ) → 0 < length lits → error_of good s (Core lits hints) ≡ None →
    s.bound + 1 ≤ (after s (Core lits hints)).bound
cores_raise good formula softs conflicts sets start steps formed s is lits hints some none =
    core_raises good s lits hints some
    (facts_hold good formula softs conflicts sets start steps formed s is).weighty none
