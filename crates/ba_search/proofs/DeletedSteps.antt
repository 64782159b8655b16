-- The clauses that are discarded make an allowed step.

use Rattle.std.proofs.Common.{◌≡◌, ℕ, suc, zero, ◌<◌, ◌≤◌, ◌==◌, Bool, true, false, None, List, length, All, refl, sym, subst, ◌∙◌, arith}
use Rattle.std.specs.List.{list_all}
use Rattle.ba_lits.specs.Literals.{Literal}
use Rattle.ba_watch.specs.Propagation.{State as Watching}
use Rattle.ba_steps.specs.Steps.{AreNumbers, AreAbove, IsFormed}
use Rattle.ba_steps.specs.Sinks.{with_step, MayAddStep}
use Rattle.ba_steps.specs.declared.step.CertStep.TheVariants.{Delete}
use Rattle.ba_checker.specs.States.{State}
use Rattle.ba_choices.specs.Judges.{Judge}
use Rattle.ba_checker.specs.StepRules.{may_go, error_of, after, after_delete}
use Rattle.ba_checker.specs.Puts.{Checking, IsTakenOrAsleep}
use Rattle.ba_search.specs.Searching.{IsDiscarded, Leaves, Puts}
use Rattle.ba_search.specs.Iterations.{Numbering, IsUnderway}
use Rattle.ba_search.proofs.DeletionLaws.{delete_allowed}
use Rattle.ba_search.proofs.StepLaws.{Gives, puts_delete, leaves_put, leaves_delete}

-- what holds of the step
pub record IsDeleteStep (good : Judge) (gives : Gives) (k : State) (learnt numbers : List ℕ) : Type 0 where
  pub formed : IsFormed (Delete numbers)
  pub allowed : error_of good k (Delete numbers) ≡ None
  pub given : All (IsDiscarded gives k learnt) numbers

pub delete_step : (good : Judge) (gives : Gives) (a : List Literal) (s : Watching) (n : Numbering)
    (k seen : State) (learnt listed numbers : List ℕ) →
    IsUnderway a s n k → 1000 ≤ k.learnt → seen ≡ k → listed ≡ learnt → AreNumbers numbers →
    AreAbove 0 numbers → 0 < length numbers →
    list_all (may_go seen) numbers ≡ true → All (IsDiscarded gives seen listed) numbers →
    IsDeleteStep good gives k learnt numbers
delete_step good gives a s n k seen learnt listed numbers u enough seen_is listed_is are ascend some go
    given = record {
      formed = (are, ascend, some);
      allowed = delete_allowed good k numbers u.begun u.awake
          (subst (λ (x : State). list_all (may_go x) numbers ≡ true) seen_is go) enough;
      given = subst (λ (ns : List ℕ). All (IsDiscarded gives k ns) numbers) listed_is
          (subst (λ (x : State). All (IsDiscarded gives x listed) numbers) seen_is given);
    }

-- some number is discarded
pub some_items : (ns : List ℕ) (n : ℕ) (empty : Bool) → empty ≡ (n == 0) → empty ≡ false → n ≡ length ns →
    0 < length ns
some_items ns n empty is not_empty same = pos n (sym is ∙ not_empty) same
  where
    pos : (n : ℕ) → (n == 0) ≡ false → n ≡ length ns → 0 < length ns
    pos zero e same = absurd (cc e)
    pos (suc n) e same = omega (arith, same)

-- the step names them
pub named_formed : (good : Judge) (gives : Gives) (k : State) (learnt numbers named : List ℕ) →
    named ≡ numbers →
    IsDeleteStep good gives k learnt numbers → IsFormed (Delete named)
named_formed good gives k learnt numbers named is step =
    let P : List ℕ → Type 0 = λ x. IsFormed (Delete x) in subst P (sym is) step.formed

pub named_allowed : (good : Judge) (gives : Gives) (k : State) (learnt numbers named : List ℕ) →
    named ≡ numbers →
    IsDeleteStep good gives k learnt numbers → error_of good k (Delete named) ≡ None
named_allowed good gives k learnt numbers named is step =
    let P : List ℕ → Type 0 = λ x. error_of good k (Delete x) ≡ None in subst P (sym is) step.allowed

-- the step was put
pub delete_taken : (k d : State) (numbers named : List ℕ) → named ≡ numbers → d ≡ after k (Delete named) →
    d ≡ after_delete k numbers
delete_taken k d numbers named is taken = let P : List ℕ → Type 0 = λ x. d ≡ after k (Delete x) in
    subst P is taken

pub delete_puts : (gives : Gives) (old new : Checking) (learnt all numbers named : List ℕ) →
    named ≡ numbers → IsDeleteStep old.accepts gives old.checker learnt numbers →
    new.checker ≡ after old.checker (Delete named) → all ≡ learnt →
    new.told.logs ≡ with_step (Delete named) old.told.logs → Puts gives learnt all old new
delete_puts gives old new learnt all numbers named is step taken same told =
    let P : List ℕ → Type 0 = λ x. new.told.logs ≡ with_step (Delete x) old.told.logs in
    subst (λ (ns : List ℕ). Puts gives learnt ns old new) (sym same)
    (puts_delete gives old new learnt numbers step.formed step.allowed step.given
    (delete_taken old.checker new.checker numbers named is taken) (subst P is told))

pub delete_left : (gives : Gives) (old new : Checking) (learnt numbers named : List ℕ) →
    named ≡ numbers → IsDeleteStep old.accepts gives old.checker learnt numbers →
    new.checker ≡ after old.checker (Delete named) →
    new.told.logs ≡ with_step (Delete named) old.told.logs → Leaves gives learnt old new
delete_left gives old new learnt numbers named is step taken told =
    leaves_put gives old new learnt learnt
    (delete_puts gives old new learnt learnt numbers named is step taken refl told)

-- it was tried
pub delete_tried : (gives : Gives) (old new : Checking) (learnt numbers named : List ℕ) →
    named ≡ numbers → IsDeleteStep old.accepts gives old.checker learnt numbers →
    IsTakenOrAsleep old.checker (Delete named) new.checker →
    MayAddStep (Delete named) old.told.logs new.told.logs → Leaves gives learnt old new
delete_tried gives old new learnt numbers named is step taken told =
    let P : List ℕ → Type 0 = λ x. IsTakenOrAsleep old.checker (Delete x) new.checker in
    let Q : List ℕ → Type 0 = λ x. MayAddStep (Delete x) old.told.logs new.told.logs in
    leaves_delete gives old new learnt numbers step.formed step.allowed step.given
    (subst P is taken) (subst Q is told)
