-- A learnt clause makes an allowed step.

use Rattle.std.proofs.Common.{◌≡◌, ℕ, ◌+◌, ◌<◌, None, List, [], ◌∷◌, ◌++◌, length, refl, sym, ap, subst, ◌∙◌, arith}
use Rattle.std.proofs.lemmas.List.{length_push}
use Rattle.ba_lits.specs.Literals.{Literal, IsClause}
use Rattle.ba_watch.specs.Propagation.{State as Watching, KeepsFacts}
use Rattle.ba_learn.specs.Live.{Follows, IsNew, IsNewTo}
use Rattle.ba_learn.specs.Levels.{IsBacked}
use Rattle.ba_steps.specs.Steps.{IsFormed}
use Rattle.ba_steps.specs.Sinks.{with_step, MayAddStep}
use Rattle.ba_steps.specs.declared.step.CertStep.{CertStep}
use Rattle.ba_steps.specs.declared.step.CertStep.TheVariants.{Learn}
use Rattle.ba_checker.specs.States.{State, kept, clause_at}
use Rattle.ba_checker.specs.declared.store.Origin.TheVariants.{Learnt}
use Rattle.ba_choices.specs.Judges.{Judge}
use Rattle.ba_checker.specs.StepRules.{error_of, after, after_learn}
use Rattle.ba_checker.specs.Puts.{Checking, IsTakenOrAsleep}
use Rattle.ba_search.specs.Searching.{Leaves, Puts}
use Rattle.ba_search.specs.Iterations.{Numbering, IsUnderway}
use Rattle.ba_search.proofs.LearnLaws.{Formed, learnt_clause, learnt_numbers, learnt_formed, learn_allowed}
use Rattle.ba_search.proofs.StepLaws.{Gives, puts_learn, leaves_put, leaves_tried}

-- what holds of the step of a learnt clause
pub record IsLearntStep (good : Judge) (k : State) (lits : List Literal) (hints : List ℕ) : Type 0 where
  pub formed : IsFormed (Learn lits hints)
  pub allowed : error_of good k (Learn lits hints) ≡ None
  pub new : IsNew (clause_at k.clauses) lits

pub learnt_step : (good : Judge) (a : List Literal) (s : Watching) (numbers : Numbering) (k : State)
    (lits : List Literal) (hints : List ℕ) (back : ℕ) →
    KeepsFacts s → Formed k → IsUnderway a s numbers k → k.conflicts < k.budget →
    IsClause s.variables lits → Follows s.clauses lits hints → IsNewTo s.clauses lits →
    IsBacked s lits back → IsLearntStep good k lits hints
learnt_step good a s numbers k lits hints back facts formed u left clause follows new backed =
    let live = u.live in
    let is_clause : IsClause k.variables lits = learnt_clause a s numbers k facts formed u lits clause
    backed.false_ in
    record {
      formed = (
        learnt_formed k.variables lits formed.few is_clause (omega (arith, backed.present_in)),
        learnt_numbers k lits hints u.few (follows (clause_at k.clauses) live),
      );
      allowed = learn_allowed good k lits hints formed u.begun u.awake left is_clause
          (follows (clause_at k.clauses) live) (new (clause_at k.clauses) live);
      new = new (clause_at k.clauses) live;
    }

pub step_formed : (good : Judge) (k : State) (lits : List Literal) (hints : List ℕ) (step : CertStep) →
    step ≡ Learn lits hints → IsLearntStep good k lits hints → IsFormed step
step_formed good k lits hints step is learnt = subst IsFormed (sym is) learnt.formed

pub step_allowed : (good : Judge) (k : State) (lits : List Literal) (hints : List ℕ) (step : CertStep) →
    step ≡ Learn lits hints → IsLearntStep good k lits hints → error_of good k step ≡ None
step_allowed good k lits hints step is learnt = let P : CertStep → Type 0 = λ x. error_of good k x ≡ None in
    subst P (sym is) learnt.allowed

pub step_taken : (k d : State) (lits : List Literal) (hints : List ℕ) (step : CertStep) →
    step ≡ Learn lits hints →
    d ≡ after k step → d ≡ after_learn k lits
step_taken k d lits hints step is taken = let P : CertStep → Type 0 = λ x. d ≡ after k x in subst P is taken

-- the step was put
pub learnt_puts : (gives : Gives) (old new : Checking) (learnt all : List ℕ) (lits : List Literal)
    (hints : List ℕ) (step : CertStep) →
    step ≡ Learn lits hints → IsLearntStep old.accepts old.checker lits hints →
    new.checker ≡ after old.checker step → all ≡ learnt ++ length new.checker.clauses ∷ [] →
    new.told.logs ≡ with_step step old.told.logs → Puts gives learnt all old new
learnt_puts gives old new learnt all lits hints step is step_is taken grown told =
    let P : CertStep → Type 0 = λ x. new.told.logs ≡ with_step x old.told.logs in
    let new_is : new.checker ≡ after_learn old.checker lits =
    step_taken old.checker new.checker lits hints step is taken in
    let last : length new.checker.clauses ≡ length old.checker.clauses + 1 =
    ap (λ (x : State). length x.clauses) new_is ∙ length_push old.checker.clauses (kept Learnt lits) in
    puts_learn gives old new learnt all lits hints step_is.formed step_is.allowed step_is.new new_is
    (grown ∙ ap (λ (n : ℕ). learnt ++ n ∷ []) last) (subst P is told)

pub learnt_left : (gives : Gives) (old new : Checking) (learnt : List ℕ) (lits : List Literal)
    (hints : List ℕ) (step : CertStep) →
    step ≡ Learn lits hints → IsLearntStep old.accepts old.checker lits hints →
    new.checker ≡ after old.checker step → new.told.logs ≡ with_step step old.told.logs →
    Leaves gives learnt old new
learnt_left gives old new learnt lits hints step is step_is taken told =
    let all = learnt ++ length new.checker.clauses ∷ [] in
    leaves_put gives old new learnt all
    (learnt_puts gives old new learnt all lits hints step is step_is taken refl told)

-- it was tried
pub learnt_tried : (gives : Gives) (old new : Checking) (learnt : List ℕ) (lits : List Literal)
    (hints : List ℕ) (step : CertStep) →
    step ≡ Learn lits hints → IsLearntStep old.accepts old.checker lits hints →
    IsTakenOrAsleep old.checker step new.checker → MayAddStep step old.told.logs new.told.logs →
    Leaves gives learnt old new
learnt_tried gives old new learnt lits hints step is step_is taken told =
    let P : CertStep → Type 0 = λ x. IsTakenOrAsleep old.checker x new.checker in
    let Q : CertStep → Type 0 = λ x. MayAddStep x old.told.logs new.told.logs in
    leaves_tried gives old new learnt lits hints step_is.formed step_is.allowed step_is.new
    (subst P is taken) (subst Q is told)
