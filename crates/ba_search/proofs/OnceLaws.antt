-- No clause of at most two literals is learnt twice.

use Rattle.std.proofs.Common.{◌≡◌, ℕ, ◌+◌, ◌≤◌, None, Some, List, [], ◌∷◌, ◌++◌, length, refl, sym, ap, ◌∙◌}
use Rattle.ba_lits.specs.Literals.{Literal}
use Rattle.ba_lits.proofs.Members.{has_literal-at}
use Rattle.ba_learn.specs.Live.{IsNew}
use Rattle.ba_learn.proofs.NewLaws.{contains_none}
use Rattle.ba_steps.specs.Steps.{IsFormed}
use Rattle.ba_steps.specs.declared.step.CertStep.{CertStep}
use Rattle.ba_steps.specs.declared.step.CertStep.TheVariants.{Learn, Core, Delete, Block, EndLocated, EndNoRepair, EndTooMany, EndSpent}
use Rattle.ba_checker.specs.States.{Kept, State, kept, clause_at}
use Rattle.ba_checker.specs.declared.store.Origin.TheVariants.{Learnt}
use Rattle.ba_choices.specs.Judges.{Judge}
use Rattle.ba_checker.specs.StepRules.{error_of, after_delete}
use Rattle.ba_search.specs.Searching.{Searches, searches_none, searches_learn, searches_delete}
use Rattle.ba_search.proofs.StepLaws.{Gives}
use Rattle.ba_search.proofs.DeletionLaws.{all_go, stays_without}
use Rattle.ba_search.proofs.LearnLaws.{clause_apart}
use Rattle.ba_search.proofs.TakenLaws.{clause_at-end, clause_at-more, number_within}

-- the clause of the first step, and the steps after it
abbrev clause_of : CertStep → List Literal
clause_of (Learn lits hints) = lits
clause_of (Core lits hints) = lits
clause_of (Block groups run) = []
clause_of (EndLocated lits hints) = []
clause_of (EndNoRepair hints) = []
clause_of EndTooMany = []
clause_of EndSpent = []
clause_of (Delete numbers) = []

abbrev first_clause : List CertStep → List Literal
first_clause [] = []
first_clause (step ∷ steps) = clause_of step

abbrev first_step : List CertStep → CertStep
first_step [] = EndSpent
first_step (step ∷ steps) = step

-- a deletion learns nothing
no_learn : (numbers : List ℕ) (lits : List Literal) (hints : List ℕ) → Delete numbers ≡ Learn lits hints → ⊥
no_learn numbers lits hints e = cc e

abbrev later : List CertStep → List CertStep
later [] = []
later (step ∷ steps) = steps

-- a live clause is not new
not_new : (live : ℕ → _) (lits : List Literal) (hints : List ℕ) (n : ℕ) → IsFormed (Learn lits hints) →
    IsNew live lits → live n ≡ Some lits → ⊥
not_new live lits hints n formed new is =
    contains_none live lits new n lits is (clause_apart _ lits formed.0.0)
    (λ k within. has_literal-at lits k within)

-- a live clause stays live if another is added
still : (cs : List Kept) (x : Kept) (n : ℕ) (lits : List Literal) → clause_at cs n ≡ Some lits →
    clause_at (cs ++ x ∷ []) n ≡ Some lits
still cs x n lits is = clause_at-more cs (x ∷ []) n (number_within cs n lits is).1 ∙ is

-- and if others are deleted, if it has at most two literals
spared : (good : Judge) (s : State) (numbers : List ℕ) (n : ℕ) (lits : List Literal) →
    error_of good s (Delete numbers) ≡ None →
    clause_at s.clauses n ≡ Some lits → length lits ≤ 2 →
    clause_at (after_delete s numbers).clauses n ≡ Some lits
spared good s numbers n lits allowed is narrow =
    stays_without s numbers n lits is narrow (all_go good s numbers allowed)

-- so it isn't learnt
not_again : {good : Judge} {gives : Gives} {s t : State} {learnt all : List ℕ} {steps : List CertStep} →
    Searches good gives s learnt steps t all → (n : ℕ) (lits : List Literal) → length lits ≤ 2 →
    clause_at s.clauses n ≡ Some lits →
    (between after : List CertStep) (hints : List ℕ) → steps ≡ between ++ Learn lits hints ∷ after → ⊥
not_again (searches_none s learnt) n lits narrow is [] after hints e = cc e
not_again (searches_none s learnt) n lits narrow is (step ∷ between) after hints e = cc e
not_again (searches_learn s t learnt all c hs steps formed allowed new rest) n lits narrow is [] after hints
    e =
    not_new (clause_at s.clauses) c hs n formed new (is
    ∙ ap (λ (c : List Literal). Some c) (sym (ap first_clause e)))
not_again (searches_learn s t learnt all c hs steps formed allowed new rest) n lits narrow is (step
    ∷ between) after hints e =
    not_again rest n lits narrow (still s.clauses (kept Learnt c) n lits is) between after hints (ap later e)
not_again (searches_delete s t learnt all numbers steps formed allowed given rest) n lits narrow is [] after
    hints e =
    absurd (no_learn numbers lits hints (ap first_step e))
not_again {good = good} (searches_delete s t learnt all numbers steps formed allowed given rest) n lits
    narrow is (step ∷ between) after hints e =
    not_again rest n lits narrow (spared good s numbers n lits allowed is narrow) between after hints
    (ap later e)

pub not_twice : {good : Judge} {gives : Gives} {s t : State} {learnt all : List ℕ} {steps : List CertStep} →
    Searches good gives s learnt steps t all →
    (before between after : List CertStep) (lits : List Literal) (first second : List ℕ) → length lits ≤ 2 →
    steps ≡ before ++ Learn lits first ∷ (between ++ Learn lits second ∷ after) → ⊥
not_twice (searches_none s learnt) [] between after lits first second narrow e = cc e
not_twice (searches_none s learnt) (step ∷ before) between after lits first second narrow e = cc e
not_twice (searches_learn s t learnt all c hs steps formed allowed new rest) [] between after lits first
    second narrow e =
    not_again rest (length s.clauses + 1) lits narrow
    (clause_at-end s.clauses c (length s.clauses + 1) refl
    ∙ ap (λ (c : List Literal). Some c) (ap first_clause e))
    between after second (ap later e)
not_twice (searches_learn s t learnt all c hs steps formed allowed new rest) (step ∷ before) between after
    lits first second narrow e =
    not_twice rest before between after lits first second narrow (ap later e)
not_twice (searches_delete s t learnt all numbers steps formed allowed given rest) [] between after lits
    first second narrow e =
    absurd (no_learn numbers lits first (ap first_step e))
not_twice (searches_delete s t learnt all numbers steps formed allowed given rest) (step ∷ before) between
    after lits first second narrow e =
    not_twice rest before between after lits first second narrow (ap later e)
