-- What a contract sees of a search, and the steps that it puts.

use Rattle.std.specs.Prelude.{◌≡◌, ℕ, ◌+◌, ◌-◌, ◌⊎◌, Bool, false, Option, None, Some, Result, Err, IfErr, OnOk, List, [], ◌∷◌, ◌++◌, ◌<◌, ◌≤◌, All, length, get_or, map}
use Rattle.ba_lits.specs.Formulas.{Cnf}
use Rattle.ba_lits.specs.Literals.{Literal}
use Rattle.ba_watch.specs.Threads.{Clause}
use Rattle.ba_watch.specs.Propagation.{clause_in}
use Rattle.ba_learn.specs.Live.{AreLive, HaveDistinctNumbers, IsSame, IsNew}
use Rattle.ba_steps.specs.Sinks.{HasFault, Told}
use Rattle.ba_steps.specs.Steps.{IsFormed}
use Rattle.ba_steps.specs.declared.step.CertStep.{CertStep}
use Rattle.ba_steps.specs.declared.step.CertStep.TheVariants.{Learn, Delete}
use Rattle.ba_checker.specs.States.{State, clause_at, kept, width_at}
use Rattle.ba_checker.specs.declared.store.Origin.TheVariants.{Given}
use Rattle.ba_choices.specs.Judges.{Judge}
use Rattle.ba_checker.specs.StepRules.{error_of, after}
use Rattle.ba_checker.specs.Puts.{Checking, Lasts, LeavesSteps, PutsSteps}
use Rattle.ba_search.specs.Answers.{AreAssumptions}
use Rattle.ba_search.specs.declared.search.SearchError.{SearchError}
use Rattle.ba_search.specs.declared.search.SearchError.TheVariants.{SinkFailed}

-- A SEARCH between calls:
-- - its variables, and its live clauses by reference
-- - the numbers of the clauses that it learnt, in order, the deleted ones too
-- - its rules
-- - the error that it answers from now on
-- - how many literals propagation has assigned
pub record Searching (R : Type 0) : Type 0 where
  pub variables : ℕ
  pub clauses : List (Option Clause)
  pub learnt : List ℕ
  pub rules : R
  pub failure : Option SearchError
  pub propagated : ℕ

-- A search starts. It has the clauses of the formula, with numbers from 1 on, has learnt none, and has
-- answered no error.
pub record Starts {R : Type 0} (formula : Cnf) (search : Searching R) : Type 0 where
  pub clauses : AreLive search.clauses (clause_at (map (kept Given) formula.clauses))
  pub variables : search.variables ≡ formula.variables
  pub alone : HaveDistinctNumbers search.clauses
  pub learnt : search.learnt ≡ []
  pub fresh : search.failure ≡ None
  pub propagated : search.propagated ≡ 0

-- each live clause of a search is a live clause of the checker with the same number; the order of literals
-- may differ
abbrev pub ArePart : List (Option Clause) → (ℕ → Option (List Literal)) → Type 0
ArePart clauses live = (reference : ℕ) (c : Clause) → clause_in clauses reference ≡ Some c →
    IsSame (live c.number) c.lits

-- a rule that discards nothing
abbrev pub nothing : ℕ → ℕ → Bool → Type 0
nothing width age kept = ⊥

-- the keep rule has discarded a clause, by its width and by how many were learnt after it
pub record IsDiscarded (gives : ℕ → ℕ → Bool →
    Type 0) (s : State) (learnt : List ℕ) (number : ℕ) : Type 0 where
  pub place : ℕ
  pub within : place < length learnt
  pub at : get_or learnt place 0 ≡ number
  pub rule : gives (width_at s.clauses number) (length learnt - 1 - place) false

-- Learn and Delete steps lead from one state of a checker to another, while the numbers of the learnt clauses
-- grow. Each step is formed and allowed. Each learnt clause is new to propagation for the clauses that are
-- live at that moment. Each deleted clause was discarded by the keep rule.
pub data Searches (good : Judge) (gives : ℕ → ℕ → Bool → Type 0) : State → List ℕ → List CertStep → State →
    List ℕ → Type 0 where
  searches_none : (s : State) (learnt : List ℕ) → Searches good gives s learnt [] s learnt
  searches_learn : (s t : State) (learnt all : List ℕ) (lits : List Literal) (hints : List ℕ)
      (steps : List CertStep) →
      IsFormed (Learn lits hints) → error_of good s (Learn lits hints) ≡ None →
      IsNew (clause_at s.clauses) lits →
      Searches good gives (after s (Learn lits hints)) (learnt ++ (length s.clauses + 1) ∷ []) steps t all →
      Searches good gives s learnt (Learn lits hints ∷ steps) t all
  searches_delete : (s t : State) (learnt all : List ℕ) (numbers : List ℕ) (steps : List CertStep) →
      IsFormed (Delete numbers) → error_of good s (Delete numbers) ≡ None →
      All (IsDiscarded gives s learnt) numbers →
      Searches good gives (after s (Delete numbers)) learnt steps t all →
      Searches good gives s learnt (Delete numbers ∷ steps) t all

-- what such steps leave, also after an error, whatever was learnt
abbrev pub Leaves : (ℕ → ℕ → Bool → Type 0) → List ℕ → Checking → Checking → Type 0
Leaves gives learnt old new =
    LeavesSteps (λ steps t. (all : List ℕ) × Searches old.accepts gives old.checker learnt steps t all)
    old.told.logs new.checker new.told.logs

-- such steps were put, while the numbers of the learnt clauses grew to these
abbrev pub Puts : (ℕ → ℕ → Bool → Type 0) → List ℕ → List ℕ → Checking → Checking → Type 0
Puts gives learnt all old new =
    PutsSteps (λ steps. Searches old.accepts gives old.checker learnt steps new.checker all)
    old.told.logs new.told.logs

-- a sink that failed has had a fault
abbrev pub IsCaused : {X : Type 0} → Result X SearchError → Told → Told → Type 0
IsCaused result old new = result ≡ Err SinkFailed → HasFault old new

-- What a call leaves besides its steps. The log lasts. The sink failed only if its faults rose. If the call
-- succeeds no step was refused.
pub record Ran {X : Type 0} (result : Result X SearchError) (old new : Checking) : Type 0 where
  pub lasts : Lasts old new
  pub cause : IsCaused result old.told new.told
  pub fresh : OnOk result (new.refusal ≡ None)

-- The same for a call of a search. It keeps its rules, and its count of propagations doesn't fall. The sink
-- failed only if its faults rose, or if the search had answered so before.
pub record RanSearch {R X : Type 0} (result : Result X SearchError) (before after : Searching R)
    (old new : Checking) : Type 0 where
  pub lasts : Lasts old new
  pub cause : result ≡ Err SinkFailed → (before.failure ≡ Some SinkFailed) ⊎ HasFault old.told new.told
  pub rules_stay : after.rules ≡ before.rules
  pub propagated : before.propagated ≤ after.propagated

-- a search may go on with a log: neither answers an error from now on, and both have the same live clauses
pub record MayGoOn {R : Type 0} (search : Searching R) (log : Checking) : Type 0 where
  pub working : search.failure ≡ None
  pub fresh : log.refusal ≡ None
  pub same : AreLive search.clauses (clause_at log.checker.clauses)

-- A search may be asked for a model under assumptions. Neither search nor log answers an error, and both have
-- the same live clauses. The checker has not ended, and the assumptions are of different variables of it.
pub record MaySolve {R : Type 0} (assumptions : List Literal) (search : Searching R) (log : Checking) : Type 0
  where
    pub same : AreLive search.clauses (clause_at log.checker.clauses)
    pub begun : log.checker.ended ≡ false
    pub awake : log.checker.refused ≡ false
    pub fresh : log.refusal ≡ None
    pub may_assume : AreAssumptions log.checker.variables assumptions

-- after a search was asked for a model: it may go on, its clauses have different numbers, and the checker has
-- not ended
pub record HasSolved {R : Type 0} (search : Searching R) (log : Checking) : Type 0 where
  pub goes_on : MayGoOn search log
  pub alone : HaveDistinctNumbers search.clauses
  pub stays_begun : log.checker.ended ≡ false
  pub awake : log.checker.refused ≡ false

-- an error is kept, and answered from then on
pub record KeepsError {R X : Type 0} (result : Result X SearchError) (before after : Searching R) : Type 0
  where
    pub fresh : OnOk result (before.failure ≡ None)
    pub keeps : IfErr result (λ error. after.failure ≡ Some error)
    pub again : (error : SearchError) → before.failure ≡ Some error → (result ≡ Err error) × (after ≡ before)

-- the rules, the learnt numbers and the count of propagations stay
pub record StaysIdle {R : Type 0} (before after : Searching R) : Type 0 where
  pub rules_stay : after.rules ≡ before.rules
  pub learnt : after.learnt ≡ before.learnt
  pub propagated : after.propagated ≡ before.propagated

-- the search has the live clauses of the log, whose numbers differ, and answers no error
pub record HasTaken {R : Type 0} (search : Searching R) (log : Checking) : Type 0 where
  pub same : AreLive search.clauses (clause_at log.checker.clauses)
  pub alone : HaveDistinctNumbers search.clauses
  pub stays_fresh : search.failure ≡ None
