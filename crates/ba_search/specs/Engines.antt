-- What calls of an engine leave, from one state to the next.

use Rattle.std.specs.Prelude.{◌≡◌, ℕ, ◌<◌, Bool, true, false, None, Some, Option, Result, IfOk, IfSome, IfNone, IsSome, OnOk, List}
use Rattle.ba_lits.specs.Literals.{Literal}
use Rattle.ba_watch.specs.Trails.{value_of}
use Rattle.ba_watch.specs.Propagation.{State as Watching, clause_in, is_false, lits_in}
use Rattle.ba_learn.specs.Live.{AreLive}
use Rattle.ba_checker.specs.Puts.{Checking}
use Rattle.ba_checker.specs.States.{State, clause_at}
use Rattle.ba_search.specs.Answers.{AreAssumptions, IsAnswer}
use Rattle.ba_search.specs.Iterations.{IsUnderway, MarksLive, iterations_left}
use Rattle.ba_search.specs.Searching.{Puts}
use Rattle.ba_search.specs.declared.engine.Engine.{Engine}
use Rattle.ba_search.specs.declared.search.Answer.{Answer}

-- no clause was learnt, no backtrack counted and no literal propagated
pub record LearnsNothing (old new : Engine) : Type 0 where
  pub learnt : new.numbers.learnt ≡ old.numbers.learnt
  pub backtracks : new.backtracks_left ≡ old.backtracks_left
  pub propagated : new.propagated ≡ old.propagated

-- an engine between two iterations of a search under assumptions, over the clauses of a log
abbrev pub IsAtWork : List Literal → Engine → Checking → Type 0
IsAtWork assumptions engine log = IsUnderway assumptions engine.watch engine.numbers log.checker

-- a bound on how many iterations are left
abbrev pub left_in : Engine → Checking → ℕ
left_in engine log = iterations_left log.checker engine.backtracks_left engine.watch

-- an engine may search under assumptions, over the clauses of a log
pub record MaySearch (assumptions : List Literal) (engine : Engine) (log : Checking) : Type 0 where
  pub numbered : MarksLive engine.watch.clauses engine.numbers.taken
  pub live : AreLive engine.watch.clauses (clause_at log.checker.clauses)
  pub begun : log.checker.ended ≡ false
  pub awake : log.checker.refused ≡ false
  pub fresh : log.refusal ≡ None
  pub may_assume : AreAssumptions log.checker.variables assumptions

-- a clause that is live and false
abbrev pub IsConflict : Watching → ℕ → Type 0
IsConflict watch clause = IsSome (clause_in watch.clauses clause)
    × (is_false (value_of watch.trail) (lits_in watch.clauses clause) ≡ true)

-- a search went on from one iteration to the next, over the same variables; Learn and Delete steps were put
pub record GoesOn (gives : ℕ → ℕ → Bool → Type 0) (assumptions : List Literal) (before after : Checking)
    (old new : Engine) : Type 0 where
  pub underway : IsAtWork assumptions new after
  pub variables : after.checker.variables ≡ before.checker.variables
  pub puts : Puts gives old.numbers.learnt new.numbers.learnt before after

-- a deletion counts no conflict
pub record CountsNone (before after : Checking) (old new : Engine) : Type 0 where
  pub backtracks : new.backtracks_left ≡ old.backtracks_left
  pub room : new.watch.variables ≡ old.watch.variables
  pub conflicts : after.checker.conflicts ≡ before.checker.conflicts
  pub budget : after.checker.budget ≡ before.checker.budget

-- what an iteration gives: an answer; or none, and then fewer iterations are left
abbrev pub ComesTo : List Literal → Checking → Engine → Checking → Engine → Option Answer → Type 0
ComesTo assumptions before old after new (Some answer) = IsAnswer after.checker assumptions answer
ComesTo assumptions before old after new None = left_in new after < left_in old before

-- a search between two iterations decided, and fewer iterations are left; or it is over, and the answer holds
pub record Decides {E : Type 0} (assumptions : List Literal) (c : State) (result : Result (Option Answer) E)
    (old new : Engine) : Type 0 where
  pub answer : IfOk result (λ found. IfSome found (IsAnswer c assumptions))
  pub less : IfOk result (λ found.
      IfNone found (iterations_left c new.backtracks_left new.watch
      < iterations_left c old.backtracks_left old.watch))
  pub underway : OnOk result (IsUnderway assumptions new.watch new.numbers c)
  pub numbers : new.numbers ≡ old.numbers
  pub propagated : new.propagated ≡ old.propagated
