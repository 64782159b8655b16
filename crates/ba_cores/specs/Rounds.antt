-- The rounds of the search for the least cost.

use Rattle.std.specs.Prelude.{◌≡◌, ℕ, ◌+◌, ◌-◌, ◌<◌, not, ltb, false, Option, None, Some, List, [], map, filter}
use Rattle.ba_lits.specs.Literals.{Literal}
use Rattle.ba_lits.specs.Satisfaction.{Soft}
use Rattle.ba_checker.specs.States.{State, clause_at}
use Rattle.ba_checker.specs.Puts.{Checking, PutsSteps}
use Rattle.ba_learn.specs.Live.{AreLive}
use Rattle.ba_search.specs.Searching.{MayGoOn, Searching}
use Rattle.ba_cores.specs.Derivations.{Derives}
use Rattle.ba_cores.specs.Findings.{IsFound}
use Rattle.ba_cores.specs.declared.costs.Found.{Found}

-- the soft literals without their weights
abbrev pub literals_of : List Soft → List Literal
literals_of softs = map (λ (s : Soft). s.0) softs

-- the soft literals of at least a weight
abbrev pub heavy : ℕ → List Soft → List Soft
heavy weight softs = filter (λ (s : Soft). not (ltb s.1 weight)) softs

-- a checker that still takes Core steps
pub record IsReady (s : State) : Type 0 where
  pub begun : s.ended ≡ false
  pub awake : s.refused ≡ false
  pub none_blocked : s.sets ≡ []

-- Learn, Delete and Core steps were put
abbrev pub Puts : Checking → Checking → Type 0
Puts old new = PutsSteps (λ steps. Derives old.accepts old.checker steps new.checker) old.told.logs
    new.told.logs

-- they were put, and the search may go on
pub record HasPut {R : Type 0} (search : Searching R) (old new : Checking) : Type 0 where
  pub goes_on : MayGoOn search new
  pub puts : Puts old new

-- A search for the least cost may start with a log. Both have the same live clauses, no step was refused, and
-- no set is blocked.
pub record MayStart {R : Type 0} (search : Searching R) (log : Checking) : Type 0 where
  pub same : AreLive search.clauses (clause_at log.checker.clauses)
  pub fresh : log.refusal ≡ None
  pub ready : IsReady log.checker

-- a search is between two rounds: it may go on, and the checker still takes Core steps
pub record Stands {R : Type 0} (search : Searching R) (log : Checking) : Type 0 where
  pub goes_on : MayGoOn search log
  pub ready : IsReady log.checker

-- What a round gives: what is found; or nothing, and then fewer conflicts are left, or lighter soft literals
-- are assumed. The two numbers are the least assumed weights before and after.
abbrev pub EndsRound : Checking → Checking → ℕ → ℕ → Option Found → Type 0
EndsRound old new before next (Some found) = IsFound old new found
EndsRound old new before next None =
    (new.checker.budget - new.checker.conflicts) + next < (old.checker.budget - old.checker.conflicts) +
    before
