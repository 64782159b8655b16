-- The turns of the search for all least sets.

use Rattle.std.specs.Prelude.{◌≡◌, ℕ, ◌+◌, ◌<◌, ◌≤◌, List, [], length}
use Rattle.ba_cores.specs.Rounds.{literals_of}
use Rattle.ba_derivations.specs.declared.verdict.FoundSet.{FoundSet}
use Rattle.ba_encode.specs.declared.encoded.Encoded.{Encoded}
use Rattle.ba_enum.specs.Leading.{AddsSets, HasReached, IsNextModel, IsReady}
use Rattle.ba_enum.specs.declared.endings.End.{End}
use Rattle.ba_enum.specs.declared.endings.End.TheVariants.{NoModel, TooMany, NoMore, Spent}
use Rattle.ba_enum.specs.declared.task.Task.{Task}
use Rattle.ba_enum.specs.declared.turns.Next.{Next}
use Rattle.ba_enum.specs.declared.turns.Next.TheVariants as nexts
use Rattle.ba_lits.specs.Hints.{FollowsByHints}
use Rattle.ba_lits.specs.Literals.{Literal}
use Rattle.ba_lits.specs.Satisfaction.{Soft}
use Rattle.ba_search.specs.Answers.{IsCore}
use Rattle.ba_search.specs.Searching.{MayGoOn, Searching}
use Rattle.ba_search.specs.declared.search.Answer.{Answer}
use Rattle.ba_search.specs.declared.search.Answer.TheVariants as answers
use Rattle.ba_steps.specs.Steps.{AreNumbers}
use Rattle.ba_checker.specs.Puts.{Checking}
use Rattle.ba_checker.specs.States.{State, clause_at}

-- the clause of a core after which no further set is of least weight
pub record IsLast (s : State) (found : List FoundSet) (lits : List Literal) (hints : List ℕ)
    (back : ℕ) : Type 0 where
  pub core : IsCore s (literals_of s.softs) lits hints back
  pub some : 0 < length found
  pub few : length found ≤ s.most_sets

-- why the search ends in a state in which these sets are found
abbrev pub IsEnd : State → List FoundSet → End → Type 0
IsEnd s found (NoModel hints) =
    FollowsByHints (clause_at s.clauses) [] hints × AreNumbers hints × (s.conflicts < s.budget) × (found ≡ [])
IsEnd s found TooMany = length found ≡ s.most_sets + 1
IsEnd s found (NoMore core) = IsLast s found core.lits core.hints core.back
IsEnd s found Spent = s.conflicts ≡ s.budget

-- what the answer of a search means for the next turn
abbrev pub next_of : Answer → Next
next_of (answers.Model m) = nexts.Model m
next_of (answers.Core core) = nexts.End (NoMore core)
next_of answers.Spent = nexts.End Spent

-- What a turn gives: a model of a further set, if no more sets are found than may be listed; or the end.
abbrev pub ComesTo : Encoded → Checking → List FoundSet → Next → Type 0
ComesTo encoded log found (nexts.Model m) =
    IsNextModel encoded log m.values × (length found ≤ log.checker.most_sets)
ComesTo encoded log found (nexts.End end) = IsEnd log.checker found end

-- a task over an encoding, which assumes these soft literals and may list this many sets
pub record IsTask (over : Encoded) (most : ℕ) (softs : List Soft) (task : Task) : Type 0 where
  pub encoded : task.encoded.now ≡ over
  pub assumptions : task.assumptions.items ≡ literals_of softs
  pub sets : task.sets ≡ most

-- A search is between two turns of a task. It may go on, these sets were blocked, the present soft literals
-- are assumed, and no more sets are found than may be listed.
pub record Stands {R : Type 0} (task : Task) (found : List FoundSet) (search : Searching R) (log : Checking) :
    Type 0 where
  pub goes_on : MayGoOn search log
  pub reached : HasReached task.encoded.now log found
  pub assumed : task.assumptions.items ≡ literals_of log.checker.softs
  pub listed : log.checker.most_sets ≡ task.sets
  pub few : length found ≤ task.sets
  pub ready : IsReady log.checker

-- a turn has blocked one more set, and the search may go on under the same soft literals
pub record HasTurned {R : Type 0} (encoded : Encoded) (old_found found : List FoundSet) (search : Searching R)
    (old log : Checking) : Type 0 where
  pub goes_on : MayGoOn search log
  pub adds : AddsSets encoded old log old_found found
  pub one_more : length found ≡ length old_found + 1
  pub ready : IsReady log.checker
  pub softs_stay : log.checker.softs ≡ old.checker.softs
