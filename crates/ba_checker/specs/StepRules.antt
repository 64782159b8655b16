-- Which steps are allowed, the first error of one that isn't, and the state after a step.

use Rattle.std.specs.Prelude.{◌≡◌, ℕ, ◌+◌, ◌==◌, ltb, Bool, true, false, not, ◌&&◌, Option, None, Some, unwrap_or, Result, Ok, Err, List, [], ◌∷◌, ◌++◌, map, length}
use Rattle.std.specs.List.{list_any, list_all}
use Rattle.ba_lits.specs.Literals.{Literal, negate}
use Rattle.ba_lits.specs.Satisfaction.{Soft}
use Rattle.ba_lits.specs.Hints.{Replay, Refutes, StaysOpen, NamesNone, NamesIdle, replay}
use Rattle.ba_choices.specs.Judges.{Judge}
use Rattle.ba_choices.specs.declared.Choice.{Choice}
use Rattle.ba_steps.specs.declared.step.CertStep.{CertStep}
use Rattle.ba_steps.specs.declared.step.CertStep.TheVariants.{Learn, Core, Delete, Block, EndLocated, EndNoRepair, EndTooMany, EndSpent}
use Rattle.ba_steps.specs.declared.step.StepError.{StepError}
use Rattle.ba_steps.specs.declared.step.StepError.TheVariants.{HintMissing, HintNotUnit, NotClosed, NotSofts, DeadClause, RunNotGood, SetTwice, WrongWeight, AfterEnd, NotNew, TooSoon, CoreAfterSet, WrongCount, BadVariable, Memory}
use Rattle.ba_checker.specs.Splits.{split_clauses, fresh_count, split_softs, is_soft, lightest, lowered}
use Rattle.ba_checker.specs.Parts.{holds_clause}
use Rattle.ba_checker.specs.Blocks.{lacks_group, is_among, set_weight, block_clause}
use Rattle.ba_checker.specs.States.{kept, State, clause_at, is_learnt_at, width_at, without_all}
use Rattle.ba_checker.specs.declared.store.Origin.TheVariants as origins

-- the error if the test holds, and else that of the later tests
abbrev pub error_if : Bool → StepError → Option StepError → Option StepError
error_if true error rest = Some error
error_if false error rest = rest

-- a literal's variable doesn't exist
abbrev pub lacks_variable : State → List Literal → Bool
lacks_variable s lits = list_any (λ (l : Literal). ltb s.variables l.variable) lits

-- the conflicts are spent
abbrev pub is_spent : State → Bool
is_spent s = s.conflicts == s.budget

-- a literal isn't the negation of a soft literal
abbrev pub lacks_soft : List Soft → List Literal → Bool
lacks_soft softs lits = list_any (λ (l : Literal). not (is_soft softs (negate l))) lits

-- the error of a clause, by how the replay of its hints ends
abbrev pub error_of_replay : Replay → Option StepError
error_of_replay Refutes = None
error_of_replay StaysOpen = Some NotClosed
error_of_replay NamesNone = Some HintMissing
error_of_replay NamesIdle = Some HintNotUnit

-- what is wrong with the hints of a clause
abbrev pub hint_error : State → List Literal → List ℕ → Option StepError
hint_error s lits hints = error_of_replay (replay (clause_at s.clauses) lits hints)

-- a test answers the first error of a step, except out of memory
abbrev pub Finds : Result Unit StepError → Option StepError → Type 0
Finds (Ok _) wanted = wanted ≡ None
Finds (Err Memory) wanted = Unit {0}
Finds (Err error) wanted = wanted ≡ Some error

-- the answer to a step: Ok, with the state after it; or its first error, with the state as before; or out of
-- memory
abbrev pub Does : State → State → Option StepError → State → Result Unit StepError → Type 0
Does old new wanted next (Ok _) = (wanted ≡ None) × (new ≡ next)
Does old new wanted next (Err Memory) = Unit {0}
Does old new wanted next (Err error) = (wanted ≡ Some error) × (new ≡ old)

-- the answer is that memory ran out
abbrev pub is_memory : Result Unit StepError → Bool
is_memory (Ok _) = false
is_memory (Err Memory) = true
is_memory (Err error) = false

-- a Delete step never answers out of memory
abbrev pub KeepsMemory : CertStep → Result Unit StepError → Type 0
KeepsMemory (Delete clauses) result = is_memory result ≡ false
KeepsMemory step result = Unit {0}

-- the first error of each step before the end
abbrev pub learn_error : State → List Literal → List ℕ → Option StepError
learn_error s lits hints =
    error_if (lacks_variable s lits) BadVariable
    (error_if (is_spent s) WrongCount
    (error_if (holds_clause s.clauses lits) NotNew
    (hint_error s lits hints)))

-- a clause may be learnt by some hints
abbrev pub MayBeLearnt : State → List Literal → Type 0
MayBeLearnt s lits = (hints : List ℕ) × (learn_error s lits hints ≡ None)

-- the first error of a Core step
abbrev pub core_error : State → List Literal → List ℕ → Option StepError
core_error s lits hints =
    error_if (lacks_variable s lits) BadVariable
    (error_if (is_spent s) WrongCount
    (error_if (ltb 0 (length s.sets)) CoreAfterSet
    (error_if (lacks_soft s.softs lits) NotSofts
    (hint_error s lits hints))))

-- a live clause of at least three literals that a Learn step made has the number
abbrev pub may_go : State → ℕ → Bool
may_go s number = is_learnt_at s.clauses number && ltb 2 (width_at s.clauses number)

-- how many clauses are learnt before a deletion, and between two
abbrev pub apart_by : ℕ
apart_by = 1000

-- the first error of a Delete step
abbrev pub delete_error : State → List ℕ → Option StepError
delete_error s numbers =
    error_if (not (list_all (may_go s) numbers)) DeadClause
    (error_if (ltb s.learnt apart_by) TooSoon None)

-- the first error of a Block step
abbrev pub block_error : Judge → State → List ℕ → List Choice → Option StepError
block_error good s groups run =
    error_if (lacks_group s.groups groups) BadVariable
    (error_if (is_among s.sets groups) SetTwice
    (error_if (not (set_weight s.groups groups == s.bound)) WrongWeight
    (error_if (not (good groups run)) RunNotGood None)))

-- the first error of the end of an enumeration
abbrev pub located_error : State → List Literal → List ℕ → Option StepError
located_error s lits hints =
    error_if (not (ltb 0 (length s.sets))) WrongCount
    (error_if (is_spent s) WrongCount
    (error_if (lacks_variable s lits) BadVariable
    (error_if (lacks_soft s.softs lits) NotSofts
    (hint_error s lits hints))))

-- the first error of an end without a repair
abbrev pub no_repair_error : State → List ℕ → Option StepError
no_repair_error s hints =
    error_if (ltb 0 (length s.sets)) WrongCount
    (error_if (is_spent s) WrongCount
    (hint_error s [] hints))

-- the blocked sets are one more than allowed
abbrev pub are_too_many : State → Bool
are_too_many s = length s.sets == s.most_sets + 1

-- the first error of an end with too many sets
abbrev pub too_many_error : State → Option StepError
too_many_error s = error_if (not (are_too_many s)) WrongCount None

-- the first error of an end with spent conflicts
abbrev pub spent_error : State → Option StepError
spent_error s = error_if (not (is_spent s)) WrongCount None

-- the first error of a step, if no End step came before
abbrev pub error_before_end : Judge → State → CertStep → Option StepError
error_before_end good s (Learn lits hints) = learn_error s lits hints
error_before_end good s (Core lits hints) = core_error s lits hints
error_before_end good s (Delete clauses) = delete_error s clauses
error_before_end good s (Block groups run) = block_error good s groups run
error_before_end good s (EndLocated lits hints) = located_error s lits hints
error_before_end good s (EndNoRepair hints) = no_repair_error s hints
error_before_end good s EndTooMany = too_many_error s
error_before_end good s EndSpent = spent_error s

-- the first error of a step; None exactly if it is allowed
abbrev pub error_of : Judge → State → CertStep → Option StepError
error_of good s step = error_if s.refused Memory (error_if s.ended AfterEnd (error_before_end good s step))

-- the state after a clause was learnt
abbrev pub after_learn : State → List Literal → State
after_learn s lits = record s {
  clauses = s.clauses ++ kept origins.Learnt lits ∷ [];
  conflicts = s.conflicts + 1;
  learnt = s.learnt + 1;
}

-- the state after a core was split; the bound rises by the least weight of its soft literals, which lose that
-- weight
abbrev pub after_core : State → List Literal → State
after_core s lits = let w = unwrap_or (lightest lits s.softs) 0 in record s {
  variables = s.variables + fresh_count (length lits);
  clauses = s.clauses ++ (kept origins.Core lits
      ∷ map (kept origins.Split) (split_clauses (s.variables + 1) lits));
  softs = lowered lits w s.softs ++ split_softs w (s.variables + 1) lits;
  bound = s.bound + w;
  conflicts = s.conflicts + 1;
}

-- the state after clauses were deleted
abbrev pub after_delete : State → List ℕ → State
after_delete s numbers = record s { clauses = without_all s.clauses numbers; learnt = 0 }

-- the state after a set was blocked
abbrev pub after_block : State → List ℕ → State
after_block s groups = record s {
  clauses = s.clauses ++ kept origins.Blocked (block_clause s.groups groups) ∷ [];
  sets = s.sets ++ groups ∷ [];
}

-- the state after an allowed step
abbrev pub after : State → CertStep → State
after s (Learn lits hints) = after_learn s lits
after s (Core lits hints) = after_core s lits
after s (Delete clauses) = after_delete s clauses
after s (Block groups run) = after_block s groups
after s (EndLocated lits hints) = record s { ended = true }
after s (EndNoRepair hints) = record s { ended = true }
after s EndTooMany = record s { ended = true }
after s EndSpent = record s { ended = true }

-- the state after steps, each of which is allowed
abbrev pub next_if : Option StepError → Option State → Option State
next_if None next = next
next_if (Some error) next = None

-- the state after these steps, None if one of them is not allowed
abbrev pub after_all : Judge → State → List CertStep → Option State
after_all good s [] = Some s
after_all good s (step ∷ steps) = next_if (error_of good s step) (after_all good (after s step) steps)

-- A checker's answer to a step. If memory runs out, nothing is said of the rest of its state.
abbrev pub Answers : Judge → State → CertStep → State → Result Unit StepError → Type 0
Answers good old step new (Ok _) = (error_of good old step ≡ None) × (new ≡ after old step)
Answers good old step new (Err Memory) = new.refused ≡ true
Answers good old step new (Err error) = (error_of good old step ≡ Some error) × (new ≡ old)
