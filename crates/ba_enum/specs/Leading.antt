-- Steps that lead from one state of a checker to another, and the sets that they block.

use Rattle.std.specs.Prelude.{◌≡◌, ℕ, Bool, true, false, None, Some, Result, OnOk, OnErr, List, [], ◌∷◌, ◌++◌, length, All, nat_eq}
use Rattle.std.specs.Cmp.Lexicographic.{pointwise}
use Rattle.std.specs.List.{IsDistinct, list_all}
use Rattle.ba_derivations.specs.Derivations.{blocked_by, sets_of}
use Rattle.ba_derivations.specs.Encodings.{HasModelFor, false_groups}
use Rattle.ba_derivations.specs.declared.verdict.FoundSet.{FoundSet}
use Rattle.ba_encode.specs.Readings.{choices_read, is_in_range}
use Rattle.ba_encode.specs.Softs.{softs_of}
use Rattle.ba_encode.specs.declared.encoded.Encoded.{Encoded}
use Rattle.ba_learn.specs.Live.{IsNew}
use Rattle.ba_lits.specs.Formulas.{Cnf}
use Rattle.ba_lits.specs.Satisfaction.{all_true, assignment_of, Soft, cost}
use Rattle.ba_search.specs.Searching.{Ran}
use Rattle.ba_search.specs.declared.search.SearchError.{SearchError}
use Rattle.ba_steps.specs.Sinks.{Logs, MayAddStep, with_step}
use Rattle.ba_steps.specs.Steps.{IsFormed}
use Rattle.ba_steps.specs.declared.step.CertStep.{CertStep}
use Rattle.ba_steps.specs.declared.step.CertStep.TheVariants.{Learn, Core, Delete, Block, EndLocated, EndNoRepair, EndTooMany, EndSpent}
use Rattle.ba_checker.specs.Blocks.{block_clauses}
use Rattle.ba_checker.specs.Facts.{IsStart}
use Rattle.ba_choices.specs.Judges.{Judge}
use Rattle.ba_checker.specs.StepRules.{after, after_all, after_block}
use Rattle.ba_checker.specs.Puts.{Checking, IsTakenOrAsleep, LeavesSteps, PutsSteps}
use Rattle.ba_checker.specs.States.{State, clause_at, first_state, present}

-- the clause of a Learn step is new to propagation for the clauses that are live in the state
abbrev pub IsNewIn : State → CertStep → Type 0
IsNewIn s (Learn lits hints) = IsNew (clause_at s.clauses) lits
IsNewIn s (Core lits hints) = Unit {0}
IsNewIn s (Delete clauses) = Unit {0}
IsNewIn s (Block groups run) = Unit {0}
IsNewIn s (EndLocated lits hints) = Unit {0}
IsNewIn s (EndNoRepair hints) = Unit {0}
IsNewIn s EndTooMany = Unit {0}
IsNewIn s EndSpent = Unit {0}

-- each learnt clause is new to propagation when it is learnt
abbrev pub AreNew : State → List CertStep → Type 0
AreNew s [] = Unit {0}
AreNew s (step ∷ steps) = IsNewIn s step × AreNew (after s step) steps

-- Each step is allowed in turn, is formed, and learns only what is new. The blocked sets are these, each that
-- of a model of the formula.
pub record Leads (good : Judge) (formula : Cnf) (softs : List Soft) (old : State) (steps : List CertStep)
    (new : State)
    (found : List FoundSet) : Type 0 where
  pub formed : All IsFormed steps
  pub reaches : after_all good old steps ≡ Some new
  pub news : AreNew old steps
  pub blocks : blocked_by steps ≡ found
  pub models : All (HasModelFor formula softs) (sets_of found)

-- the state is reached from the start, and these sets were blocked on the way
pub record IsReached (good : Judge) (formula : Cnf) (softs : List Soft) (s : State)
    (found : List FoundSet) : Type 0 where
  pub start : IsStart formula softs
  pub conflicts : ℕ
  pub most_sets : ℕ
  pub steps : List CertStep
  pub leads : Leads good formula softs (first_state formula softs conflicts most_sets) steps s found

-- what allowed steps leave, also after an error
abbrev pub LeavesBetween : Judge → State → Logs → State → Logs → Type 0
LeavesBetween good old old_logs new new_logs =
    LeavesSteps (λ steps s. after_all good old steps ≡ Some s) old_logs new new_logs

-- what calls leave between two states of a log of proofs
abbrev pub Leaves : Checking → Checking → Type 0
Leaves old new = LeavesBetween old.accepts old.checker old.told.logs new.checker new.told.logs

-- values of all variables that satisfy the formula and the clauses of all blocked sets, and cost the bound
pub record IsNext (formula : Cnf) (softs : List Soft) (s : State) (values : List Bool) : Type 0 where
  pub all : length values ≡ s.variables
  pub satisfies : all_true (assignment_of values) formula.clauses ≡ true
  pub unblocked : all_true (assignment_of values) (block_clauses softs s.sets) ≡ true
  pub costs : cost (assignment_of values) (present softs) ≡ s.bound

-- a checker that takes Block steps and End steps
pub record IsReady (s : State) : Type 0 where
  pub begun : s.ended ≡ false
  pub awake : s.refused ≡ false

-- OVER AN ENCODING, whose groups are the soft literals, and a log

-- the steps so far have reached these sets
abbrev pub HasReached : Encoded → Checking → List FoundSet → Type 0
HasReached encoded log = IsReached log.accepts encoded.formula (softs_of encoded.groups) log.checker

-- the values of a next model over the encoding
abbrev pub IsNextModel : Encoded → Checking → List Bool → Type 0
IsNextModel encoded log = IsNext encoded.formula (softs_of encoded.groups) log.checker

-- a log that takes Block steps and End steps
pub record MayPut (log : Checking) : Type 0 where
  pub ready : IsReady log.checker
  pub fresh : log.refusal ≡ None

-- an allowed step was put, or it was tried
pub record PutsAllowed (step : CertStep) (result : Result Unit SearchError) (old new : Checking) : Type 0
  where
    pub taken : OnOk result (new.checker ≡ after old.checker step)
    pub told : OnOk result (new.told.logs ≡ with_step step old.told.logs)
    pub awake : OnOk result (new.checker.refused ≡ false)
    pub taken_or_asleep : OnErr result (IsTakenOrAsleep old.checker step new.checker)
    pub refused : OnErr result (MayAddStep step old.told.logs new.told.logs)
    pub ran : Ran result old new

-- such steps were put, which block these sets
abbrev pub Puts : Encoded → List FoundSet → Checking → Checking → Type 0
Puts encoded found old new =
    PutsSteps (λ steps. Leads old.accepts encoded.formula (softs_of encoded.groups) old.checker steps
    new.checker
    found) old.told.logs new.told.logs

-- what is blocked: the set of a model, with the run that is read from it
pub record IsRead (encoded : Encoded) (values : List Bool) (set : FoundSet) : Type 0 where
  pub groups : set.groups ≡ false_groups (assignment_of values) (softs_of encoded.groups)
  pub run : set.run ≡ choices_read (assignment_of values) encoded.places
  pub in_range : list_all is_in_range set.run ≡ true

-- a set was blocked, and added to those found
pub record BlocksSet (encoded : Encoded) (old new : Checking) (old_found new_found : List FoundSet) : Type 0
  where
    pub set : FoundSet
    pub puts : Puts encoded (set ∷ []) old new
    pub taken : new.checker ≡ after_block old.checker set.groups
    pub found : new_found ≡ old_found ++ set ∷ []

-- sets were blocked, and added to those found
pub record AddsSets (encoded : Encoded) (old new : Checking) (old_found new_found : List FoundSet) : Type 0
  where
    pub more : List FoundSet
    pub puts : Puts encoded more old new
    pub found : new_found ≡ old_found ++ more

-- the blocked sets are these, and they differ
pub record HasFound (log : Checking) (found : List FoundSet) : Type 0 where
  pub sets : log.checker.sets ≡ sets_of found
  pub differ : IsDistinct (pointwise nat_eq) (sets_of found)
