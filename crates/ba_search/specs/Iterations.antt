-- A search under way.

use Rattle.std.specs.Prelude.{◌≡◌, ◌≢◌, ℕ, ◌+◌, ◌-◌, ◌*◌, ◌^◌, ◌<◌, ◌≤◌, ◌==◌, ◌||◌, Bool, true, false, Option, None, Some, Result, Ok, Err, ◌⊎◌, List, [], ◌∷◌, ◌++◌, All, length, get_or, take}
use Rattle.ba_lits.specs.Literals.{Literal, lit_at}
use Rattle.ba_lits.specs.Hints.{has_literal}
use Rattle.ba_watch.specs.Threads.{Clause}
use Rattle.ba_watch.specs.Trails.{value_of}
use Rattle.ba_watch.specs.Propagation.{State as Watching, clause_in, AddsClause}
use Rattle.ba_checker.specs.States.{State, clause_at}
use Rattle.ba_checker.specs.StepRules.{may_go}
use Rattle.ba_learn.specs.Live.{AreLive, HaveDistinctNumbers}
use Rattle.ba_learn.specs.Resolving.{number_at}
use Rattle.std.specs.List.{list_all, Contains}
use Rattle.ba_steps.specs.Steps.{AreNumbers, AreAbove}
use Rattle.ba_search.specs.Searching.{ArePart, IsDiscarded}
use Rattle.ba_steps.specs.declared.sink.SinkError.{SinkError}
use Rattle.ba_steps.specs.declared.sink.SinkError.TheVariants as refusals
use Rattle.ba_search.specs.declared.search.SearchError.{SearchError}
use Rattle.ba_search.specs.declared.search.SearchError.TheVariants.{SinkFailed, Memory}

-- the numbers of clauses: those marked as taken, and those that were learnt, in order
pub record Numbering : Type 0 where
  pub taken : List Bool
  pub learnt : List ℕ

-- a live clause has the number
pub record HasNumber (clauses : List (Option Clause)) (number : ℕ) : Type 0 where
  pub reference : ℕ
  pub clause : Clause
  pub there : clause_in clauses reference ≡ Some clause
  pub named : clause.number ≡ number

-- the marked numbers are those of the live clauses, no two of which have the same
pub record MarksLive (clauses : List (Option Clause)) (taken : List Bool) : Type 0 where
  pub each : (number : ℕ) → get_or taken number false ≡ true → HasNumber clauses number
  pub marked : (reference : ℕ) (c : Clause) → clause_in clauses reference ≡ Some c →
      get_or taken c.number false ≡ true
  pub alone : HaveDistinctNumbers clauses

-- the reasons of the first `n` literals of the trail are marked by their numbers, if there is room for their
-- marks
abbrev pub MarksReasons : Watching → ℕ → List Bool → Type 0
MarksReasons s count marks = (p : ℕ) → p < count → get_or marks (number_at s p) true ≡ true

-- only the reasons of the literals from one trail index up to another are marked
abbrev pub MarksOnly : Watching → ℕ → ℕ → List Bool → Type 0
MarksOnly s first last marks = (number : ℕ) → get_or marks number false ≡ true →
    (p : ℕ) × (first ≤ p) × (p < last) × (number_at s p ≡ number)

-- no literal of the trail has the clause of a number as its reason
abbrev pub IsNoReason : Watching → ℕ → Type 0
IsNoReason s number =
    (p reference : ℕ) (c : Clause) → p < length s.reasons → get_or s.reasons p None ≡ Some reference →
    clause_in s.clauses reference ≡ Some c → c.number ≢ number

-- the same, and the live clauses are among those of a function from numbers to clauses
pub record AreTaken (clauses : List (Option Clause)) (taken : List Bool) (live : ℕ →
    Option (List Literal)) : Type 0 where
  pub numbered : MarksLive clauses taken
  pub part : ArePart clauses live

-- all live clauses of that function with numbers up to one are there
abbrev pub AreThere : List (Option Clause) → ℕ → (ℕ → Option (List Literal)) → Type 0
AreThere clauses last live =
    (number : ℕ) → number ≤ last → (given : List Literal) → live number ≡ Some given →
    HasNumber clauses number

-- one more number is marked
abbrev pub MarksOne : List Bool → List Bool → ℕ → Type 0
MarksOne old new number = (k : ℕ) → get_or new k false ≡ ((k == number) || get_or old k false)

-- the marks of some numbers are cleared
pub record Forgets (numbers : List ℕ) (old new : List Bool) : Type 0 where
  pub gone : (number : ℕ) → Contains numbers number → get_or new number false ≡ false
  pub stays : (number : ℕ) → (Contains numbers number → ⊥) → get_or new number false ≡ get_or old number false

-- a clause was added under a number
pub record AddsOne (s t : Watching) (old new : Numbering) (number : ℕ) (lits : List Literal) : Type 0 where
  pub clause : ℕ
  pub adds : AddsClause s t clause lits number
  pub marks : MarksOne old.taken new.taken number
  pub learnt : new.learnt ≡ old.learnt
  pub few : number < 2 ^ 62

-- a clause was added under a number, and it was learnt
pub record LearnsOne (s t : Watching) (old new : Numbering) (number : ℕ) (lits : List Literal) : Type 0 where
  pub clause : ℕ
  pub adds : AddsClause s t clause lits number
  pub marks : MarksOne old.taken new.taken number
  pub learnt : new.learnt ≡ old.learnt ++ number ∷ []
  pub few : number < 2 ^ 62

-- the numbers of learnt clauses that the keep rule has discarded and that aren't marked, strictly ascending
pub record AreDiscarded (gives : ℕ → ℕ → Bool →
    Type 0) (c : State) (marks : List Bool) (learnt numbers : List ℕ) : Type 0 where
  pub numbers_are : AreNumbers numbers
  pub ascends : AreAbove 0 numbers
  pub go : list_all (may_go c) numbers ≡ true
  pub discarded : All (IsDiscarded gives c learnt) numbers
  pub no_reasons : All (λ n. get_or marks n true ≡ false) numbers

-- the literals are true under a trail
abbrev pub AreTrue : List Literal → List Literal → Type 0
AreTrue trail lits = (k : ℕ) → k < length lits → value_of trail (lit_at lits k) ≡ Some true

-- a literal may be decided after a trail: its variable exists, and it is an assumption, or all assumptions
-- are true
pub record IsDecision (variables : ℕ) (assumptions trail : List Literal) (lit : Literal) : Type 0 where
  pub within : lit.variable ≤ variables
  pub given : (has_literal lit assumptions ≡ true) ⊎ AreTrue trail assumptions

-- each literal that was decided might have been a decision
abbrev pub AreDecisions : ℕ → List Literal → List Literal → List (Option ℕ) → Type 0
AreDecisions variables assumptions trail reasons =
    (p : ℕ) → p < length trail → get_or reasons p None ≡ None →
    IsDecision variables assumptions (take p trail) (lit_at trail p)

-- a search between two iterations: its clauses are the checker's
pub record IsUnderway (assumptions : List Literal) (s : Watching) (numbers : Numbering) (c : State) : Type 0
  where
    pub numbered : MarksLive s.clauses numbers.taken
    pub live : AreLive s.clauses (clause_at c.clauses)
    pub few : length c.clauses < 2 ^ 62
    pub room : c.variables ≤ s.variables
    pub decisions : AreDecisions c.variables assumptions s.trail s.reasons
    pub begun : c.ended ≡ false
    pub awake : c.refused ≡ false

-- The measure of a search: a conflict counts for 1001 iterations, of which 1000 may backtrack later. A
-- decision is an iteration before the next conflict.
abbrev pub iterations_left : State → ℕ → Watching → ℕ
iterations_left c backtracks s = (1001 * (c.budget - c.conflicts) + backtracks) * (s.variables + 1)
    + (s.variables - length s.trail)

-- the error of an answer
abbrev pub failure_of : {X : Type 0} → Result X SearchError → Option SearchError
failure_of (Ok x) = None
failure_of (Err error) = Some error

-- the error of a search whose sink refuses
abbrev pub error_of_sink : SinkError → SearchError
error_of_sink refusals.Failed = SinkFailed
error_of_sink refusals.Memory = Memory
