-- THE ANSWER BEFORE ANY SEARCH: the first of four that is there. These are the refusals of the inputs, of the
-- weights and of the program for its size, and the end of its runs as written. It says nothing of a world.

use Rattle.std.specs.Prelude.{◌≡◌, ℕ, nat_lt, if◌then◌else◌, Bool, true, false, Option, None, Some, option_map, List, [], ◌∷◌, Result, Ok, Err}
use Rattle.ba_inputs.specs.Weights.{bad_line, weights_in}
use Rattle.ba_numbers.specs.declared.ids.At.{At}
use Rattle.ba_numbers.specs.declared.ids.StmtId.{StmtId}
use Rattle.ba_search.specs.declared.search.SearchError.{SearchError}
use Rattle.ba_search.specs.declared.search.SearchError.TheVariants as error
use Rattle.ba_tree.specs.Choices.{info_of}
use Rattle.ba_tree.specs.Inputs.{InputFault as TextFault, input_fault, input_values}
use Rattle.ba_tree.specs.Inputs as inputs
use Rattle.ba_tree.specs.Least.{WeightList}
use Rattle.ba_tree.specs.Run.{plain_run}
use Rattle.ba_tree.specs.Units.{units_of}
use Rattle.ba_tree.specs.declared.run.Bounds.{Bounds}
use Rattle.ba_tree.specs.declared.run.Input.{Input}
use Rattle.ba_tree.specs.declared.run.Outcome.{Outcome}
use Rattle.ba_tree.specs.declared.run.Outcome.TheVariants as outcome
use Rattle.ba_tree.specs.declared.tree.Program.{Program}
use Rattle.ba_tree.specs.declared.tree.StmtInfo.{StmtInfo}
use Rattle.ba_tree_laws.specs.Spelling.{Spells}
use Rattle.ba_answers.specs.declared.answers.Answer.{Answer}
use Rattle.ba_answers.specs.declared.answers.Answer.TheVariants as answer
use Rattle.ba_answers.specs.declared.answers.InputFault.{InputFault}
use Rattle.ba_answers.specs.declared.answers.InputFault.TheVariants as fault
use Rattle.ba_answers.specs.declared.fault.Fault.{Fault}
use Rattle.ba_answers.specs.declared.file.File.{File}
use Rattle.ba_answers.specs.declared.file.File.TheVariants as file
use Rattle.ba_cases.specs.Programs.{IsFault}
use Rattle.ba_cases.specs.declared.stop.Stop.{Stop}
use Rattle.ba_cases.specs.declared.stop.Stop.TheVariants as stop
use Rattle.ba_cases.specs.declared.texts.Texts.{Texts}

-- the limit on units of a program
abbrev pub unit_limit : ℕ
unit_limit = 20000

-- THE FOUR ANSWERS, each if there is one

-- the fault of an input as an answer names it
abbrev pub fault_of : TextFault → InputFault
fault_of (inputs.NotANumber number) = fault.NotANumber number
fault_of (inputs.OutOfRange number) = fault.OutOfRange number
fault_of inputs.WrongCount = fault.WrongCount

-- the refusal of a text as the one input that this file gives
abbrev pub input_refusal : File → Program → List ℕ → Option Answer
input_refusal which p text = option_map (λ f. answer.BadInput which (fault_of f) None) (input_fault p text)

-- the refusal of a text as weights
abbrev pub weights_refusal : List ℕ → Option Answer
weights_refusal text = option_map (λ line. answer.BadWeights line) (bad_line text)

-- the refusal of a program that is too large
abbrev pub size_refusal : Program → Bounds → Option Answer
size_refusal p bounds = if nat_lt unit_limit (units_of p bounds) then Some answer.TooLarge else None

-- the position of a statement
abbrev pub position_of : Program → StmtId → Option At
position_of p stmt = option_map (λ (info : StmtInfo). info.at) (info_of p stmt)

-- The answer for a run that had to fail: it doesn't, or exceeds a bound. If there are several inputs, the
-- line of this one is named.
abbrev pub unfailing : Program → Option ℕ → Outcome → Option Answer
unfailing p line outcome.Done = Some (answer.NotFailing line)
unfailing p line (outcome.Beyond stmt) = option_map (λ at. answer.BeyondBound at line) (position_of p stmt)
unfailing p line _ = None

-- an outcome is a failure: an assertion fails, or there is a trap
abbrev pub is_failure : Outcome → Bool
is_failure (outcome.AssertFails stmt) = true
is_failure (outcome.Trap stmt) = true
is_failure _ = false

-- THE FIRST OF THEM
abbrev pub first_answer : List (Option Answer) → Option Answer
first_answer [] = None
first_answer (None ∷ others) = first_answer others
first_answer (Some a ∷ others) = Some a

-- the answer before any search: the first of the refusals of inputs, weights and size, and of the ends of
-- runs
abbrev pub at_once : Option Answer → List ℕ → Bounds → Option Answer → Program → Option Answer
at_once inputs weights bounds runs p =
    first_answer (inputs ∷ weights_refusal weights ∷ size_refusal p bounds ∷ runs ∷ [])

-- the answer for one input, whose run has to fail

-- the input that a text writes
abbrev pub input_of : Program → List ℕ → Input
input_of p text = record { values = input_values p text }

-- the weights that the texts give
abbrev pub weights_of : Program → Texts → WeightList
weights_of p x = weights_in p x.weights

-- how the run as written ends
abbrev pub run_in : Bounds → Texts → Program → Outcome
run_in bounds x p = plain_run p (input_of p x.input) bounds

-- the answer before any search to a program with one input
abbrev pub case_answer : Bounds → Texts → Program → Option Answer
case_answer bounds x p =
    at_once (input_refusal file.Input p x.input) x.weights bounds (unfailing p None (run_in bounds x p)) p

-- A TEXT HAS AN ANSWER AT ONCE: it spells no program; or it spells a program that has this answer
pub data IsAtOnce (source : List ℕ) (first : Program → Option Answer) (a : Answer) : Type 0 where
  no_program : (f : Fault) → IsFault source f → a ≡ answer.BadProgram f → IsAtOnce source first a
  of_program : (p : Program) → Spells source p → first p ≡ Some a → IsAtOnce source first a

-- WHAT A STOP SAYS: the answer; out of memory says nothing

-- a stop with an answer is due; one out of memory says nothing
abbrev pub Tells : Stop → Option Answer → Type 0
Tells (stop.Answered a) due = due ≡ Some a
Tells stop.Memory due = Unit {0}

-- a stop with an answer is the answer at once of the program's text; one out of memory says nothing
abbrev pub IsStopped : List ℕ → (Program → Option Answer) → Stop → Type 0
IsStopped source first (stop.Answered a) = IsAtOnce source first a
IsStopped source first stop.Memory = Unit {0}

-- the stop says that the text spells no program
abbrev pub IsNoProgram : List ℕ → Stop → Type 0
IsNoProgram source (stop.Answered a) = (f : Fault) × IsFault source f × (a ≡ answer.BadProgram f)
IsNoProgram source stop.Memory = Unit {0}

-- the answer of a call that stops
abbrev pub IsAnswered : Stop → Result Answer SearchError → Type 0
IsAnswered (stop.Answered a) result = result ≡ Ok a
IsAnswered stop.Memory result = result ≡ Err error.Memory
