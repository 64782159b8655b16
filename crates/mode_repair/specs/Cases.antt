-- A PROGRAM THAT FAILS on one input and passes others, and the answers before any search.

use Rattle.std.specs.Prelude.{◌≡◌, ℕ, true, Option, None, Some, List, [], ◌∷◌, map}
use Rattle.ba_answers.specs.declared.answers.Answer.{Answer}
use Rattle.ba_answers.specs.declared.answers.Answer.TheVariants as answer
use Rattle.ba_answers.specs.declared.file.File.TheVariants as file
use Rattle.ba_cases.specs.AtOnce.{at_once, first_answer, input_of, input_refusal, unfailing}
use Rattle.ba_cases.specs.Inputs.{inputs_of, inputs_refusal}
use Rattle.ba_inputs.specs.Weights.{weights_in}
use Rattle.ba_inputs.specs.declared.inputs.InputLine.{InputLine}
use Rattle.ba_tree.specs.Least.{AreWeightsOf, WeightList}
use Rattle.ba_tree.specs.Run.{fits, plain_run}
use Rattle.ba_tree.specs.declared.run.Bounds.{Bounds}
use Rattle.ba_tree.specs.declared.run.Input.{Input}
use Rattle.ba_tree.specs.declared.run.Outcome.{Outcome}
use Rattle.ba_tree.specs.declared.run.Outcome.TheVariants as outcome
use Rattle.ba_tree.specs.declared.tree.Program.{Program}
use Rattle.ba_tree_laws.specs.Spelling.{Spells}
use Rattle.mode_repair.specs.declared.cases.RepairCase.{RepairCase}
use Rattle.mode_repair.specs.declared.texts.RepairTexts.{RepairTexts}

-- THE INPUT on which the program is to fail
abbrev pub failing_input : RepairTexts → Program → Input
failing_input x p = input_of p x.failing

-- those on which it is to pass
abbrev pub passing_inputs : RepairTexts → Program → List InputLine
passing_inputs x p = inputs_of p x.passing

-- all of them, the failing one first
abbrev pub inputs_in : RepairTexts → Program → List Input
inputs_in x p = failing_input x p ∷ map (λ (entry : InputLine). entry.input) (passing_inputs x p)

-- the first refusal of their texts; there may be no passing input
abbrev pub inputs_answer : RepairTexts → Program → Option Answer
inputs_answer x p =
    first_answer (input_refusal file.Failing p x.failing ∷ inputs_refusal file.Passing 0 p x.passing ∷ [])

-- THE ANSWER OF THE RUNS. The one that is to fail doesn't, or exceeds a bound. Or the first of the others
-- isn't done: its line is told

-- that of a run on the input in this line, which is to be done
abbrev pub not_passing : ℕ → Outcome → Option Answer
not_passing line outcome.Done = None
not_passing line _ = Some (answer.PassingFails line)

-- that of the run on a passing input
abbrev pub passing_end : Bounds → Program → InputLine → Option Answer
passing_end bounds p entry = not_passing entry.line (plain_run p entry.input bounds)

-- that of the first run that isn't done
abbrev pub passing_ends : Bounds → Program → List InputLine → Option Answer
passing_ends bounds p inputs = first_answer (map (passing_end bounds p) inputs)

-- that of all runs, the failing one first
abbrev pub runs_answer : Bounds → RepairTexts → Program → Option Answer
runs_answer bounds x p = first_answer
    (unfailing p None (plain_run p (failing_input x p) bounds)
    ∷ passing_ends bounds p (passing_inputs x p) ∷ [])

-- THE ANSWER BEFORE ANY SEARCH
abbrev pub repair_answer : Bounds → RepairTexts → Program → Option Answer
repair_answer bounds x p = at_once (inputs_answer x p) x.weights bounds (runs_answer bounds x p) p

-- the weights of the statements
abbrev pub weights_of : Program → RepairTexts → WeightList
weights_of p x = weights_in p x.weights

-- the program, the inputs and the weights that the texts write, if there is no answer at once
pub record IsCaseOf (bounds : Bounds) (x : RepairTexts) (c : RepairCase) : Type 0 where
  pub spells : Spells x.program c.program
  pub failing : c.failing ≡ failing_input x c.program
  pub passing : c.passing ≡ passing_inputs x c.program
  pub fits : fits c.program c.failing ≡ true
  pub weights : c.weights.of ≡ weights_of c.program x
  pub weighed : AreWeightsOf c.program c.weights.of
  pub undecided : repair_answer bounds x c.program ≡ None
