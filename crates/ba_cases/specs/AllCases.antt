-- SEVERAL INPUTS TAKEN TOGETHER: a program with inputs on each of which it fails, and the weights of its
-- statements.

use Rattle.std.specs.Prelude.{◌≡◌, ◌≢◌, ℕ, ◌*◌, nat_lt, if◌then◌else◌, true, Option, None, Some, List, [], ◌∷◌, length, map, All}
use Rattle.ba_answers.specs.declared.answers.Answer.{Answer}
use Rattle.ba_answers.specs.declared.answers.Answer.TheVariants as answer
use Rattle.ba_answers.specs.declared.file.File.TheVariants as file
use Rattle.ba_cases.specs.AtOnce.{first_answer, unit_limit, weights_refusal}
use Rattle.ba_cases.specs.Inputs.{ends_answer, inputs_of, inputs_refusal}
use Rattle.ba_cases.specs.declared.all_cases.CaseOfAll.{CaseOfAll}
use Rattle.ba_cases.specs.declared.texts.Texts.{Texts}
use Rattle.ba_inputs.specs.Weights.{weights_in}
use Rattle.ba_inputs.specs.declared.inputs.InputLine.{InputLine}
use Rattle.ba_tree.specs.Least.{AreWeightsOf}
use Rattle.ba_tree.specs.Run.{fits, plain_run}
use Rattle.ba_tree.specs.Units.{units_of}
use Rattle.ba_tree.specs.declared.run.Bounds.{Bounds}
use Rattle.ba_tree.specs.declared.run.Input.{Input}
use Rattle.ba_tree.specs.declared.run.Outcome.TheVariants as outcome
use Rattle.ba_tree.specs.declared.tree.Program.{Program}
use Rattle.ba_tree_laws.specs.Spelling.{Spells}

-- the inputs that a text writes, in the order of its lines
abbrev pub inputs_in : Program → List ℕ → List Input
inputs_in p text = map (λ (entry : InputLine). entry.input) (inputs_of p text)

-- the refusal of a program that is too large where it is taken once for each of so many inputs
abbrev pub size_refusal_of_all : Program → Bounds → ℕ → Option Answer
size_refusal_of_all p bounds count =
    if nat_lt unit_limit (units_of p bounds * count) then Some answer.TooLarge else None

-- THE ANSWER BEFORE ANY SEARCH: the first that is there of four. Three are the refusals of the inputs, of the
-- weights and of the size. The fourth is the answer of the first run that doesn't fail.
abbrev pub all_answer : Bounds → Texts → Program → Option Answer
all_answer bounds x p = first_answer (
    inputs_refusal file.Inputs 1 p x.input ∷ weights_refusal x.weights
    ∷ size_refusal_of_all p bounds (length (inputs_of p x.input))
    ∷ ends_answer bounds p (inputs_of p x.input) ∷ []
    )

-- the program that a text spells, the inputs that one writes for it, and the weights of its statements. There
-- is no answer at once: there is an input, and each run fails
pub record IsCaseOfAll (bounds : Bounds) (x : Texts) (c : CaseOfAll) : Type 0 where
  pub spells : Spells x.program c.program
  pub inputs : c.inputs ≡ inputs_in c.program x.input
  pub some : c.inputs ≢ []
  pub fit : All (λ (input : Input). fits c.program input ≡ true) c.inputs
  pub weights : c.weights.of ≡ weights_in c.program x.weights
  pub weighed : AreWeightsOf c.program c.weights.of
  pub failing : All (λ (input : Input). plain_run c.program input bounds ≢ outcome.Done) c.inputs
  pub undecided : all_answer bounds x c.program ≡ None
