-- THE ANSWERS BEFORE ANY SEARCH of a program on several inputs, each of which is searched by itself.

use Rattle.std.specs.Prelude.{◌≡◌, true, Option, None, All}
use Rattle.ba_answers.specs.declared.answers.Answer.{Answer}
use Rattle.ba_answers.specs.declared.file.File.TheVariants as file
use Rattle.ba_cases.specs.AtOnce.{at_once}
use Rattle.ba_cases.specs.Inputs.{ends_answer, inputs_of, inputs_refusal}
use Rattle.ba_cases.specs.declared.texts.Texts.{Texts}
use Rattle.ba_inputs.specs.Weights.{weights_in}
use Rattle.ba_inputs.specs.declared.inputs.InputLine.{InputLine}
use Rattle.ba_tree.specs.Least.{AreWeightsOf}
use Rattle.ba_tree.specs.Run.{fits}
use Rattle.ba_tree.specs.declared.run.Bounds.{Bounds}
use Rattle.ba_tree.specs.declared.tree.Program.{Program}
use Rattle.ba_tree_laws.specs.Spelling.{Spells}
use Rattle.mode_rank.specs.declared.runs.Runs.{Runs}

-- THE ANSWER BEFORE ANY SEARCH
abbrev pub rank_answer : Bounds → Texts → Program → Option Answer
rank_answer bounds x p = at_once (inputs_refusal file.Inputs 1 p x.input) x.weights bounds
    (ends_answer bounds p (inputs_of p x.input)) p

-- the program, the inputs and the weights that the texts write, if there is no answer at once
pub record AreRunsOf (bounds : Bounds) (x : Texts) (c : Runs) : Type 0 where
  pub spells : Spells x.program c.program
  pub inputs : c.inputs ≡ inputs_of c.program x.input
  pub fit : All (λ (entry : InputLine). fits c.program entry.input ≡ true) c.inputs
  pub weights : c.weights.of ≡ weights_in c.program x.weights
  pub weighed : AreWeightsOf c.program c.weights.of
  pub undecided : rank_answer bounds x c.program ≡ None
