-- A CASE: a program with an input whose run fails, and the weights of its statements.

use Rattle.std.specs.Prelude.{◌≡◌, None, true}
use Rattle.ba_inputs.specs.Weights.{weights_in}
use Rattle.ba_tree.specs.Least.{AreWeightsOf}
use Rattle.ba_tree.specs.Run.{fits}
use Rattle.ba_tree.specs.declared.run.Bounds.{Bounds}
use Rattle.ba_tree_laws.specs.Spelling.{Spells}
use Rattle.ba_cases.specs.AtOnce.{case_answer, input_of}
use Rattle.ba_cases.specs.declared.cases.Case.{Case}
use Rattle.ba_cases.specs.declared.texts.Texts.{Texts}

-- the program, the input and the weights that the texts write, if there is no answer at once
pub record IsCaseOf (bounds : Bounds) (x : Texts) (c : Case) : Type 0 where
  pub spells : Spells x.program c.program
  pub input : c.input ≡ input_of c.program x.input
  pub fits : fits c.program c.input ≡ true
  pub weights : c.weights.of ≡ weights_in c.program x.weights
  pub weighed : AreWeightsOf c.program c.weights.of
  pub undecided : case_answer bounds x c.program ≡ None
