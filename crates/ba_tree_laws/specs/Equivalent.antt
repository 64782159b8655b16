-- Programs that mean the same.

use Rattle.std.specs.Prelude.{◌≡◌, ◌↔◌, ℕ, List}
use Rattle.ba_choices.specs.declared.Choice.{Choice}
use Rattle.ba_tree.specs.Inputs.{input_fault, input_values}
use Rattle.ba_tree.specs.Least.{AreWeightsOf, WeightList, judge_of, unit_weights}
use Rattle.ba_tree.specs.Run.{fits, run_of}
use Rattle.ba_tree.specs.Units.{units_of}
use Rattle.ba_tree.specs.declared.run.Allowed.{Allowed}
use Rattle.ba_tree.specs.declared.run.Bounds.{Bounds}
use Rattle.ba_tree.specs.declared.run.Input.{Input}
use Rattle.ba_tree.specs.declared.tree.Program.{Program}

-- The definitions say the same of both programs:
-- - their numbered statements and their units
-- - their runs, and which of them are good
-- - the inputs that they take, and the texts of these
-- - the weights of their statements
pub record AreEquivalent (p q : Program) : Type 0 where
  pub statements : p.statements ≡ q.statements
  pub units : (b : Bounds) → units_of p b ≡ units_of q b
  pub runs : (i : Input) (b : Bounds) (allowed : Allowed) (choices : List Choice)
      → run_of p i b allowed choices ≡ run_of q i b allowed choices
  pub judges : (i : Input) (b : Bounds) → judge_of p i b ≡ judge_of q i b
  pub inputs : (i : Input) → fits p i ≡ fits q i
  pub input_faults : (text : List ℕ) → input_fault p text ≡ input_fault q text
  pub input_numbers : (text : List ℕ) → input_values p text ≡ input_values q text
  pub usual_weights : unit_weights p ≡ unit_weights q
  pub weights : (weights : WeightList) → AreWeightsOf p weights ↔ AreWeightsOf q weights
