-- Runs of programs without calls, and their outcomes.

use Rattle.std.specs.Prelude.{ℕ, ℤ, pos, Bool, List, [], ◌∷◌, length, replicate, slice_index_or, Ok, Err}
use Rattle.ba_numbers.specs.declared.ids.StmtId.{StmtId}
use Rattle.ba_choices.specs.declared.Choice.{Choice}
use Rattle.ba_code.specs.Meaning.{Setting, info_at, run_nodes}
use Rattle.ba_code.specs.Operators.{Operators, converting}
use Rattle.ba_code.specs.State.{CodeState, CodeEnding, with_variable, with_array}
use Rattle.ba_code.specs.declared.nodes.ArrayInfo.{ArrayInfo}
use Rattle.ba_code.specs.declared.nodes.Param.{Param}
use Rattle.ba_code.specs.declared.nodes.Param.TheVariants.{Var, Array}
use Rattle.ba_code.specs.declared.trees.BoundTree.{BoundTree}
use Rattle.ba_code.specs.declared.trees.Code.{Code}
use Rattle.ba_code.specs.declared.trees.LoopTree.{LoopTree}
use Rattle.ba_tree.specs.Meaning.{elements_with}
use Rattle.ba_tree.specs.Run.{if_none_left, outcome_of_halt}
use Rattle.ba_tree.specs.declared.run.Flow.{Flow}
use Rattle.ba_tree.specs.declared.run.Input.{Input}
use Rattle.ba_tree.specs.declared.run.Outcome.{Outcome}
use Rattle.ba_tree.specs.declared.run.Outcome.TheVariants.{Done}
use Rattle.ba_tree.specs.declared.run.Step.{Step}

-- the parts of code with loops
abbrev pub code_of_loops : LoopTree → Code
code_of_loops tree = record { vars = tree.vars; arrays = tree.arrays; params = tree.params; body = tree.body }

-- the parts of code without loops
abbrev pub code_of_bound : BoundTree → Code
code_of_bound tree = record { vars = tree.vars; arrays = tree.arrays; params = tree.params; body = tree.body }

-- all variables and all elements of arrays are 0
abbrev pub all_zero : List ArrayInfo → List Choice → CodeState
all_zero arrays choices = record {
  variables = λ n. pos 0;
  arrays = λ n. replicate (info_at arrays n).len (pos 0);
  choices = choices;
}

-- a parameter has what the input gives it
abbrev pub with_param : Param → List ℤ → CodeState → CodeState
with_param (Var n) zs s = with_variable n (slice_index_or zs 0 (pos 0)) s
with_param (Array n) zs s = with_array n (elements_with (length (s.arrays n)) zs) s

-- the parameters get the values of the input
abbrev pub with_params : List Param → List (List ℤ) → CodeState → CodeState
with_params [] given s = s
with_params (param ∷ params) [] s = s
with_params (param ∷ params) (zs ∷ given) s = with_params params given (with_param param zs s)

-- the state in which code begins: the input, and 0 elsewhere
abbrev pub start_of_code : Code → Input → List Choice → CodeState
start_of_code code input choices = with_params code.params input.values (all_zero code.arrays choices)

-- choices that are left over make the outcome wrong, however the run ended
abbrev pub outcome_of_end : CodeEnding (Flow ℕ) → Outcome
outcome_of_end (Ok flow, s) = if_none_left s.choices Done
outcome_of_end (Err h, s) = if_none_left s.choices (outcome_of_halt h)

-- what stays the same in a run of code
abbrev pub setting_of : Operators → Code → ℕ → (List Step → StmtId → Bool) → Setting
setting_of operators code turns relaxes =
    record { relaxes = relaxes; turns = turns; arrays = code.arrays; operators = operators }

-- the outcome of code with these operators
unfoldable pub outcome_with : Operators → Code → Input → ℕ → (List Step → StmtId → Bool) → List Choice →
    Outcome
outcome_with operators code input turns relaxes choices = outcome_of_end
    (run_nodes (setting_of operators code turns relaxes) code.body [] (start_of_code code input choices))

-- The outcome of a run on an input, with at most `turns` iterations of each entry of a loop, and with these
-- choices. What may be relaxed is given by the path to a statement, innermost step first. There is exactly
-- one outcome, since this is a function.
abbrev pub outcome_of_code : Code → Input → ℕ → (List Step → StmtId → Bool) → List Choice → Outcome
outcome_of_code = outcome_with converting
