-- What unrolling keeps.

use Rattle.std.specs.Prelude.{◌≡◌, ℕ, Bool, List}
use Rattle.ba_choices.specs.declared.Choice.{Choice}
use Rattle.ba_code.specs.Run.{code_of_bound, code_of_loops, outcome_of_code}
use Rattle.ba_code.specs.declared.trees.BoundTree.{BoundTree}
use Rattle.ba_code.specs.declared.trees.LoopTree.{LoopTree}
use Rattle.ba_numbers.specs.declared.ids.StmtId.{StmtId}
use Rattle.ba_tree.specs.declared.run.Input.{Input}
use Rattle.ba_tree.specs.declared.run.Step.{Step}

-- The tree without loops has the outcomes of the other tree with at most `turns` iterations of each entry of
-- a loop. This holds for every input, for all that may be relaxed, for all choices, and whatever bound the
-- tree without loops is run with.
pub record HasOutcomes (made : BoundTree) (tree : LoopTree) (turns : ℕ) : Type 0 where
  pub same : (input : Input) (own : ℕ) (relaxes : List Step → StmtId → Bool) (choices : List Choice)
      → outcome_of_code (code_of_bound made) input own relaxes choices
      ≡ outcome_of_code (code_of_loops tree) input turns relaxes choices
