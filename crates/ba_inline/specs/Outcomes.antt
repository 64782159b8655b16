-- A program without calls that has the outcomes of a program.

use Rattle.std.specs.Prelude.{◌≡◌, ℕ, true, List}
use Rattle.ba_choices.specs.declared.Choice.{Choice}
use Rattle.ba_code.specs.Run.{code_of_loops, outcome_of_code}
use Rattle.ba_code.specs.declared.trees.LoopTree.{LoopTree}
use Rattle.ba_tree.specs.Choices.{admits}
use Rattle.ba_tree.specs.Run.{fits, run_of}
use Rattle.ba_tree.specs.declared.run.Allowed.{Allowed}
use Rattle.ba_tree.specs.declared.run.Input.{Input}
use Rattle.ba_tree.specs.declared.tree.Program.{Program}

-- The tree has the outcome of the program with at most `frames` frames active. This holds for all inputs that
-- fit main, all bounds on iterations, all that may be relaxed, and all choices.
abbrev pub HasOutcomes : Program → ℕ → LoopTree → Type 0
HasOutcomes p frames tree = (input : Input) (turns : ℕ) (allowed : Allowed) (choices : List Choice)
    → fits p input ≡ true
    → outcome_of_code (code_of_loops tree) input turns (admits p allowed) choices
    ≡ run_of p input (record { turns = turns; frames = frames }) allowed choices
