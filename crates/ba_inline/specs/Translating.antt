-- What holds of the code of a whole program before it is tested.

use Rattle.std.specs.Prelude.{◌≡◌, ℕ, true, List, map}
use Rattle.ba_choices.specs.declared.Choice.{Choice}
use Rattle.ba_code.specs.Operators.{plain}
use Rattle.ba_code.specs.Run.{outcome_with, start_of_code}
use Rattle.ba_code.specs.Types.{KeepsTypes, Types, all_typed, is_typed}
use Rattle.ba_code.specs.declared.nodes.Node.{Node}
use Rattle.ba_code.specs.declared.nodes.Param.{Param}
use Rattle.ba_code.specs.declared.trees.Code.{Code}
use Rattle.ba_tree.specs.Choices.{admits}
use Rattle.ba_tree.specs.Run.{fits, run_of}
use Rattle.ba_tree.specs.declared.run.Allowed.{Allowed}
use Rattle.ba_tree.specs.declared.run.Input.{Input}
use Rattle.ba_tree.specs.declared.tree.Program.{Program}

-- the parts with this number of variables
abbrev pub code_with : ℕ → Types → List Param → List Node → Code
code_with vars declared params body =
    record { vars = vars; arrays = declared.arrays; params = params; body = body }

-- With plain operators the nodes have the outcomes of the program. At the start all variables have numbers of
-- their types.
pub record IsTranslation (p : Program) (frames : ℕ) (declared : Types) (params : List Param) (body : List
    Node) : Type 0 where
  pub outcomes : (vars : ℕ) (input : Input) (turns : ℕ) (allowed : Allowed) (choices : List Choice)
      → outcome_with plain (code_with vars declared params body) input turns (admits p allowed) choices
      ≡ run_of p input (record { turns = turns; frames = frames }) allowed choices
  pub begins : (vars : ℕ) (input : Input) (choices : List Choice) → fits p input ≡ true
      → KeepsTypes declared (start_of_code (code_with vars declared params body) input choices)

-- each variable and each array keeps to its type
abbrev pub IsTyped : Types → List Node → Type 0
IsTyped declared body = all_typed (map (is_typed declared) body) ≡ true
