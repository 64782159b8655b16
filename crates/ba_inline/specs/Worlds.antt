-- What stays the same in a run of a program and of its code, and is the same for both.

use Rattle.std.specs.Prelude.{◌≡◌, ℕ, Option, List, length}
use Rattle.ba_numbers.specs.declared.numbers.CType.{CType}
use Rattle.ba_code.specs.Meaning.{Setting, info_at}
use Rattle.ba_code.specs.Operators.{plain}
use Rattle.ba_code.specs.State.{CodeState}
use Rattle.ba_code.specs.Types.{Types}
use Rattle.ba_code.specs.declared.nodes.ArrayInfo.{ArrayInfo}
use Rattle.ba_inline.specs.Declarations.{BeginsWith}
use Rattle.ba_tree.specs.Choices.{admits}
use Rattle.ba_tree.specs.Meaning.{Context}
use Rattle.ba_tree.specs.Run.{call_at}
use Rattle.ba_tree.specs.declared.run.Allowed.{Allowed}
use Rattle.ba_tree.specs.declared.tree.Program.{Program}

-- what may be relaxed, the bound on iterations, and all arrays of the code
pub record World : Type 0 where
  pub allowed : Allowed
  pub turns : ℕ
  pub arrays : List ArrayInfo

-- what stays the same in a run of the code in this world
unfoldable pub code_setting : Program → World → Setting
code_setting p w = record {
  relaxes = admits p w.allowed;
  turns = w.turns;
  arrays = w.arrays;
  operators = plain;
}

-- the context in a function that returns this type, if this number of frames may still begin
unfoldable pub context_with : Program → World → Option CType → ℕ → Context
context_with p w result frames = record {
  program = p;
  allowed = w.allowed;
  turns = w.turns;
  result = result;
  calls = call_at p w.allowed w.turns frames;
}

-- the arrays of the code are those declared so far and more, each with as many elements as declared
pub record IsReady (w : World) (declared : Types) (t : CodeState) : Type 0 where
  pub known : BeginsWith declared.arrays w.arrays
  pub sized : (n : ℕ) → length (t.arrays n) ≡ (info_at w.arrays n).len
