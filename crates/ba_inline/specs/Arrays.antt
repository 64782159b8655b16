-- The code's array for an array variable.

use Rattle.std.specs.Prelude.{◌≡◌, ℕ, Some, slice_get}
use Rattle.ba_code.specs.Types.{Types}
use Rattle.ba_code.specs.declared.nodes.ArrayInfo.{ArrayInfo}
use Rattle.ba_inline.specs.Names.{Names, array_of}
use Rattle.ba_numbers.specs.declared.ids.VarId.{VarId}
use Rattle.ba_tree.specs.Meaning.{type_of}
use Rattle.ba_tree.specs.declared.tree.Program.{Program}

-- the array is that of the variable, is declared, and has elements of the variable's type
pub record IsArrayOf (p : Program) (names : Names) (declared : Types) (array : VarId) (n : ℕ) : Type 0 where
  pub info : ArrayInfo
  pub found : array_of names array ≡ Some n
  pub is_declared : slice_get declared.arrays n ≡ Some info
  pub same_type : info.t ≡ type_of p array
