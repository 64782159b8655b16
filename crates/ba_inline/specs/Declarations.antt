-- The declarations that inlining makes: variables with their types, and arrays.

use Rattle.std.specs.Prelude.{◌≡◌, ◌≤◌, List, [], ◌∷◌, ◌++◌, length}
use Rattle.ba_numbers.specs.declared.numbers.CType.{CType}
use Rattle.ba_code.specs.Types.{Types}
use Rattle.ba_code.specs.declared.nodes.ArrayInfo.{ArrayInfo}

-- one more variable
abbrev pub with_var : CType → Types → Types
with_var t declared = record declared { vars = declared.vars ++ t ∷ [] }

-- one more array
abbrev pub with_array_info : ArrayInfo → Types → Types
with_array_info info declared = record declared { arrays = declared.arrays ++ info ∷ [] }

-- the list begins with another
pub record BeginsWith {A : Type 0} (first whole : List A) : Type 0 where
  pub rest : List A
  pub is : whole ≡ first ++ rest

-- later declarations keep earlier ones
pub record Grows (low high : Types) : Type 0 where
  pub vars : length low.vars ≤ length high.vars
  pub arrays : BeginsWith low.arrays high.arrays
