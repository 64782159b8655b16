-- The variables at the start of a run, and those that the code has for them.

use Rattle.std.specs.Prelude.{◌≡◌, ℕ, ◌≤◌, pos, Some, List, [], ◌∷◌, length, replicate, slice_get}
use Rattle.ba_code.specs.Meaning.{info_at}
use Rattle.ba_code.specs.State.{CodeState}
use Rattle.ba_code.specs.Types.{Types}
use Rattle.ba_code.specs.declared.nodes.ArrayInfo.{ArrayInfo}
use Rattle.ba_code.specs.declared.nodes.Operand.TheVariants as operand
use Rattle.ba_code.specs.declared.nodes.Param.{Param}
use Rattle.ba_code.specs.declared.nodes.Param.TheVariants as code
use Rattle.ba_inline.specs.Arrays.{IsArrayOf}
use Rattle.ba_inline.specs.Declarations.{BeginsWith, Grows}
use Rattle.ba_inline.specs.Names.{IsScope, Names, seen}
use Rattle.ba_inline.specs.declared.declared.Counts.{Counts}
use Rattle.ba_numbers.specs.declared.ids.VarId.{VarId}
use Rattle.ba_tree.specs.Meaning.{type_of, variable_of}
use Rattle.ba_tree.specs.Run.{begin_all}
use Rattle.ba_tree.specs.declared.tree.Program.{Program}
use Rattle.ba_tree.specs.declared.tree.Shape.TheVariants.{Value, Array}

-- the variables of the code from these declarations on are 0, and so are the elements of its arrays from
-- there on
pub record IsClear (infos : List ArrayInfo) (low : Types) (t : CodeState) : Type 0 where
  pub variables : (n : ℕ) → length low.vars ≤ n → t.variables n ≡ pos 0
  pub arrays : (n : ℕ) → length low.arrays ≤ n → t.arrays n ≡ replicate (info_at infos n).len (pos 0)

-- These variables of the program get new variables of the code. If those are 0, the names show the program's
-- state after the variables began.
pub record Starts (p : Program) (names inner : Names) (vs : List VarId) (low high : Types) : Type 0 where
  pub grows : Grows low high
  pub scope : IsScope p names low → IsScope p inner high
  pub begins : (arrays : List ArrayInfo) (t : CodeState) → BeginsWith high.arrays arrays →
      IsClear arrays low t
      → begin_all p vs (seen names t) ≡ seen inner t

-- PARAMETERS of main

-- the parameter is a value, in this variable of the code
pub record IsValueParam (p : Program) (names : Names) (low : Counts) (high : Types) (v : VarId) (n : ℕ) :
    Type 0 where
  pub shape : (variable_of p v).shape ≡ Value
  pub found : slice_get names.values v.0 ≡ Some (operand.Var n)
  pub is_own : low.vars ≤ n
  pub same_type : slice_get high.vars n ≡ Some (type_of p v)

-- the parameter is an array, in this array of the code
pub record IsArrayParam (p : Program) (names : Names) (low : Counts) (high : Types) (v : VarId) (n : ℕ) :
    Type 0 where
  pub count : ℕ
  pub shape : (variable_of p v).shape ≡ Array count
  pub is_own : low.arrays ≤ n
  pub array : IsArrayOf p names high v n

-- The code has its own variable or array for the parameter, which keeps to its type. Those of main come after
-- these counts.
abbrev pub IsParam : Program → Names → Counts → Types → VarId → Param → Type 0
IsParam p names low high v (code.Var n) = IsValueParam p names low high v n
IsParam p names low high v (code.Array n) = IsArrayParam p names low high v n

-- the parameters of `main` are these parameters of the code, in order
abbrev pub AreParams : Program → Names → Counts → Types → List VarId → List Param → Type 0
AreParams p names low high [] [] = Unit {0}
AreParams p names low high [] (q ∷ qs) = ⊥
AreParams p names low high (v ∷ vs) [] = ⊥
AreParams p names low high (v ∷ vs) (q ∷ qs) = IsParam p names low high v q × AreParams p names low high vs qs
