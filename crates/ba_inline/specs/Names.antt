-- Where the code keeps the parts of a program's state.

use Rattle.std.specs.Prelude.{◌≡◌, ℕ, ◌<◌, pos, true, Option, Some, List, [], ◌∷◌, map, length, slice_get, slice_index_or, slice_set}
use Rattle.ba_numbers.specs.declared.ids.VarId.{VarId}
use Rattle.ba_code.specs.State.{CodeState, operand_value}
use Rattle.ba_code.specs.Types.{Types}
use Rattle.ba_code.specs.declared.nodes.Operand.{Operand}
use Rattle.ba_code.specs.declared.nodes.Operand.TheVariants.{Const, Var}
use Rattle.ba_tree.specs.Facts.{is_value_shape}
use Rattle.ba_tree.specs.Meaning.{variable_of}
use Rattle.ba_tree.specs.State.{State}
use Rattle.ba_tree.specs.declared.tree.Program.{Program}

-- What is known at each point of a program whose calls are inlined:
-- - the operand of each variable
-- - the location of each array variable, as in the program's state
-- - the code's array for each location
pub record Names : Type 0 where
  pub values : List Operand
  pub locations : List ℕ
  pub arrays : List ℕ

-- the program's state at that point
abbrev pub seen : Names → CodeState → State
seen names t = record {
  values = map (operand_value t) names.values;
  arrays = map t.arrays names.arrays;
  locations = names.locations;
  choices = t.choices;
}

-- the operand of a variable
abbrev pub name_of : Names → VarId → Operand
name_of names v = slice_index_or names.values v.0 (Const (pos 0))

-- the array of the code that an array variable names
abbrev pub location_at : Names → VarId → ℕ
location_at names v = slice_index_or names.locations v.0 0

-- the code's array for an array variable, None if it has none
abbrev pub array_of : Names → VarId → Option ℕ
array_of names v = slice_get names.arrays (location_at names v)

-- a variable's value is now in this variable of the code
abbrev pub with_name : VarId → ℕ → Names → Names
with_name v n names = record names { values = slice_set names.values v.0 (Var n) }

-- an array variable now names this array of the code
abbrev pub with_location : VarId → ℕ → Names → Names
with_location v n names = record names { locations = slice_set names.locations v.0 n }

-- VARIABLES OF THE CODE among the operands of variables

-- the operand isn't this variable
abbrev pub IsOther : ℕ → Operand → Type 0
IsOther n (Const z) = Unit {0}
IsOther n (Var m) = m ≡ n → ⊥

-- the variable is none of these operands
abbrev pub Outside : ℕ → List Operand → Type 0
Outside n [] = Unit {0}
Outside n (o ∷ os) = IsOther n o × Outside n os

-- the operand is a constant, or none of these operands
abbrev pub IsNotAmong : Operand → List Operand → Type 0
IsNotAmong (Const z) os = Unit {0}
IsNotAmong (Var n) os = Outside n os

-- no variable of the code occurs twice
abbrev pub AreApart : List Operand → Type 0
AreApart [] = Unit {0}
AreApart (o ∷ os) = IsNotAmong o os × AreApart os

-- the operand is a constant, or a variable below this count
abbrev pub IsBelow : ℕ → Operand → Type 0
IsBelow count (Const z) = Unit {0}
IsBelow count (Var n) = n < count

-- each operand is a constant, or a variable below this count
abbrev pub AreBelow : ℕ → List Operand → Type 0
AreBelow count [] = Unit {0}
AreBelow count (o ∷ os) = IsBelow count o × AreBelow count os

-- ARRAYS

-- the array is none of these
abbrev pub OutsideArrays : ℕ → List ℕ → Type 0
OutsideArrays n [] = Unit {0}
OutsideArrays n (m ∷ ms) = (m ≡ n → ⊥) × OutsideArrays n ms

-- no array comes twice
abbrev pub AreApartArrays : List ℕ → Type 0
AreApartArrays [] = Unit {0}
AreApartArrays (n ∷ ns) = OutsideArrays n ns × AreApartArrays ns

-- each array is below this count
abbrev pub AreBelowArrays : ℕ → List ℕ → Type 0
AreBelowArrays count [] = Unit {0}
AreBelowArrays count (n ∷ ns) = (n < count) × AreBelowArrays count ns

-- NAMES

-- Each of the code's variables and arrays stands for one thing, and is declared.
pub record IsNaming (names : Names) (declared : Types) : Type 0 where
  pub apart : AreApart names.values
  pub below : AreBelow (length declared.vars) names.values
  pub arrays_apart : AreApartArrays names.arrays
  pub arrays_below : AreBelowArrays (length declared.arrays) names.arrays

-- only a variable of one value has a variable of the code
pub record AreValues (p : Program) (names : Names) : Type 0 where
  pub by : (v : VarId) (n : ℕ) → slice_get names.values v.0 ≡ Some (Var n)
      → is_value_shape (variable_of p v).shape ≡ true

-- both facts about names
pub record IsScope (p : Program) (names : Names) (declared : Types) : Type 0 where
  pub naming : IsNaming names declared
  pub values : AreValues p names

-- the names and one more variable of the code
abbrev pub with_home : ℕ → Names → Names
with_home home names = record names { values = Var home ∷ names.values }

-- both facts about the names in a function whose result is in `home`
pub record IsFrame (p : Program) (home : ℕ) (names : Names) (declared : Types) : Type 0 where
  pub naming : IsNaming (with_home home names) declared
  pub values : AreValues p names
