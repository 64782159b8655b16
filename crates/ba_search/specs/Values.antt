-- Which variables have values.

use Rattle.std.specs.Prelude.{◌≡◌, ℕ, ◌≤◌, Bool, false, Option, None, Some, List, [], ◌∷◌, ◌++◌}
use Prim.Native.Nat.{suc, zero}
use Rattle.ba_lits.specs.Literals.{Literal, positive}
use Rattle.ba_watch.specs.Trails.{value_of}

-- a variable up to a limit without a value
pub record IsUnassigned (trail : List Literal) (limit variable : ℕ) : Type 0 where
  pub counted : 1 ≤ variable
  pub within : variable ≤ limit
  pub free : value_of trail (positive variable) ≡ None

-- a value is true
abbrev pub is_true : Option Bool → Bool
is_true None = false
is_true (Some b) = b

-- the values of the variables up to a number; one without a value counts as false
abbrev pub values_of : List Literal → ℕ → List Bool
values_of trail zero = []
values_of trail (suc n) = values_of trail n ++ is_true (value_of trail (positive (suc n))) ∷ []
