-- The members of a set of literals.

use Rattle.std.specs.Prelude.{◌≡◌, ℕ, Bool, false, ◌||◌, eqb, List, [], ◌∷◌, get_or}
use Rattle.ba_lits.specs.Literals.{Literal, index_of}

-- a literal of this index is in the list
abbrev pub has_index : ℕ → List Literal → Bool
has_index k [] = false
has_index k (x ∷ xs) = eqb (index_of x) k || has_index k xs

-- the marked indices are those of the members
pub record AreMarks (marks : List Bool) (members : List Literal) : Type 0 where
  pub marked : (k : ℕ) → get_or marks k false ≡ has_index k members
