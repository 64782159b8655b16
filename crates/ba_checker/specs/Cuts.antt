-- Clauses stored one after the other in one list of literals.

use Prim.Native.Nat.{suc, zero}
use Rattle.std.specs.Prelude.{◌≡◌, ℕ, ◌≤◌, List, [], ◌∷◌, slice_range}
use Rattle.ba_lits.specs.Literals.{Literal}
use Rattle.ba_checker.specs.States.{Kept}
use Rattle.ba_checker.specs.declared.store.Origin.{Origin}

-- the ends ascend, from the start of the first clause to the end of the list
abbrev pub IsCut : ℕ → ℕ → List ℕ → Type 0
IsCut size from [] = from ≡ size
IsCut size from (end ∷ ends) = (from ≤ end) × IsCut size end ends

-- the clauses from an index on, each with its origin
abbrev pub entries : List Literal → ℕ → List ℕ → List Origin → List Kept
entries lits from [] origins = []
entries lits from (end ∷ ends) [] = []
entries lits from (end ∷ ends) (origin ∷ origins) =
    record { lits = slice_range lits from end; origin = origin } ∷ entries lits end ends origins

-- where the clause at an index begins
abbrev pub start_of : ℕ → List ℕ → ℕ → ℕ
start_of from ends zero = from
start_of from [] (suc k) = from
start_of from (end ∷ ends) (suc k) = start_of end ends k
