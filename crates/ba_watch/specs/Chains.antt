-- Lists threaded through numbers: each number says which comes next.

use Rattle.std.specs.Prelude.{ℕ, ◌+◌, Option, None, Some, List, [], ◌∷◌, eqb, if◌then◌else◌}
use Prim.Native.Nat.{suc, zero}

-- the first `n` numbers of the list from a head
abbrev pub walk : ℕ → (ℕ → Option ℕ) → Option ℕ → List ℕ
walk zero next head = []
walk (suc n) next None = []
walk (suc n) next (Some r) = r ∷ walk n next (next r)

-- the number of the list after the first `n`
abbrev pub end_of_walk : ℕ → (ℕ → Option ℕ) → Option ℕ → Option ℕ
end_of_walk zero next head = head
end_of_walk (suc n) next None = None
end_of_walk (suc n) next (Some r) = end_of_walk n next (next r)

-- how often a number is in a list
abbrev pub occurrences : ℕ → List ℕ → ℕ
occurrences r [] = 0
occurrences r (x ∷ xs) = (if eqb x r then 1 else 0) + occurrences r xs
