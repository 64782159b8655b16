-- MARKS of statements: that of the statement of number n is at n - 1.

use Rattle.std.specs.Prelude.{ℕ, ◌+◌, Bool, if◌then◌else◌, List, [], ◌∷◌, ◌++◌}

-- a number, if it is marked
abbrev pub number_if : Bool → ℕ → List ℕ
number_if is_marked n = if is_marked then n ∷ [] else []

-- the numbers that are marked, counted from n on
abbrev pub marked_from : ℕ → List Bool → List ℕ
marked_from n [] = []
marked_from n (is_marked ∷ marks) = number_if is_marked n ++ marked_from (n + 1) marks
