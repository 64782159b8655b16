-- The split of a core: fresh variables, clauses and soft literals that keep every cost. Source: N.
-- Narodytska, F. Bacchus, Maximum Satisfiability Using Core-Guided MaxSAT Resolution.
--
-- Let some literal of the core b1 to bk be true. How many are true is 1 plus the number of i below k such
-- that bi and a later literal are true. A fresh variable di says that a literal after bi is true, and a fresh
-- variable ei says that bi and a later one are.

use Rattle.std.specs.Prelude.{ℕ, ◌+◌, ◌-◌, Bool, ltb, Option, None, Some, min, map, List, [], ◌∷◌, ◌++◌, length, if◌then◌else◌}
use Rattle.ba_lits.specs.Literals.{Literal, negate, negative, no_literal, positive}
use Rattle.ba_lits.specs.Satisfaction.{Soft}
use Rattle.ba_lits.specs.Hints.{has_literal}

-- two literals by ascending variable
abbrev pub in_order : Literal → Literal → List Literal
in_order a b = if ltb a.variable b.variable then a ∷ b ∷ [] else b ∷ a ∷ []

-- the variable d means `b or c`
abbrev pub or_gate : ℕ → Literal → Literal → List (List Literal)
or_gate d b c = (b ∷ in_order (negative d) c) ∷ (negate b ∷ positive d ∷ [])
    ∷ in_order (positive d) (negate c) ∷ []

-- the variable e means `b and c`
abbrev pub and_gate : ℕ → Literal → Literal → List (List Literal)
and_gate e b c =
    (b ∷ negative e ∷ []) ∷ (c ∷ negative e ∷ []) ∷ (negate b ∷ negate c ∷ positive e ∷ []) ∷ []

-- a literal for `one of these literals is true`: a single one itself, for several the variable d
abbrev pub some_of : ℕ → List Literal → Literal
some_of d [] = no_literal
some_of d (b ∷ []) = b
some_of d (b ∷ c ∷ rest) = positive d

-- the variables from d on mean `one of these literals from here on is true`
abbrev pub or_clauses : ℕ → List Literal → List (List Literal)
or_clauses d [] = []
or_clauses d (b ∷ []) = []
or_clauses d (b ∷ c ∷ rest) = or_gate d b (some_of (d + 1) (c ∷ rest)) ++ or_clauses (d + 1) (c ∷ rest)

-- the variables from e on mean `this literal and a later one are true`
abbrev pub and_clauses : ℕ → ℕ → List Literal → List (List Literal)
and_clauses d e [] = []
and_clauses d e (b ∷ []) = []
and_clauses d e (b ∷ c ∷ rest) = and_gate e b (some_of d (c ∷ rest)) ++ and_clauses (d + 1) (e + 1) (c ∷ rest)

-- the clauses of the split of a core, whose fresh variables begin at n
abbrev pub split_clauses : ℕ → List Literal → List (List Literal)
split_clauses n [] = []
split_clauses n (b ∷ rest) = or_clauses n rest ++ and_clauses n (n + (length rest - 1)) (b ∷ rest)

-- how many fresh variables a core of k literals takes
abbrev pub fresh_count : ℕ → ℕ
fresh_count k = (k - 2) + (k - 1)

-- the negations of the variables from e on, each with the weight w, one for each literal but the last
abbrev pub late_softs : ℕ → ℕ → List Literal → List Soft
late_softs w e [] = []
late_softs w e (b ∷ []) = []
late_softs w e (b ∷ c ∷ rest) = (negative e, w) ∷ late_softs w (e + 1) (c ∷ rest)

-- the soft literals that the split of a core adds
abbrev pub split_softs : ℕ → ℕ → List Literal → List Soft
split_softs w n lits = late_softs w (n + (length lits - 2)) lits

-- the literal is among the soft literals
abbrev pub is_soft : List Soft → Literal → Bool
is_soft softs l = has_literal l (map (λ (s : Soft). s.0) softs)

-- the lesser of two weights, one of which may be missing
abbrev pub lesser : ℕ → Option ℕ → ℕ
lesser w None = w
lesser w (Some u) = min w u

-- the least weight of the soft literals whose negations are in the core
abbrev pub lightest : List Literal → List Soft → Option ℕ
lightest core [] = None
lightest core (s ∷ ss) = if has_literal (negate s.0) core then Some (lesser s.1 (lightest core ss))
    else lightest core ss

-- the soft literals whose negations are in the core lose the weight w, and are gone at 0
abbrev pub lowered : List Literal → ℕ → List Soft → List Soft
lowered core w [] = []
lowered core w (s ∷ ss) =
    if has_literal (negate s.0) core
    then (if ltb w s.1 then (s.0, s.1 - w) ∷ lowered core w ss else lowered core w ss)
    else s ∷ lowered core w ss
