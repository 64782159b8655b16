-- Sets of groups, their weights, and the clauses that block them.

use Rattle.std.specs.Prelude.{ℕ, ◌+◌, ◌==◌, nat_eq, ltb, Bool, Option, None, Some, List, [], ◌∷◌, map, slice_get, if◌then◌else◌}
use Rattle.std.specs.List.{list_any}
use Rattle.std.specs.Cmp.Lexicographic.{pointwise}
use Prim.Native.Nat.{suc, zero}
use Rattle.ba_lits.specs.Literals.{Literal}
use Rattle.ba_lits.specs.Satisfaction.{Soft}

-- the entry of a group, by its number, from 1 on
abbrev pub entry_of : List Soft → ℕ → Option Soft
entry_of groups zero = None
entry_of groups (suc k) = slice_get groups k

-- the weight of an entry; an entry of weight 0, or None, is no group
abbrev pub entry_weight : Option Soft → ℕ
entry_weight None = 0
entry_weight (Some s) = s.1

-- the weight of a group; 0 without one
abbrev pub weight_at : List Soft → ℕ → ℕ
weight_at groups number = entry_weight (entry_of groups number)

-- the sum of the weights of a set's groups
abbrev pub set_weight : List Soft → List ℕ → ℕ
set_weight groups [] = 0
set_weight groups (n ∷ ns) = weight_at groups n + set_weight groups ns

-- a number of the set names no group
abbrev pub lacks_group : List Soft → List ℕ → Bool
lacks_group groups set = list_any (λ n. weight_at groups n == 0) set

-- the set is one of these
abbrev pub is_among : List (List ℕ) → List ℕ → Bool
is_among sets set = list_any (λ other. pointwise nat_eq other set) sets

-- literals of ascending variables with one more
abbrev pub inserted : Literal → List Literal → List Literal
inserted l [] = l ∷ []
inserted l (m ∷ ms) = if ltb l.variable m.variable then l ∷ m ∷ ms else m ∷ inserted l ms

-- the literals with the selector of an entry, if there is one
abbrev pub with_selector : Option Soft → List Literal → List Literal
with_selector None lits = lits
with_selector (Some s) lits = inserted s.0 lits

-- the clause that blocks a set: the selectors of its groups, by ascending variable
abbrev pub block_clause : List Soft → List ℕ → List Literal
block_clause groups [] = []
block_clause groups (n ∷ ns) = with_selector (entry_of groups n) (block_clause groups ns)

-- the clauses that block these sets
abbrev pub block_clauses : List Soft → List (List ℕ) → List (List Literal)
block_clauses groups sets = map (block_clause groups) sets
