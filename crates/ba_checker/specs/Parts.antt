-- Containment of clauses.

use Rattle.std.specs.Prelude.{Bool, ◌&&◌, List}
use Rattle.std.specs.List.{list_any, list_all}
use Rattle.ba_lits.specs.Literals.{Literal}
use Rattle.ba_lits.specs.Hints.{has_literal}
use Rattle.ba_checker.specs.States.{Kept, is_live_origin}

-- a clause has all its literals in another
abbrev pub is_part : List Literal → List Literal → Bool
is_part part lits = list_all (λ (l : Literal). has_literal l lits) part

-- a live clause has all its literals in another
abbrev pub is_live_part : Kept → List Literal → Bool
is_live_part k lits = is_live_origin k.origin && is_part k.lits lits

-- a live clause has all its literals in this one
abbrev pub holds_clause : List Kept → List Literal → Bool
holds_clause clauses lits = list_any (λ (k : Kept). is_live_part k lits) clauses
