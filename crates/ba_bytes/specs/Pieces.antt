-- The pieces of a text between blanks.

use Rattle.std.specs.Prelude.{ℕ, Bool, true, if◌then◌else◌, List, [], ◌∷◌}
use Rattle.ba_bytes.specs.Classes.{is_blank}

-- the piece before these bytes ends there
abbrev pub ends_piece : List ℕ → Bool
ends_piece [] = true
ends_piece (b ∷ bs) = is_blank b

-- the byte added in front of the first piece, or a first piece of its own
abbrev pub with_first : ℕ → List (List ℕ) → List (List ℕ)
with_first b [] = (b ∷ []) ∷ []
with_first b (piece ∷ pieces) = (b ∷ piece) ∷ pieces

-- the pieces: each is as long as it can be, and has no blank
abbrev pub pieces_of : List ℕ → List (List ℕ)
pieces_of [] = []
pieces_of (b ∷ bs) =
    if is_blank b then pieces_of bs
    else (if ends_piece bs then (b ∷ []) ∷ pieces_of bs
    else with_first b (pieces_of bs))
