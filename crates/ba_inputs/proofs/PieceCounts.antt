-- How many pieces a text has.
use Rattle.std.proofs.Common.{ℕ, suc, ◌≤◌, Bool, true, false, cond, List, [], ◌∷◌, length, arith}
use Rattle.ba_bytes.specs.Classes.{is_blank}
use Rattle.ba_bytes.specs.Pieces.{ends_piece, with_first, pieces_of}

-- there are at most as many pieces as bytes
pub length-pieces_of : (text : List ℕ) → length (pieces_of text) ≤ length text
length-pieces_of [] = omega arith
length-pieces_of (b ∷ bs) = by (is_blank b) (ends_piece bs) (length-pieces_of bs)
  where
    with : (b : ℕ) (pieces : List (List ℕ)) (n : ℕ) → length pieces ≤ n → length (with_first b pieces) ≤ suc n
    with b [] n few = omega arith
    with b (piece ∷ pieces) n few = omega arith

    by : (blank ends : Bool) → length (pieces_of bs) ≤ length bs →
        length (cond blank (pieces_of bs) (cond ends ((b ∷ []) ∷ pieces_of bs) (with_first b (pieces_of bs))))
        ≤ length (b ∷ bs)
    by true ends few = omega arith
    by false true few = omega arith
    by false false few = with b (pieces_of bs) (length bs) few
