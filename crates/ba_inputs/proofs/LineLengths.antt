-- No line of a text is longer than the text.
use Rattle.std.proofs.Common.{ℕ, suc, ◌≤◌, Bool, true, false, cond, List, [], ◌∷◌, length, arith}
use Rattle.std.specs.List.{AllByRecursion, onto_first}
use Rattle.ba_bytes.specs.Classes.{is_line_end}
use Rattle.ba_bytes.specs.Lines.{lines_of}

abbrev pub AreWithin : ℕ → List (List ℕ) → Type 0
AreWithin most = AllByRecursion (λ line. length line ≤ most)

pub within-more : (few most : ℕ) (lines : List (List ℕ)) → few ≤ most → AreWithin few lines
    → AreWithin most lines
within-more few most [] le short = tt
within-more few most (line ∷ lines) le short =
    let first = short.0 in (omega (arith, first, le), within-more few most lines le short.1)

onto-within : (b most : ℕ) (lines : List (List ℕ)) → AreWithin most lines
    → AreWithin (suc most) (onto_first b lines)
onto-within b most [] short = (omega arith, tt)
onto-within b most (line ∷ lines) short =
    let first = short.0 in
    (omega (arith, first), within-more most (suc most) lines (omega arith) short.1)

pub lines-within : (text : List ℕ) → AreWithin (length text) (lines_of text)
lines-within [] = (omega arith, tt)
lines-within (b ∷ bs) = by (lines-within bs) (is_line_end b)
  where
    by : AreWithin (length bs) (lines_of bs) → (end : Bool)
        → AreWithin (suc (length bs)) (cond end ([] ∷ lines_of bs) (onto_first b (lines_of bs)))
    by later true = (omega arith, within-more (length bs) (suc (length bs)) (lines_of bs) (omega arith) later)
    by later false = onto-within b (length bs) (lines_of bs) later
