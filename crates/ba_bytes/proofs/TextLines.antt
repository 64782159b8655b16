-- The first line of a text, and how many lines there are.

use Rattle.std.proofs.Common.{◌≡◌, ℕ, ◌+◌, ◌<◌, ◌≤◌, ltb, Bool, true, false, cond, Option, None, Some, List, [], ◌∷◌, length, take, drop, get_or, refl, sym, ap, ◌∙◌, subst, arith, position}
use Rattle.std.specs.List.{position_or_len}
use Rattle.std.proofs.lemmas.Bool.{ltb-false, ltb-true}
use Rattle.std.proofs.lemmas.List.Elements.{All-from_get_or}
use Rattle.std.proofs.lemmas.List.Splits.{length-slice_split, slice_split_first, slice_split_none}
use Rattle.std.proofs.lemmas.List.Sums.{count_by-le-length, fails_before_first}
use Rattle.ba_bytes.specs.Classes.{is_line_end}
use Rattle.ba_bytes.specs.Lines.{lines_of}

abbrev first_end : List ℕ → ℕ
first_end = position_or_len is_line_end

-- a line feed ends the first line
pub lines-some : (text : List ℕ) (place : ℕ) → position is_line_end text ≡ Some place →
    lines_of text ≡ take place text ∷ lines_of (drop (place + 1) text)
lines-some text place e = by (ltb (first_end text) (length text)) refl e
  where
    by : (t : Bool) → ltb (first_end text) (length text) ≡ t → cond t (Some (first_end text)) None ≡ Some place →
        lines_of text ≡ take place text ∷ lines_of (drop (place + 1) text)
    by true is found =
        let at : first_end text ≡ place = cc in
        subst (λ n. lines_of text ≡ take n text ∷ lines_of (drop (n + 1) text)) at
        (slice_split_first is_line_end text 0 (ltb-true (first_end text) (length text) is))
    by false is found = absurd cc

-- without a line feed the text is one line
pub lines-none : (text : List ℕ) → position is_line_end text ≡ None → lines_of text ≡ text ∷ []
lines-none text e = by (ltb (first_end text) (length text)) refl e
  where
    by : (t : Bool) → ltb (first_end text) (length text) ≡ t → cond t (Some (first_end text)) None ≡ None →
        lines_of text ≡ text ∷ []
    by true is found = absurd cc
    by false is found =
        let late : length text ≤ first_end text = ltb-false (first_end text) (length text) is in
        slice_split_none is_line_end text (All-from_get_or (λ b. is_line_end b ≡ false) text 0
        (λ i few. fails_before_first is_line_end text i 0 (omega (arith, late, few))))

-- there is at most one line more than bytes
pub few-lines : (text : List ℕ) → length (lines_of text) ≤ length text + 1
few-lines text = omega (arith, length-slice_split is_line_end text, count_by-le-length is_line_end text)
