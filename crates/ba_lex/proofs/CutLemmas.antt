-- The cut of a text, one piece or one byte on.
use Rattle.std.proofs.Common.{◌≡◌, ℕ, ◌+◌, ◌<◌, ◌≤◌, Bool, true, false, List, [], ◌∷◌, ◌++◌, append-nil, length, get_or, drop, take, zero, suc, ◌-◌, Option, None, Some, refl, sym, ap, ◌∙◌, arith, cond}
use Rattle.std.specs.Prelude.{option_map}
use Rattle.std.proofs.lemmas.List.{at_drop_more}
use Rattle.std.specs.Prelude.{◌==◌}
use Rattle.std.specs.Char.{is_ascii_digit}
use Rattle.std.specs.List.{prefix_len}
use Rattle.ba_bytes.specs.Classes.{is_letter, is_word_byte, is_number_byte, is_blank, is_line_end}
use Rattle.ba_lex.specs.Pieces.{word_at, number_at, piece_at, is_comment_end, after_open, first_piece, next_position, position_after, with_piece, cut}
use Rattle.ba_numbers.specs.declared.ids.At.{At}
use Rattle.ba_lex.specs.declared.piece.Form.{Form}
use Rattle.ba_lex.specs.declared.piece.Piece.{Piece}

-- a list that isn't empty is its first item and the rest
pub front : (bs : List ℕ) → 0 < length bs → bs ≡ get_or bs 0 0 ∷ drop 1 bs
front [] some = absurd (omega arith)
front (b ∷ bs) some = refl

-- counting on by one and then by i is counting on by i + 1
pub count_on : (o : Option ℕ) (i : ℕ) → option_map (λ n. n + i) (option_map (λ n. n + 1) o) ≡ option_map (λ n. n + (i + 1)) o
count_on None i = refl
count_on (Some n) i = ap Some (omega arith)

open_step : (bs : List ℕ) (i : ℕ) → is_comment_end bs ≡ false → option_map (λ n. n + i) (after_open bs) ≡ option_map (λ n. n + (i + 1)) (after_open (drop 1 bs))
open_step [] i stays = refl
open_step (b ∷ bs) i stays = ap (λ t. option_map (λ n. n + i) (cond t (Some 2) (option_map (λ n. n + 1) (after_open bs)))) stays ∙ count_on (after_open bs) i

pub after_open-drop : (bs : List ℕ) (i : ℕ) → i < length bs → is_comment_end (drop i bs) ≡ false → option_map (λ n. n + i) (after_open (drop i bs)) ≡ option_map (λ n. n + (i + 1)) (after_open (drop (i + 1) bs))
after_open-drop bs i within stays =
    open_step (drop i bs) i stays ∙ ap (λ t. option_map (λ n. n + (i + 1)) (after_open t)) (at_drop_more (drop 1) bs i 0 within)

-- the first bytes of a text, its first byte among them
pub front_taken : (text : List ℕ) (b n : ℕ) (bs : List ℕ) → text ≡ b ∷ bs → take (1 + n) text ≡ b ∷ take n bs
front_taken text b n bs is = ap (take (1 + n)) is ∙ (let e : 1 + n ≡ suc n = omega arith in ap (λ m. take m (b ∷ bs)) e)

-- a chain of tests of which the fourth or the fifth is the first to pass
pub fourth : {X : Type 0} (s t u v : Bool) (a b c d e : X) → s ≡ false → t ≡ false → u ≡ false → v ≡ true → cond s a (cond t b (cond u c (cond v d e))) ≡ d
fourth s t u v a b c d e p q r w = λ i. cond (p i) a (cond (q i) b (cond (r i) c (cond (w i) d e)))

pub fifth : {X : Type 0} (s t u v w : Bool) (a b c d e f : X) → s ≡ false → t ≡ false → u ≡ false → v ≡ false → w ≡ true → cond s a (cond t b (cond u c (cond v d (cond w e f)))) ≡ e
fifth s t u v w a b c d e f p q r x y = λ i. cond (p i) a (cond (q i) b (cond (r i) c (cond (x i) d (cond (y i) e f))))

-- a text that begins with a letter begins with a word; one that begins with a digit begins with a number
pub piece_at-letter : (b : ℕ) (bs : List ℕ) → is_line_end b ≡ false → is_blank b ≡ false → (b == 35) ≡ false → is_letter b ≡ true → piece_at b bs ≡ word_at (b ∷ take (prefix_len is_word_byte bs) bs)
piece_at-letter b bs = fourth (is_line_end b) (is_blank b) (b == 35) (is_letter b) _ _ _ _ _

pub piece_at-digit : (b : ℕ) (bs : List ℕ) → is_line_end b ≡ false → is_blank b ≡ false → (b == 35) ≡ false → is_letter b ≡ false → is_ascii_digit b ≡ true → piece_at b bs ≡ number_at (b ∷ take (prefix_len is_number_byte bs) bs)
piece_at-digit b bs = fifth (is_line_end b) (is_blank b) (b == 35) (is_letter b) (is_ascii_digit b) _ _ _ _ _ _

-- the bytes of a piece that has begun are passed over
pub cut_skip : (bs : List ℕ) (at : At) (k : ℕ) → cut at k bs ≡ cut (position_after at (take k bs)) 0 (drop k bs)
cut_skip [] at zero = refl
cut_skip [] at (suc k) = refl
cut_skip (b ∷ bs) at zero = refl
cut_skip (b ∷ bs) at (suc k) = cut_skip bs (next_position at b) k

-- the cut of a text is its first piece and the cut of what follows it
pub cut_first : (bs : List ℕ) (at : At) (form : Form) (n : ℕ) → 0 < length bs → 1 ≤ n → (form, n) ≡ first_piece bs → cut at 0 bs ≡ with_piece form at (cut (position_after at (take n bs)) 0 (drop n bs))
cut_first [] at form n some positive is = absurd (omega arith)
cut_first (b ∷ bs) at form zero some positive is = absurd (omega arith)
cut_first (b ∷ bs) at form (suc m) some positive is =
    let less : suc m - 1 ≡ m = omega arith in
    ap (λ (p : Form × ℕ). with_piece p.0 at (cut (next_position at b) (p.1 - 1) bs)) (sym is)
    ∙ ap (λ k. with_piece form at (cut (next_position at b) k bs)) less
    ∙ ap (with_piece form at) (cut_skip bs (next_position at b) m)

-- One turn of the loop over the pieces, from `old` to `new`: the piece that was added, and what follows it.
module _ (whole old new : List Piece) (bs : List ℕ) (at : At) (form : Form) (n : ℕ) (goes_on : Bool)
    (so_far : old ++ cut at 0 bs ≡ whole) (some : 0 < length bs) (positive : 1 ≤ n) (is : (form, n) ≡ first_piece bs)
    (pushed : (rest : List Piece) → old ++ with_piece form at rest ≡ new ++ cond goes_on rest []) where
  turned : new ++ cond goes_on (cut (position_after at (take n bs)) 0 (drop n bs)) [] ≡ whole
  turned =
      sym (pushed (cut (position_after at (take n bs)) 0 (drop n bs))) ∙ ap (λ ps. old ++ ps) (sym (cut_first bs at form n some positive is)) ∙ so_far

  pub turned_on : (piece others : List ℕ) (here : At) → piece ≡ take n bs → others ≡ drop n bs → here ≡ position_after at piece → goes_on ≡ true → new ++ cut here 0 others ≡ whole
  turned_on piece others here front back position goes =
      ap (λ h. new ++ cut h 0 others) (position ∙ ap (position_after at) front)
      ∙ ap (λ t. new ++ cut (position_after at (take n bs)) 0 t) back
      ∙ ap (λ g. new ++ cond g (cut (position_after at (take n bs)) 0 (drop n bs)) []) (sym goes)
      ∙ turned

  pub stopped : goes_on ≡ false → new ≡ whole
  stopped stays = sym (append-nil new) ∙ ap (λ g. new ++ cond g (cut (position_after at (take n bs)) 0 (drop n bs)) []) (sym stays) ∙ turned

pub empty_from_length : (bs : List ℕ) → length bs ≡ 0 → bs ≡ []
empty_from_length [] none = refl
empty_from_length (b ∷ bs) none = absurd (omega arith)

-- the byte after those that pass does not pass
stops_at : (p : ℕ → Bool) (b : ℕ) (bs : List ℕ) (t : Bool) → p b ≡ t → p (get_or bs (prefix_len p bs) 0) ≡ false → p (get_or (b ∷ bs) (cond t (1 + prefix_len p bs) 0) 0) ≡ false
stops_at p b bs true passes rest =
    let on : 1 + prefix_len p bs ≡ suc (prefix_len p bs) = omega arith in
    ap (λ k. p (get_or (b ∷ bs) k 0)) on ∙ rest
stops_at p b bs false passes rest = passes

pub prefix_stops : (p : ℕ → Bool) (bs : List ℕ) → p 0 ≡ false → p (get_or bs (prefix_len p bs) 0) ≡ false
prefix_stops p [] none = none
prefix_stops p (b ∷ bs) none = stops_at p b bs (p b) refl (prefix_stops p bs none)
