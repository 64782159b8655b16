-- The next piece of a text.
use Rattle.std.proofs.Common.{◌≡◌, ℕ, suc, ◌+◌, ◌<◌, Bool, true, false, cond, not, List, [], ◌∷◌, length, take, drop, refl, sym, ap, subst, ◌∙◌, arith}
use Rattle.std.specs.List.{prefix_len}
use Rattle.ba_bytes.specs.Classes.{is_blank}
use Rattle.ba_bytes.specs.Pieces.{with_first, pieces_of}

abbrev pub stands : ℕ → Bool
stands b = not (is_blank b)

one_more : (n : ℕ) → 1 + n ≡ suc n
one_more n = omega arith

-- blanks before a piece
pieces_of-skip : (text : List ℕ) → pieces_of text ≡ pieces_of (drop (prefix_len is_blank text) text)
pieces_of-skip [] = refl
pieces_of-skip (b ∷ bs) = by (is_blank b) refl (pieces_of-skip bs)
  where
    by : (blank : Bool) → is_blank b ≡ blank → pieces_of bs ≡ pieces_of (drop (prefix_len is_blank bs) bs) → pieces_of (b ∷ bs) ≡ pieces_of (drop (prefix_len is_blank (b ∷ bs)) (b ∷ bs))
    by true is others = rw is (others ∙ ap (λ n. pieces_of (drop n (b ∷ bs))) (sym (one_more (prefix_len is_blank bs))))
    by false is others = ap (λ n. pieces_of (drop n (b ∷ bs))) (sym (ap (λ t. cond t (1 + prefix_len is_blank bs) 0) is))

-- no blank is after them
blanks_end : (text : List ℕ) (b : ℕ) (bs : List ℕ) → drop (prefix_len is_blank text) text ≡ b ∷ bs → is_blank b ≡ false
blanks_end [] b bs left = cc
blanks_end (c ∷ cs) b bs left = by (is_blank c) refl left (blanks_end cs b bs)
  where
    by : (blank : Bool) → is_blank c ≡ blank → drop (cond blank (1 + prefix_len is_blank cs) 0) (c ∷ cs) ≡ b ∷ bs → (drop (prefix_len is_blank cs) cs ≡ b ∷ bs → is_blank b ≡ false) → is_blank b ≡ false
    by true is left others = others (ap (λ n. drop n (c ∷ cs)) (sym (one_more (prefix_len is_blank cs))) ∙ left)
    by false is left others = let same : c ≡ b = cc in ap is_blank (sym same) ∙ is

-- the piece that a byte begins
pieces_of-first : (b : ℕ) (bs : List ℕ) → is_blank b ≡ false → pieces_of (b ∷ bs) ≡ take (prefix_len stands (b ∷ bs)) (b ∷ bs) ∷ pieces_of (drop (prefix_len stands (b ∷ bs)) (b ∷ bs))
pieces_of-first b [] is = rw is refl
pieces_of-first b (c ∷ cs) is = by (is_blank c) refl (pieces_of-first c cs)
  where
    by : (blank : Bool) → is_blank c ≡ blank → (is_blank c ≡ false → pieces_of (c ∷ cs) ≡ take (prefix_len stands (c ∷ cs)) (c ∷ cs) ∷ pieces_of (drop (prefix_len stands (c ∷ cs)) (c ∷ cs)))
        → pieces_of (b ∷ c ∷ cs) ≡ take (prefix_len stands (b ∷ c ∷ cs)) (b ∷ c ∷ cs) ∷ pieces_of (drop (prefix_len stands (b ∷ c ∷ cs)) (b ∷ c ∷ cs))
    by true end others =
        let rest = pieces_of (c ∷ cs) in
        let count : prefix_len stands (b ∷ c ∷ cs) ≡ 1 = rw (is, end) refl in
        ap (λ t. cond t rest (cond (is_blank c) ((b ∷ []) ∷ rest) (with_first b rest))) is
        ∙ ap (λ t. cond t ((b ∷ []) ∷ rest) (with_first b rest)) end
        ∙ ap (λ n. take n (b ∷ c ∷ cs) ∷ pieces_of (drop n (b ∷ c ∷ cs))) (sym count)
    by false goes others =
        let count : prefix_len stands (b ∷ c ∷ cs) ≡ suc (prefix_len stands (c ∷ cs)) = rw is (one_more (prefix_len stands (c ∷ cs))) in
        let whole : pieces_of (b ∷ c ∷ cs) ≡ with_first b (pieces_of (c ∷ cs)) = rw (is, goes) refl in
        whole ∙ ap (with_first b) (others goes) ∙ ap (λ n. take n (b ∷ c ∷ cs) ∷ pieces_of (drop n (b ∷ c ∷ cs))) (sym count)

first_stands : (b : ℕ) (bs : List ℕ) → is_blank b ≡ false → 0 < length (take (prefix_len stands (b ∷ bs)) (b ∷ bs))
first_stands b bs is =
    let count : prefix_len stands (b ∷ bs) ≡ suc (prefix_len stands bs) = rw is (one_more (prefix_len stands bs)) in
    subst (λ n. 0 < length (take n (b ∷ bs))) (sym count) (omega arith)

-- a text with its blanks taken off, and the cut after its first piece
pub record IsCut (rest piece after : List ℕ) : Type 0 where
  pub text : List ℕ
  pub trimmed : text ≡ drop (prefix_len is_blank rest) rest
  pub front : piece ≡ take (prefix_len stands text) text
  pub back : after ≡ drop (prefix_len stands text) text

pub cut_none : (rest piece after : List ℕ) → IsCut rest piece after → length piece ≡ 0 → (pieces_of rest ≡ []) × (pieces_of after ≡ [])
cut_none rest piece after c none = by c.text c.trimmed c.front c.back
  where
    by : (text : List ℕ) → text ≡ drop (prefix_len is_blank rest) rest → piece ≡ take (prefix_len stands text) text → after ≡ drop (prefix_len stands text) text → (pieces_of rest ≡ []) × (pieces_of after ≡ [])
    by [] trimmed front back = (pieces_of-skip rest ∙ ap pieces_of (sym trimmed), ap pieces_of back)
    by (b ∷ bs) trimmed front back =
        let some = first_stands b bs (blanks_end rest b bs (sym trimmed)) in
        let same = ap length front in
        absurd (omega (arith, some, same, none))

pub cut_some : (rest piece after : List ℕ) → IsCut rest piece after → 0 < length piece → pieces_of rest ≡ piece ∷ pieces_of after
cut_some rest piece after c some = by c.text c.trimmed c.front c.back
  where
    by : (text : List ℕ) → text ≡ drop (prefix_len is_blank rest) rest → piece ≡ take (prefix_len stands text) text → after ≡ drop (prefix_len stands text) text → pieces_of rest ≡ piece ∷ pieces_of after
    by [] trimmed front back = let same = ap length front in absurd (omega (arith, same, some))
    by (b ∷ bs) trimmed front back =
        pieces_of-skip rest ∙ ap pieces_of (sym trimmed) ∙ pieces_of-first b bs (blanks_end rest b bs (sym trimmed))
        ∙ ap (λ p. p ∷ pieces_of (drop (prefix_len stands (b ∷ bs)) (b ∷ bs))) (sym front) ∙ ap (λ r. piece ∷ pieces_of r) (sym back)
