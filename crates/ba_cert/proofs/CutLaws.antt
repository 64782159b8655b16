-- A line is cut at its spaces into the parts that it was joined of.

use Rattle.std.proofs.Common.{◌≡◌, ℕ, suc, ◌+◌, ◌<◌, ltb, Bool, true, false, cond, not, None, Some, List, [], ◌∷◌, ◌++◌, length, take, drop, refl, ap, ◌∙◌, append-nil, arith, position}
use Rattle.std.specs.List.{onto_first, join_with_byte, position_or_len}
use Rattle.std.proofs.lemmas.Bool.{and_parts, ltb-true, ltb-false}
use Rattle.std.proofs.lemmas.List.Splits.{slice_split_none, slice_split_at, slice_split_first, join_with_byte-slice_split}
use Rattle.ba_cert.specs.Text.{joined}
use Rattle.ba_cert.specs.Reading.{is_space, parts_of}
use Rattle.ba_cert.proofs.PlainLaws.{is_plain, are_plain, no_space}

pub parts_of-joined : (part : List ℕ) (parts : List (List ℕ)) → is_plain part ≡ true →
    are_plain parts ≡ true → parts_of (joined (part ∷ parts)) ≡ part ∷ parts
parts_of-joined part [] first rest = ap parts_of (append-nil part)
    ∙ slice_split_none is_space part (no_space part first)
parts_of-joined part (q ∷ qs) first rest =
    let both = and_parts (is_plain q) (are_plain qs) rest in
    slice_split_at is_space part 32 (joined (q ∷ qs)) (no_space part first) refl
    ∙ ap (λ r. part ∷ r) (parts_of-joined q qs both.0 both.1)

joined-is : (parts : List (List ℕ)) → joined parts ≡ join_with_byte 32 parts
joined-is [] = refl
joined-is (p ∷ []) = append-nil p
joined-is (p ∷ q ∷ qs) = ap (λ r. p ++ 32 ∷ r) (joined-is (q ∷ qs))

pub joined-parts_of : (line : List ℕ) → joined (parts_of line) ≡ line
joined-parts_of line = joined-is (parts_of line) ∙ join_with_byte-slice_split 32 line

-- the first space ends the first part
pub cut-space : (line : List ℕ) (place : ℕ) → position is_space line ≡ Some place →
    parts_of line ≡ take place line ∷ parts_of (drop (place + 1) line)
cut-space line place e = by (ltb (position_or_len is_space line) (length line)) refl e
  where
    by : (t : Bool) → ltb (position_or_len is_space line) (length line) ≡ t →
        cond t (Some (position_or_len is_space line)) None ≡ Some place →
        parts_of line ≡ take place line ∷ parts_of (drop (place + 1) line)
    by true is found =
        let at : position_or_len is_space line ≡ place = cc in
        slice_split_first is_space line 0 (ltb-true (position_or_len is_space line) (length line) is)
        ∙ ap (λ n. take n line ∷ parts_of (drop (n + 1) line)) at
    by false is found = cc

-- without one it is the one part
one_part : (line : List ℕ) → length line ≡ position_or_len is_space line → parts_of line ≡ line ∷ []
one_part [] e = refl
one_part (b ∷ bs) e = by (is_space b) refl e (one_part bs)
  where
    by : (t : Bool) → is_space b ≡ t → suc (length bs) ≡ cond (not t) (1 + position_or_len is_space bs) 0 →
        (length bs ≡ position_or_len is_space bs → parts_of bs ≡ bs ∷ []) →
        cond (is_space b) ([] ∷ parts_of bs) (onto_first b (parts_of bs)) ≡ (b ∷ bs) ∷ []
    by true is same others = absurd (omega (arith, same))
    by false is same others =
        ap (λ t. cond t ([] ∷ parts_of bs) (onto_first b (parts_of bs))) is
        ∙ ap (onto_first b) (others (omega (arith, same)))

within : (line : List ℕ) → (position_or_len is_space line < length line → ⊥) →
    length line ≡ position_or_len is_space line
within [] h = refl
within (b ∷ bs) h = by (is_space b) refl h (within bs)
  where
    by : (t : Bool) → is_space b ≡ t → (position_or_len is_space (b ∷ bs) < suc (length bs) → ⊥) →
        ((position_or_len is_space bs < length bs → ⊥) → length bs ≡ position_or_len is_space bs) →
        suc (length bs) ≡ position_or_len is_space (b ∷ bs)
    by true is far others =
        let none : position_or_len is_space (b ∷ bs)
        ≡ 0 = ap (λ t. cond (not t) (1 + position_or_len is_space bs) 0) is in
        absurd (far (omega (arith, none)))
    by false is far others =
        let more : position_or_len is_space (b ∷ bs)
        ≡ 1 + position_or_len is_space bs = ap
        (λ t. cond (not t) (1 + position_or_len is_space bs) 0) is in
        let rest = others (λ near. far (omega (arith, more, near))) in
        omega (arith, more, rest)

pub cut-none : (line : List ℕ) → position is_space line ≡ None → parts_of line ≡ line ∷ []
cut-none line e = by (ltb (position_or_len is_space line) (length line)) refl e
  where
    by : (t : Bool) → ltb (position_or_len is_space line) (length line) ≡ t →
        cond t (Some (position_or_len is_space line)) None ≡ None → parts_of line ≡ line ∷ []
    by true is found = cc
    by false is found =
        let far = ltb-false (position_or_len is_space line) (length line) is in
        one_part line (within line (λ near. omega (arith, far, near)))
