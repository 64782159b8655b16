-- Needed entries have the same under numbers, and under those that bits spell if these are the bits of the
-- numbers.
use Rattle.std.proofs.Common.{◌≡◌, ℕ, zero, suc, ◌<◌, ◌≤◌, Bool, true, List, [], ◌∷◌, length, get_or, take, Some, slice_get, refl, sym, ◌∙◌, ap, subst, arith, ℤ, pos, inl, inr}
use Rattle.std.proofs.lemmas.Bool.{and_parts, cases_lt}
use Rattle.std.proofs.lemmas.Option.{slice_get-get_or}
use Rattle.ba_bits.proofs.Laws.{AreSame, entry-same}
use Rattle.ba_bits.proofs.Low.{converted-word, nonzero-digit}
use Rattle.ba_bits.proofs.Spelled.{kept-before, names-below}
use Rattle.ba_bits.specs.Bits.{AreTaken, IsTaken, assignment_of, is_needed, value_in, words_at}
use Rattle.ba_bits.specs.Needs.{AreClosed, are_needed, names_of}
use Rattle.ba_cells.specs.Cells.{cell_at}
use Rattle.ba_nodes.specs.declared.Bit.{Bit}
use Rattle.ba_nodes.specs.declared.Node.{Node}
use Rattle.ba_numbers.specs.declared.numbers.CType.TheVariants.{I32}
use Rattle.ba_numbers.specs.Numbers.{converted, truth}
use Rattle.ba_words.specs.Words.{number_of}
use Rattle.ba_wordlist.specs.Facts.{are_names, are_words, is_name}
use Rattle.ba_wordlist.specs.Meaning.{Assignment, elements_at, entry_of, is_nonzero, value_at, values_of}
use Rattle.ba_wordlist.proofs.Values.{elements-entry, of_name}
use Rattle.ba_wordlist.specs.declared.words.WordOp.{WordOp}
use Rattle.ba_wordlist.specs.declared.words.WordOp.TheVariants.{Const, Free, Flag, Unary, Binary, Convert, Select, Read, Zeros, Fill, Write}

-- a free word or a flag has the same by a number and by what its bits spell
entry-taken : (free : ℕ → Bool) (nodes : List Node) (op : WordOp) (z : ℤ) (words : List (List Bit))
    (vs : List (List ℤ))
    → IsTaken free nodes op z words
    → entry_of z vs op ≡ entry_of (value_in free nodes (cell_at words 0)) vs op
entry-taken free nodes (Const y) z words vs is = refl
entry-taken free nodes Free z words vs is =
    ap (λ x. x ∷ []) (sym (converted-word I32 z) ∙ ap (λ n. converted I32 (pos n)) (sym is))
entry-taken free nodes Flag z words vs is =
    ap (λ b. truth b ∷ []) (sym (nonzero-digit (number_of free nodes (cell_at words 0)) (is_nonzero z) is))
entry-taken free nodes (Unary op t a) z words vs is = refl
entry-taken free nodes (Binary op t a b) z words vs is = refl
entry-taken free nodes (Convert t a) z words vs is = refl
entry-taken free nodes (Select which a b) z words vs is = refl
entry-taken free nodes (Read array index) z words vs is = refl
entry-taken free nodes (Zeros count) z words vs is = refl
entry-taken free nodes (Fill array values when) z words vs is = refl
entry-taken free nodes (Write array index value when) z words vs is = refl

module _ (new : List Node) (ops : List WordOp) (needed : List Bool) (entries : List (List (List Bit)))
    (closed : AreClosed ops needed) (fit : are_words ops ≡ true) (free : ℕ → Bool) (f : Assignment)
    (taken : AreTaken free new ops needed f entries) where
  abbrev g : Assignment
  g = assignment_of free new entries

  abbrev Same : ℕ → Type 0
  Same w = elements_at (values_of f ops) w ≡ elements_at (values_of g ops) w

  names-same : (n : ℕ) (ws : List ℕ) → n ≤ length ops → are_names n ws ≡ true → are_needed needed ws ≡ true
      → ((w : ℕ) → w < n → is_needed needed w ≡ true → Same w)
      → AreSame (values_of f (take n ops)) (values_of g (take n ops)) ws
  names-same n [] le names need before = tt
  names-same n (w ∷ ws) le names need before =
      let two = and_parts (is_name n w) (are_names n ws) names in
      let both = and_parts (is_needed needed w) (are_needed needed ws) need in
      let below : w < n = of_name n w two.0 in (
        sym (kept-before f ops n w le below) ∙ before w below both.0 ∙ kept-before g ops n w le below,
        names-same n ws le two.1 both.1 before,
      )

  same-at : (n : ℕ) → n < length ops → is_needed needed n ≡ true
      → ((w : ℕ) → w < n → is_needed needed w ≡ true → Same w) → Same n
  same-at n below need before =
      let found : slice_get ops n ≡ Some (get_or ops n Free) = slice_get-get_or ops n Free below in
      elements-entry f ops n (get_or ops n Free) found
      ∙ entry-same (f n) (values_of f (take n ops)) (values_of g (take n ops)) (get_or ops n Free)
      (names-same n (names_of (get_or ops n Free)) (omega (arith, below)) (names-below ops n fit below)
      (closed n (get_or ops n Free) found need) before)
      ∙ entry-taken free new (get_or ops n Free) (f n) (words_at entries n) (values_of g (take n ops))
      (taken n (get_or ops n Free) found need)
      ∙ sym (elements-entry g ops n (get_or ops n Free) found)

  same-below : (n : ℕ) → n ≤ length ops → (w : ℕ) → w < n → is_needed needed w ≡ true → Same w
  same-below zero le w below need = absurd (omega (arith, below))
  same-below (suc n) le w below need = elim (cases_lt w n) [
    | inl less ↦ same-below n (omega (arith, le)) w less need
    | inr more ↦
        let at : n ≡ w = omega (arith, below, more) in
        subst Same at (same-at n (omega (arith, le)) (subst (λ k. is_needed needed k ≡ true) (sym at) need)
        (same-below n (omega (arith, le))))
  ]

  -- a needed entry has the same under the numbers and under those that bits spell
  pub same : (w : ℕ) → w < length ops → is_needed needed w ≡ true → Same w
  same w below need = same-below (length ops) (omega arith) w below need

  pub same-value : (w : ℕ) → w < length ops → is_needed needed w ≡ true
      → value_at (values_of f ops) w ≡ value_at (values_of g ops) w
  same-value w below need = ap (λ zs. get_or zs 0 (pos 0)) (same w below need)
