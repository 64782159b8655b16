-- The bits of needed entries spell what these have under the assignment that bits spell.
use Rattle.std.proofs.Common.{◌≡◌, ℕ, zero, suc, ◌+◌, ◌<◌, ◌≤◌, nat_lt, Bool, true, false, ◌||◌, List, [], ◌∷◌, map, length, get_or, take, drop, Some, slice_get, refl, sym, ◌∙◌, ap, subst, arith, ℤ, pos, neg_ℤ, ◌≤ℤ◌, inl, inr}
use Rattle.std.proofs.lemmas.Bool.{and_parts, cases_lt}
use Rattle.std.proofs.lemmas.Int.{ints}
use Rattle.std.proofs.lemmas.List.{length_push, length-take-le, take-append-drop}
use Rattle.std.proofs.lemmas.Option.{slice_get-get_or}
use Rattle.ba_code.proofs.Ranges.{in-test}
use Rattle.ba_bits.proofs.Laws.{Alike, AreAlike, entry-low, lows}
use Rattle.ba_bits.proofs.Low.{low-pos, low-small, nonzero-low, nonzero-pos}
use Rattle.ba_bits.specs.Bits.{AreEntries, assignment_of, elements_in, is_needed, numbers_in, value_in, values_in, word_at, words_at}
use Rattle.ba_bits.specs.Needs.{AreClosed, are_needed, names_of}
use Rattle.ba_cells.specs.Cells.{cell_at}
use Rattle.ba_nodes.specs.declared.Bit.{Bit}
use Rattle.ba_nodes.specs.declared.Node.{Node}
use Rattle.ba_numbers.specs.declared.numbers.CType.TheVariants.{I32, U32}
use Rattle.ba_numbers.specs.Numbers.{IsIn, is_in, low_word}
use Rattle.ba_words.specs.Words.{number_of}
use Rattle.ba_wordlist.specs.Facts.{are_names, are_words, fit_behind, fits_behind, is_name, is_word_value, length_of, more_lengths}
use Rattle.ba_wordlist.specs.Meaning.{Assignment, elements_at, is_nonzero, value_at, values_of}
use Rattle.ba_wordlist.proofs.Lengths.{values-in}
use Rattle.ba_wordlist.proofs.Values.{elements-entry, elements-kept, of_name}
use Rattle.ba_wordlist.specs.declared.words.WordOp.{WordOp}
use Rattle.ba_wordlist.specs.declared.words.WordOp.TheVariants.{Const, Free, Flag, Unary, Binary, Convert, Select, Read, Zeros, Fill, Write}

-- NUMBERS of words that are low bits

pos-lows : (zs : List ℤ) → lows (map pos (lows zs)) ≡ lows zs
pos-lows [] = refl
pos-lows (z ∷ zs) =
    ap (λ n. n ∷ lows (map pos (lows zs))) (low-pos (low_word z) (low-small z))
    ∙ ap (λ ns. low_word z ∷ ns) (pos-lows zs)

values-numbers : (free : ℕ → Bool) (nodes : List Node) (words : List (List Bit))
    → values_in free nodes words ≡ map pos (numbers_in free nodes words)
values-numbers free nodes [] = refl
values-numbers free nodes (word ∷ words) = ap (λ zs. value_in free nodes word ∷ zs)
    (values-numbers free nodes words)

pub elements-words : (free : ℕ → Bool) (nodes : List Node) (entries : List (List (List Bit))) (w : ℕ)
    → elements_at (elements_in free nodes entries) w ≡ values_in free nodes (words_at entries w)
elements-words free nodes [] w = refl
elements-words free nodes (words ∷ entries) zero = refl
elements-words free nodes (words ∷ entries) (suc w) = elements-words free nodes entries w

-- if the words of an entry have the low bits of some numbers, what they spell has them too
spelled-low : (free : ℕ → Bool) (nodes : List Node) (entries : List (List (List Bit))) (w : ℕ) (zs : List ℤ)
    → numbers_in free nodes (words_at entries w) ≡ lows zs
    → lows (elements_at (elements_in free nodes entries) w) ≡ lows zs
spelled-low free nodes entries w zs is =
    ap lows (elements-words free nodes entries w ∙ values-numbers free nodes (words_at entries w))
    ∙ ap (λ ns. lows (map pos ns)) is ∙ pos-lows zs

first-pos : (ns : List ℕ) → get_or (map pos ns) 0 (pos 0) ≡ pos (get_or ns 0 0)
first-pos [] = refl
first-pos (n ∷ ns) = refl

first-low : (zs : List ℤ) → get_or (lows zs) 0 0 ≡ low_word (get_or zs 0 (pos 0))
first-low [] = sym (low-pos 0 (omega arith))
first-low (z ∷ zs) = refl

first-number : (free : ℕ → Bool) (nodes : List Node) (words : List (List Bit))
    → get_or (numbers_in free nodes words) 0 0 ≡ number_of free nodes (cell_at words 0)
first-number free nodes [] = refl
first-number free nodes (word ∷ words) = refl

spelled-first : (free : ℕ → Bool) (nodes : List Node) (entries : List (List (List Bit))) (w : ℕ) (zs : List ℤ)
    → numbers_in free nodes (words_at entries w) ≡ lows zs
    → value_at (elements_in free nodes entries) w ≡ pos (low_word (get_or zs 0 (pos 0)))
spelled-first free nodes entries w zs is =
    ap (λ xs. get_or xs 0 (pos 0)) (elements-words free nodes entries w
    ∙ values-numbers free nodes (words_at entries w) ∙ ap (map pos) is)
    ∙ first-pos (lows zs) ∙ ap pos (first-low zs)

-- NAMES of an entry are before it

own-names : (ls : List ℕ) (op : WordOp) → fits_behind ls op ≡ true
    → are_names (length ls) (names_of op) ≡ true
own-names ls (Const z) h = refl
own-names ls Free h = refl
own-names ls Flag h = refl
own-names ls (Unary op t a) h = grind (arith, and_parts)
own-names ls (Binary op t a b) h = grind (arith, and_parts)
own-names ls (Convert t a) h = grind (arith, and_parts)
own-names ls (Select which a b) h = grind (arith, and_parts)
own-names ls (Read array index) h = grind (arith, and_parts)
own-names ls (Zeros count) h = refl
own-names ls (Fill array values when) h = grind (arith, and_parts)
own-names ls (Write array index value when) h = grind (arith, and_parts)

fits-at : (ls : List ℕ) (ops : List WordOp) (w : ℕ) → fit_behind ls ops ≡ true → w < length ops
    → are_names (length ls + w) (names_of (get_or ops w Free)) ≡ true
fits-at ls [] w h below = absurd (omega (arith, below))
fits-at ls (op ∷ ops) zero h below =
    let at : length ls ≡ length ls + 0 = omega arith in
    subst (λ n. are_names n (names_of op) ≡ true) at
    (own-names ls op (and_parts (fits_behind ls op) (fit_behind (more_lengths ls op) ops) h).0)
fits-at ls (op ∷ ops) (suc w) h below =
    let longer = length_push ls (length_of ls op) in
    let at : length (more_lengths ls op) + w ≡ length ls + suc w = omega (arith, longer) in
    subst (λ n. are_names n (names_of (get_or ops w Free)) ≡ true) at
    (fits-at (more_lengths ls op) ops w (and_parts (fits_behind ls op) (fit_behind (more_lengths ls op) ops)
    h).1
    (omega (arith, below)))

pub names-below : (ops : List WordOp) (w : ℕ) → are_words ops ≡ true → w < length ops
    → are_names w (names_of (get_or ops w Free)) ≡ true
unfolding are_words
names-below ops w fit below =
    let e : 0 + w ≡ w = omega arith in
    subst (λ n. are_names n (names_of (get_or ops w Free)) ≡ true) e (fits-at [] ops w fit below)

-- THE RANGE of a value

pub record IsWordValue (z : ℤ) : Type 0 where
  pub low : neg_ℤ (pos 0x80000000) ≤ℤ z
  pub high : z ≤ℤ pos 0xffffffff

wide-signed : (z : ℤ) → IsIn I32 z → IsWordValue z
wide-signed z i =
    let low : neg_ℤ (pos 0x80000000) ≤ℤ z = i.low in
    let high : z ≤ℤ pos 0x7fffffff = i.high in
    record { low = low; high = omega (arith, ints) }

wide-unsigned : (z : ℤ) → IsIn U32 z → IsWordValue z
wide-unsigned z i =
    let low : pos 0 ≤ℤ z = i.low in
    let high : z ≤ℤ pos 0xffffffff = i.high in
    record { low = omega (arith, ints); high = high }

pub word-value : (z : ℤ) → is_word_value z ≡ true → IsWordValue z
word-value z h = by_case (is_in I32 z) refl where
  by_case : (b : Bool) → is_in I32 z ≡ b → IsWordValue z
  by_case true is = wide-signed z (in-test I32 z is)
  by_case false is = wide-unsigned z (in-test U32 z (sym (ap (λ b. b || is_in U32 z) is) ∙ h))

-- what the first entries have is what they have alone
pub kept-before : (f : Assignment) (ops : List WordOp) (n w : ℕ) → n ≤ length ops → w < n
    → elements_at (values_of f ops) w ≡ elements_at (values_of f (take n ops)) w
kept-before f ops n w le below =
    let long : length (take n ops) ≡ n = length-take-le n ops le in
    let before : w < length (take n ops) = omega (arith, long, below) in
    ap (λ os. elements_at (values_of f os) w) (sym (take-append-drop n ops))
    ∙ elements-kept f (take n ops) (drop n ops) w before

-- THE LAW

module _ (old new : List Node) (ops : List WordOp) (needed : List Bool) (entries : List (List (List Bit)))
    (has : AreEntries old ops needed new entries) (closed : AreClosed ops needed) (fit : are_words ops ≡ true)
    (free : ℕ → Bool) where
  abbrev f : Assignment
  f = assignment_of free new entries

  abbrev us : List (List ℤ)
  us = elements_in free new entries

  abbrev Spells : ℕ → Type 0
  Spells w = numbers_in free new (words_at entries w) ≡ lows (elements_at (values_of f ops) w)

  alike-whole : (w : ℕ) → Spells w → Alike (values_of f ops) us w
  alike-whole w spells =
      let z : ℤ = value_at (values_of f ops) w in
      let wide = word-value z (values-in f ops w 0 fit) in
      let first : value_at us w ≡ pos (low_word z) =
      spelled-first free new entries w (elements_at (values_of f ops) w) spells in
      record {
        low = sym (spelled-low free new entries w (elements_at (values_of f ops) w) spells);
        nonzero = nonzero-low z wide.low wide.high ∙ sym (nonzero-pos (low_word z))
            ∙ ap is_nonzero (sym first);
      }

  alike-before : (n w : ℕ) → n ≤ length ops → w < n → Spells w → Alike (values_of f (take n ops)) us w
  alike-before n w le below spells =
      let whole = alike-whole w spells in
      let same = kept-before f ops n w le below in
      record {
        low = ap lows (sym same) ∙ whole.low;
        nonzero = ap (λ zs. is_nonzero (get_or zs 0 (pos 0))) (sym same) ∙ whole.nonzero;
      }

  names-alike : (n : ℕ) (ws : List ℕ) → n ≤ length ops → are_names n ws ≡ true → are_needed needed ws ≡ true
      → ((w : ℕ) → w < n → is_needed needed w ≡ true → Spells w) → AreAlike (values_of f (take n ops)) us ws
  names-alike n [] le names need before = tt
  names-alike n (w ∷ ws) le names need before =
      let two = and_parts (is_name n w) (are_names n ws) names in
      let both = and_parts (is_needed needed w) (are_needed needed ws) need in
      let below : w < n = of_name n w two.0 in
      (alike-before n w le below (before w below both.0), names-alike n ws le two.1 both.1 before)

  spells-at : (n : ℕ) → n < length ops → is_needed needed n ≡ true
      → ((w : ℕ) → w < n → is_needed needed w ≡ true → Spells w) → Spells n
  spells-at n below need before =
      let found : slice_get ops n ≡ Some (get_or ops n Free) = slice_get-get_or ops n Free below in
      has.spell n (get_or ops n Free) found need free
      ∙ sym (entry-low (f n) (values_of f (take n ops)) us (get_or ops n Free)
      (names-alike n (names_of (get_or ops n Free)) (omega (arith, below)) (names-below ops n fit below)
      (closed n (get_or ops n Free) found need) before))
      ∙ ap lows (sym (elements-entry f ops n (get_or ops n Free) found))

  spells-below : (n : ℕ) → n ≤ length ops → (w : ℕ) → w < n → is_needed needed w ≡ true → Spells w
  spells-below zero le w below need = absurd (omega (arith, below))
  spells-below (suc n) le w below need = elim (cases_lt w n) [
    | inl less ↦ spells-below n (omega (arith, le)) w less need
    | inr more ↦
        let at : n ≡ w = omega (arith, below, more) in
        subst Spells at (spells-at n (omega (arith, le)) (subst (λ k. is_needed needed k ≡ true)
        (sym at) need)
        (spells-below n (omega (arith, le))))
  ]

  -- the bits of a needed entry are the low bits of what it has, under the assignment that bits spell
  pub spelled : (w : ℕ) → w < length ops → is_needed needed w ≡ true → Spells w
  spelled w below need = spells-below (length ops) (omega arith) w below need

  -- the first word of a needed entry has the low bits of its value
  pub spelled-word : (w : ℕ) → w < length ops → is_needed needed w ≡ true
      → number_of free new (word_at entries w) ≡ low_word (value_at (values_of f ops) w)
  spelled-word w below need =
      sym (first-number free new (words_at entries w))
      ∙ ap (λ ns. get_or ns 0 0) (spelled w below need)
      ∙ first-low (elements_at (values_of f ops) w)

  -- and is other than 0 if this is
  pub spelled-nonzero : (w : ℕ) → w < length ops → is_needed needed w ≡ true
      → is_nonzero (value_in free new (word_at entries w)) ≡ is_nonzero (value_at (values_of f ops) w)
  spelled-nonzero w below need =
      let wide = word-value (value_at (values_of f ops) w) (values-in f ops w 0 fit) in
      nonzero-pos (number_of free new (word_at entries w))
      ∙ ap (nat_lt 0) (spelled-word w below need)
      ∙ sym (nonzero-low (value_at (values_of f ops) w) wide.low wide.high)
