-- The words of all entries, one entry after another.
use Rattle.std.proofs.Common.{◌≡◌, ℕ, zero, suc, ◌+◌, ◌<◌, ◌≤◌, Bool, true, false, List, [], ◌∷◌, ◌++◌, length, map, get_or, take, Some, slice_get, refl, sym, ◌∙◌, ap, subst, arith, ℤ, pos, ◌⊎◌, inl, inr}
use Rattle.std.proofs.lemmas.Bool.{and_from, and_parts}
use Rattle.std.proofs.lemmas.List.{get_or_append_left, get_or_push, length-map, length-take-le, length_push, map_push, take_more}
use Rattle.std.proofs.lemmas.Option.{get_or_from_slice_get, slice_get_read, slice_get_within}
use Rattle.ba_bits.proofs.Agreeing.{agree-less, agree-then}
use Rattle.ba_bits.proofs.Elements.{numbers-extends, values-extends}
use Rattle.ba_bits.proofs.Laws.{AreSame, entry-same}
use Rattle.ba_bits.proofs.Spelled.{elements-words, names-below}
use Rattle.ba_bits.proofs.Spelling.{low-agree}
use Rattle.ba_bits.specs.Bits.{AgreeBelow, AreEntries, AreEntriesOf, AreOthersZero, CanTake, IsTaken, SpellEntry, SpellZero, TakingAll, elements_in, is_needed, numbers_in, value_in, values_in, word_at, words_at}
use Rattle.ba_bits.specs.Needs.{names_of}
use Rattle.ba_cells.specs.Cells.{AreCellsOf, cell_at}
use Rattle.ba_cells.proofs.Places.{cells-extends}
use Rattle.ba_nodes.specs.declared.Bit.{Bit}
use Rattle.ba_nodes.specs.declared.Node.{Node}
use Rattle.ba_nodes.specs.Gates.{AreOrdered, Extends}
use Rattle.ba_numbers.specs.Numbers.{low_word}
use Rattle.ba_words.specs.Words.{AreBitsOf, number_of}
use Rattle.ba_words.proofs.Places.{low_number-all, number_of-extends}
use Rattle.ba_wordlist.specs.Facts.{are_names, are_words, fit_behind, fits_behind, is_name, length_of, lengths_of, more_lengths}
use Rattle.ba_wordlist.specs.Meaning.{Assignment, elements_at, entry_of}
use Rattle.ba_wordlist.proofs.Lengths.{length-lengths, lengths-push, words-at}
use Rattle.ba_wordlist.proofs.Values.{of_name}
use Rattle.ba_wordlist.specs.declared.words.WordOp.{WordOp}
use Rattle.ba_wordlist.specs.declared.words.WordOp.TheVariants.{Const, Free, Flag, Unary, Binary, Convert, Select, Read, Zeros, Fill, Write}

-- LISTS OF WORDS whose first entries fit

fit-take : (ls : List ℕ) (ops : List WordOp) (n : ℕ) → fit_behind ls ops ≡ true
    → fit_behind ls (take n ops) ≡ true
fit-take ls ops zero h = refl
fit-take ls [] (suc n) h = refl
fit-take ls (op ∷ ops) (suc n) h =
    let both = and_parts (fits_behind ls op) (fit_behind (more_lengths ls op) ops) h in
    and_from (fits_behind ls op) (fit_behind (more_lengths ls op) (take n ops)) both.0
    (fit-take (more_lengths ls op) ops n both.1)

pub words-take : (ops : List WordOp) (n : ℕ) → are_words ops ≡ true → are_words (take n ops) ≡ true
unfolding are_words
words-take ops n fit = fit-take [] ops n fit

-- ENTRIES BEHIND OTHERS

pub entries-push : (nodes : List Node) (entries : List (List (List Bit))) (words : List (List Bit))
    → AreEntriesOf nodes entries
    → AreCellsOf nodes words → AreEntriesOf nodes (entries ++ words ∷ [])
entries-push nodes [] words are cells zero place inner = cells place inner
entries-push nodes [] words are cells (suc w) place inner = omega arith
entries-push nodes (first ∷ entries) words are cells zero place inner = are zero place inner
entries-push nodes (first ∷ entries) words are cells (suc w) place inner =
    entries-push nodes entries words (λ w. are (suc w)) cells w place inner

-- an entry of a longer list is one of the shorter list, or the last
slice-push : (ops : List WordOp) (op own : WordOp) (w : ℕ) → slice_get (ops ++ op ∷ []) w ≡ Some own
    → ((w < length ops) × (slice_get ops w ≡ Some own)) ⊎ ((w ≡ length ops) × (op ≡ own))
slice-push [] op own zero found = inr (refl, cc)
slice-push [] op own (suc w) found = absurd (cc)
slice-push (first ∷ ops) op own zero found = inl (omega arith, found)
slice-push (first ∷ ops) op own (suc w) found = elim (slice-push ops op own w found) [
  | inl before ↦ inl (omega (arith, before.0), before.1)
  | inr last ↦ inr (ap suc last.0, last.1)
]

-- THE SAME NUMBERS

word-agree : (nodes : List Node) (free other : ℕ → Bool) (word : List Bit) → AreOrdered nodes
    → AgreeBelow (length nodes) free other → AreBitsOf nodes word
    → number_of free nodes word ≡ number_of other nodes word
word-agree nodes free other word ordered agree bits =
    sym (low_number-all free nodes word (length word) (omega arith))
    ∙ low-agree nodes free other word (length word) ordered agree bits
    ∙ low_number-all other nodes word (length word) (omega arith)

taken-same : (free other : ℕ → Bool) (nodes new : List Node) (op : WordOp) (z : ℤ) (words : List (List Bit))
    → number_of other new (cell_at words 0) ≡ number_of free nodes (cell_at words 0)
    → IsTaken free nodes op z words → IsTaken other new op z words
taken-same free other nodes new Free z words same is = same ∙ is
taken-same free other nodes new Flag z words same is = same ∙ is
taken-same free other nodes new (Const y) z words same is = tt
taken-same free other nodes new (Unary op t a) z words same is = tt
taken-same free other nodes new (Binary op t a b) z words same is = tt
taken-same free other nodes new (Convert t a) z words same is = tt
taken-same free other nodes new (Select which a b) z words same is = tt
taken-same free other nodes new (Read array index) z words same is = tt
taken-same free other nodes new (Zeros count) z words same is = tt
taken-same free other nodes new (Fill array values when) z words same is = tt
taken-same free other nodes new (Write array index value when) z words same is = tt

-- ONE MORE ENTRY

-- the words of an entry after others, if it is needed
pub record IsNext (nodes : List Node) (entries : List (List (List Bit))) (op : WordOp) (here : Bool)
    (new : List Node)
    (words : List (List Bit)) : Type 0 where
  pub extends : Extends nodes new
  pub are_cells : AreCellsOf new words
  pub long : length words ≡ length_of (map length entries) op
  pub spell : here ≡ true → SpellEntry nodes entries op new words
  pub can : here ≡ true → CanTake nodes op new words

module _ (old nodes new : List Node) (ops : List WordOp) (op : WordOp) (needed : List Bool)
    (entries : List (List (List Bit))) (words : List (List Bit)) (here : Bool)
    (grown : Extends old nodes) (ordered : AreOrdered nodes) (fit : are_words (ops ++ op ∷ []) ≡ true)
    (so : AreEntries old ops needed nodes entries) (is_here : is_needed needed (length ops) ≡ here)
    (next : IsNext nodes entries op here new words) where
  many : length entries ≡ length ops
  many = sym (length-map entries length) ∙ ap length so.lengths ∙ length-lengths ops

  lengths-next : map length (entries ++ words ∷ []) ≡ lengths_of (ops ++ op ∷ [])
  lengths-next =
      map_push length entries words
      ∙ ap (λ n. map length entries ++ n ∷ []) next.long
      ∙ ap (λ ls. ls ++ length_of ls op ∷ []) so.lengths
      ∙ sym (lengths-push ops op)

  cells-next : AreEntriesOf new (entries ++ words ∷ [])
  cells-next = entries-push new entries words
      (λ w. cells-extends nodes new (words_at entries w) next.extends (so.are_cells w))
      next.are_cells

  words-before : (w : ℕ) → w < length ops → words_at (entries ++ words ∷ []) w ≡ words_at entries w
  words-before w below = get_or_append_left entries (words ∷ []) [] w (omega (arith, below, many))

  words-last : (w : ℕ) → w ≡ length ops → words_at (entries ++ words ∷ []) w ≡ words
  words-last w at = get_or_push entries words [] w (many ∙ sym at)

  elements-before : (free : ℕ → Bool) (w : ℕ) → w < length ops
      → elements_at (elements_in free nodes entries) w
      ≡ elements_at (elements_in free new (entries ++ words ∷ [])) w
  elements-before free w below =
      elements-words free nodes entries w
      ∙ sym (values-extends free nodes new (words_at entries w) next.extends (so.are_cells w))
      ∙ ap (values_in free new) (sym (words-before w below))
      ∙ sym (elements-words free new (entries ++ words ∷ []) w)

  names-before : (free : ℕ → Bool) (n : ℕ) (ws : List ℕ) → n ≤ length ops → are_names n ws ≡ true
      → AreSame (elements_in free nodes entries) (elements_in free new (entries ++ words ∷ [])) ws
  names-before free n [] le names = tt
  names-before free n (w ∷ ws) le names =
      let both = and_parts (is_name n w) (are_names n ws) names in
      let below : w < n = of_name n w both.0 in
      (elements-before free w (omega (arith, below, le)), names-before free n ws le both.1)

  -- what an entry has by the entries before is what it has by all of them
  entry-next : (free : ℕ → Bool) (w : ℕ) (own : WordOp) (x : ℤ) → slice_get (ops ++ op ∷ []) w ≡ Some own
      → entry_of x (elements_in free nodes entries) own
      ≡ entry_of x (elements_in free new (entries ++ words ∷ [])) own
  entry-next free w own x found =
      let within : w < length (ops ++ op ∷ []) = slice_get_within (ops ++ op ∷ []) w own found in
      let is : get_or (ops ++ op ∷ []) w Free ≡ own =
      get_or_from_slice_get (ops ++ op ∷ []) w own Free found in
      entry-same x (elements_in free nodes entries) (elements_in free new (entries ++ words ∷ [])) own
      (names-before free w (names_of own) (omega (arith, within, length_push ops op))
      (subst (λ o. are_names w (names_of o) ≡ true) is (names-below (ops ++ op ∷ []) w fit within)))

  spell-before : (w : ℕ) (own : WordOp) → w < length ops → slice_get ops w ≡ Some own
      → is_needed needed w ≡ true
      → SpellEntry nodes entries own new (words_at entries w)
  spell-before w own below found need free =
      numbers-extends free nodes new (words_at entries w) next.extends (so.are_cells w)
      ∙ so.spell w own found need free
      ∙ ap (λ n. map low_word (entry_of (pos n) (elements_in free nodes entries) own))
      (sym (number_of-extends free nodes new (word_at entries w) next.extends (so.are_cells w 0)))

  spell-all : (w : ℕ) (own : WordOp) (ws : List (List Bit)) → slice_get (ops ++ op ∷ []) w ≡ Some own
      → words_at (entries ++ words ∷ []) w ≡ ws → SpellEntry nodes entries own new ws
      → SpellEntry new (entries ++ words ∷ []) own new (words_at (entries ++ words ∷ []) w)
  spell-all w own ws found is spells free =
      subst (λ ws. numbers_in free new ws
      ≡ map low_word (entry_of (value_in free new (cell_at ws 0))
      (elements_in free new (entries ++ words ∷ [])) own)) (sym is)
      (spells free ∙ ap (map low_word) (entry-next free w own (value_in free new (cell_at ws 0)) found))

  spell-next : (w : ℕ) (own : WordOp) → slice_get (ops ++ op ∷ []) w ≡ Some own → is_needed needed w ≡ true
      → SpellEntry new (entries ++ words ∷ []) own new (words_at (entries ++ words ∷ []) w)
  spell-next w own found need = elim (slice-push ops op own w found) [
    | inl before ↦ spell-all w own (words_at entries w) found (words-before w before.0)
        (spell-before w own before.0 before.1 need)
    | inr last ↦ spell-all w own words found (words-last w last.0)
        (subst (λ o. SpellEntry nodes entries o new words) last.1
        (next.spell (sym is_here ∙ ap (is_needed needed) (sym last.0) ∙ need)))
  ]

  module _ (start : ℕ → Bool) (f : Assignment) where
    abbrev before : TakingAll old ops needed nodes entries start f
    before = so.take start f

    taking : (free : ℕ → Bool) → AgreeBelow (length nodes) before.free free
        → (here ≡ true → IsTaken free new op (f (length ops)) words)
        → TakingAll old (ops ++ op ∷ []) needed new (entries ++ words ∷ []) start f
    taking free agree own_taken = record {
      free = free;
      agrees = agree-then (length old) start before.free free before.agrees
          (agree-less (length old) (length nodes) before.free free grown.grows agree);
      takes = λ w own found need. elim (slice-push ops op own w found) [
        | inl earlier ↦
            let bits = so.are_cells w 0 in
            subst (IsTaken free new own (f w)) (sym (words-before w earlier.0))
            (taken-same before.free free nodes new own (f w) (words_at entries w)
            (number_of-extends free nodes new (word_at entries w) next.extends bits
            ∙ sym (word-agree nodes before.free free (word_at entries w) ordered agree bits))
            (before.takes w own earlier.1 need))
        | inr last ↦
            subst (IsTaken free new own (f w)) (sym (words-last w last.0))
            (subst (λ k. IsTaken free new own (f k) words) (sym last.0)
            (subst (λ o. IsTaken free new o (f (length ops)) words) last.1
            (own_taken (sym is_here ∙ ap (is_needed needed) (sym last.0) ∙ need))))
      ];
    }

    by-need : (b : Bool) → here ≡ b
        → TakingAll old (ops ++ op ∷ []) needed new (entries ++ words ∷ []) start f
    by-need true is =
        let own = next.can is before.free (f (length ops)) in taking own.free own.agrees (λ yes. own.takes)
    by-need false is = taking before.free (λ k below. refl) (λ yes. absurd (cc (is, yes)))

  pub entries-more : AreEntries old (ops ++ op ∷ []) needed new (entries ++ words ∷ [])
  entries-more = record {
    lengths = lengths-next;
    are_cells = cells-next;
    spell = spell-next;
    take = λ start f. by-need start f here refl;
  }

pub entries-step : (old nodes new : List Node) (ops : List WordOp) (i : ℕ) (op : WordOp) (needed : List Bool)
    (entries read_entries : List (List (List Bit))) (words : List (List Bit)) → i < length ops
    → op ≡ get_or ops i op
    → Extends old nodes → AreOrdered nodes → are_words ops ≡ true
    → AreEntries old (take i ops) needed nodes entries
    → read_entries ≡ entries → IsNext nodes read_entries op (is_needed needed i) new words
    → AreEntries old (take (i + 1) ops) needed new (entries ++ words ∷ [])
entries-step old nodes new ops i op needed entries read_entries words within read grown ordered fit so same
    next =
    let longer : take (i + 1) ops ≡ take i ops ++ op ∷ [] =
    take_more ops i op within ∙ ap (λ o. take i ops ++ o ∷ []) (sym read) in
    let long : length (take i ops) ≡ i = length-take-le i ops (omega (arith, within)) in
    subst (λ os. AreEntries old os needed new (entries ++ words ∷ [])) (sym longer)
    (entries-more old nodes new (take i ops) op needed entries words (is_needed needed i) grown ordered
    (subst (λ os. are_words os ≡ true) longer (words-take ops (i + 1) fit)) so
    (ap (is_needed needed) long)
    (subst (λ es. IsNext nodes es op (is_needed needed i) new words) same next))

pub fits-step : (old nodes : List Node) (ops : List WordOp) (i : ℕ) (op : WordOp) (needed : List Bool)
    (entries read_entries : List (List (List Bit))) → i < length ops → op ≡ get_or ops i op
    → are_words ops ≡ true
    → AreEntries old (take i ops) needed nodes entries → read_entries ≡ entries
    → fits_behind (map length read_entries) op ≡ true
fits-step old nodes ops i op needed entries read_entries within read fit so same =
    subst (λ ls. fits_behind ls op ≡ true) (sym (ap (map length) same ∙ so.lengths))
    (words-at ops i op fit (slice_get_read ops (length ops) i op refl within read))

pub entries-none : (nodes : List Node) (needed : List Bool) → AreEntries nodes [] needed nodes []
unfolding lengths_of
entries-none nodes needed = record {
  lengths = refl;
  are_cells = λ w place inner. omega arith;
  spell = λ w op found need. absurd (cc);
  take = λ start f. record {
    free = start;
    agrees = λ k below. refl;
    takes = λ w op found need. absurd (cc);
  };
}

-- ENTRIES THAT AREN'T NEEDED

others-push : (here : ℕ → Bool) (entries : List (List (List Bit))) (words : List (List Bit))
    → ((w : ℕ) → here w ≡ false → SpellZero (words_at entries w))
    → (here (length entries) ≡ false → SpellZero words)
    → (w : ℕ) → here w ≡ false → SpellZero (words_at (entries ++ words ∷ []) w)
others-push here [] words so own zero not = own not
others-push here [] words so own (suc w) not = λ nodes free. refl
others-push here (first ∷ entries) words so own zero not = so zero not
others-push here (first ∷ entries) words so own (suc w) not =
    others-push (λ k. here (suc k)) entries words (λ k. so (suc k)) own w not

pub others-step : (old nodes : List Node) (ops : List WordOp) (i : ℕ) (needed : List Bool)
    (entries : List (List (List Bit))) (words : List (List Bit)) → i < length ops
    → AreEntries old (take i ops) needed nodes entries → AreOthersZero needed entries
    → (is_needed needed i ≡ false → SpellZero words) → AreOthersZero needed (entries ++ words ∷ [])
others-step old nodes ops i needed entries words within are so own =
    let many : length entries ≡ i =
    sym (length-map entries length) ∙ ap length are.lengths ∙ length-lengths (take i ops)
    ∙ length-take-le i ops (omega (arith, within)) in
    others-push (is_needed needed) entries words so
    (subst (λ k. is_needed needed k ≡ false → SpellZero words) (sym many) own)
