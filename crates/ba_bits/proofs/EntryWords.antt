-- What the words of one entry spell, by its form.
use Rattle.std.proofs.Common.{◌≡◌, ℕ, zero, suc, Bool, true, false, List, [], ◌∷◌, cond, map, length, get_or, set, replicate, refl, sym, ◌∙◌, ap, subst, arith, ℤ, pos}
use Rattle.ba_bits.proofs.Elements.{value-cell}
use Rattle.ba_bits.proofs.Low.{low-converted, low-pos, low-small, low-truth, nonzero-digit}
use Rattle.ba_bits.proofs.Spelled.{elements-words}
use Rattle.ba_bits.proofs.Spelling.{with-below, with-here, with_bit}
use Rattle.ba_bits.specs.Bits.{CanTake, HasLowBits, IsTaken, SpellEntry, elements_in, numbers_in, value_in, values_in, word_at, words_at}
use Rattle.ba_bits.specs.Leaves.{CanSpell}
use Rattle.ba_cells.specs.Cells.{cell_at}
use Rattle.ba_nodes.specs.declared.Bit.{Bit}
use Rattle.ba_nodes.specs.declared.Node.{Node}
use Rattle.ba_nodes.specs.Gates.{HasValue, truth}
use Rattle.ba_numbers.specs.declared.numbers.BinOp.{BinOp}
use Rattle.ba_numbers.specs.declared.numbers.CType.{CType}
use Rattle.ba_numbers.specs.declared.numbers.UnOp.{UnOp}
use Rattle.ba_code.specs.Operators.{converting}
use Rattle.ba_numbers.specs.declared.numbers.CType.TheVariants.{I32}
use Rattle.ba_numbers.specs.Numbers.{converted, low_word, truth as number_of_truth}
use Rattle.ba_words.specs.Words.{HasNumber, digit, number_of}
use Rattle.ba_words.proofs.Circuits.{number_small}
use Rattle.ba_wordlist.specs.Facts.{length_of}
use Rattle.ba_wordlist.specs.Meaning.{binary_value, element_read, entry_of, is_nonzero, value_at}
use Rattle.ba_wordlist.specs.declared.words.WordOp.{WordOp}
use Rattle.ba_wordlist.specs.declared.words.WordOp.TheVariants.{Const, Free, Flag, Unary, Binary, Convert, Select, Read, Zeros, Fill, Write}

-- the value of an entry's first word
pub value-word : (free : ℕ → Bool) (nodes : List Node) (entries : List (List (List Bit))) (w : ℕ)
    → value_at (elements_in free nodes entries) w ≡ value_in free nodes (word_at entries w)
value-word free nodes entries w =
    ap (λ zs. get_or zs 0 (pos 0)) (elements-words free nodes entries w)
    ∙ value-cell free nodes (words_at entries w) 0

value-words : (free : ℕ → Bool) (nodes : List Node) (entries : List (List (List Bit))) (ws : List ℕ)
    → map (value_at (elements_in free nodes entries)) ws
    ≡ map (λ w. value_in free nodes (word_at entries w)) ws
value-words free nodes entries [] = refl
value-words free nodes entries (w ∷ ws) =
    let first = value-word free nodes entries w in
    let rest = value-words free nodes entries ws in
    λ i. first i ∷ rest i

module _ (old new : List Node) (entries : List (List (List Bit))) (op : WordOp) (words : List (List Bit))
  where
    -- a single word
    one-spelled : (word : List Bit) (value : (ℕ → Bool) → ℤ) → words ≡ word ∷ [] → HasLowBits new word value
        → ((free : ℕ → Bool) (x : ℤ) → entry_of x (elements_in free old entries) op ≡ value free ∷ [])
        → SpellEntry old entries op new words
    one-spelled word value are has same free =
        ap (numbers_in free new) are
        ∙ ap (λ n. n ∷ []) (has.holds free)
        ∙ sym (ap (map low_word) (same free (value_in free new (cell_at words 0))))

    pub spell-const : (z : ℤ) (word : List Bit) → op ≡ Const z → words ≡ word ∷ []
        → HasLowBits new word (λ free. z)
        → SpellEntry old entries op new words
    spell-const z word is are has =
        one-spelled word (λ free. z) are has (λ free x. ap (entry_of x (elements_in free old entries)) is)

    own-number : (free : ℕ → Bool) (word : List Bit) → length word ≡ 32
        → number_of free new word ≡ low_word (converted I32 (value_in free new word))
    own-number free word long =
        sym (low-converted true (value_in free new word)
        ∙ low-pos (number_of free new word) (number_small free new word long))

    pub spell-free : (word : List Bit) → op ≡ Free → words ≡ word ∷ [] → length word ≡ 32
        → SpellEntry old entries op new words
    spell-free word is are long free =
        ap (numbers_in free new) are
        ∙ ap (λ n. n ∷ []) (own-number free word long)
        ∙ ap (λ words. low_word (converted I32 (value_in free new (cell_at words 0))) ∷ []) (sym are)
        ∙ sym (ap (λ o. map low_word (entry_of (value_in free new (cell_at words 0))
        (elements_in free old entries) o)) is)

    pub spell-flag : (word : List Bit) (bit : Bit) → op ≡ Flag → words ≡ word ∷ []
        → HasNumber new word (λ free. digit (truth free new bit)) → SpellEntry old entries op new words
    spell-flag word bit is are has free =
        ap (numbers_in free new) are
        ∙ ap (λ n. n ∷ []) (has.holds free ∙ sym (low-truth (truth free new bit))
        ∙ ap (λ b. low_word (number_of_truth b))
        (sym (nonzero-digit (number_of free new word) (truth free new bit) (has.holds free))))
        ∙ ap (λ words. low_word (number_of_truth (is_nonzero (value_in free new (cell_at words 0)))) ∷ [])
        (sym are)
        ∙ sym (ap (λ o. map low_word (entry_of (value_in free new (cell_at words 0))
        (elements_in free old entries) o)) is)

    pub spell-binary : (b : BinOp) (t : CType) (l r : ℕ) (first second word : List Bit) → op ≡ Binary b t l r
        → first ≡ word_at entries l → second ≡ word_at entries r → words ≡ word ∷ []
        → HasLowBits new word (λ free. binary_value b t (value_in free old first) (value_in free old second))
        → SpellEntry old entries op new words
    spell-binary b t l r first second word is first_is second_is are has =
        one-spelled word (λ free. binary_value b t (value_in free old first) (value_in free old second)) are
        has
        (λ free x.
        let left = value-word free old entries l ∙ ap (value_in free old) (sym first_is) in
        let right = value-word free old entries r ∙ ap (value_in free old) (sym second_is) in
        ap (entry_of x (elements_in free old entries)) is ∙ (λ i. binary_value b t (left i) (right i) ∷ []))

    pub spell-unary : (o : UnOp) (t : CType) (a : ℕ) (first word : List Bit) → op ≡ Unary o t a
        → first ≡ word_at entries a → words ≡ word ∷ []
        → HasLowBits new word (λ free. converting.unary o t (value_in free old first))
        → SpellEntry old entries op new words
    spell-unary o t a first word is first_is are has =
        one-spelled word (λ free. converting.unary o t (value_in free old first)) are has
        (λ free x.
        let only = value-word free old entries a ∙ ap (value_in free old) (sym first_is) in
        ap (entry_of x (elements_in free old entries)) is ∙ (λ i. converting.unary o t (only i) ∷ []))

    pub spell-convert : (t : CType) (a : ℕ) (first word : List Bit) → op ≡ Convert t a
        → first ≡ word_at entries a → words ≡ word ∷ []
        → HasLowBits new word (λ free. converted t (value_in free old first))
        → SpellEntry old entries op new words
    spell-convert t a first word is first_is are has =
        one-spelled word (λ free. converted t (value_in free old first)) are has
        (λ free x.
        let only = value-word free old entries a ∙ ap (value_in free old) (sym first_is) in
        ap (entry_of x (elements_in free old entries)) is ∙ (λ i. converted t (only i) ∷ []))

    pub spell-select : (which a b : ℕ) (chooser first second word : List Bit) → op ≡ Select which a b
        → chooser ≡ word_at entries which → first ≡ word_at entries a → second ≡ word_at entries b
        → words ≡ word ∷ []
        → HasLowBits new word (λ free. cond (is_nonzero (value_in free old chooser)) (value_in free old first)
        (value_in free old second))
        → SpellEntry old entries op new words
    spell-select which a b chooser first second word is chooser_is first_is second_is are has =
        one-spelled word (λ free. cond (is_nonzero (value_in free old chooser)) (value_in free old first)
        (value_in free old second)) are has
        (λ free x.
        let test = value-word free old entries which ∙ ap (value_in free old) (sym chooser_is) in
        let left = value-word free old entries a ∙ ap (value_in free old) (sym first_is) in
        let right = value-word free old entries b ∙ ap (value_in free old) (sym second_is) in
        ap (entry_of x (elements_in free old entries)) is
        ∙ (λ i. cond (is_nonzero (test i)) (left i) (right i) ∷ []))

    pub spell-read : (array index : ℕ) (cells : List (List Bit)) (at_word word : List Bit) → op ≡ Read array
        index
        → cells ≡ words_at entries array → at_word ≡ word_at entries index → words ≡ word ∷ []
        → HasLowBits new word (λ free. element_read (values_in free old cells) (value_in free old at_word))
        → SpellEntry old entries op new words
    spell-read array index cells at_word word is cells_is at_is are has =
        one-spelled word (λ free. element_read (values_in free old cells) (value_in free old at_word)) are has
        (λ free x.
        let elements = elements-words free old entries array ∙ ap (values_in free old) (sym cells_is) in
        let place = value-word free old entries index ∙ ap (value_in free old) (sym at_is) in
        ap (entry_of x (elements_in free old entries)) is ∙ (λ i. element_read (elements i) (place i) ∷ []))

    zero-lows : (n : ℕ) → replicate n 0 ≡ map low_word (replicate n (pos 0))
    zero-lows zero = refl
    zero-lows (suc n) =
        let none = sym (low-pos 0 (omega arith)) in
        let rest = zero-lows n in
        λ i. none i ∷ rest i

    pub spell-zeros : (count : ℕ) → op ≡ Zeros count
        → ((free : ℕ → Bool) → numbers_in free new words ≡ replicate count 0)
        → SpellEntry old entries op new words
    spell-zeros count is zeros free =
        zeros free ∙ zero-lows count
        ∙ sym (ap (λ o. map low_word (entry_of (value_in free new (cell_at words 0))
        (elements_in free old entries) o)) is)

    pub spell-fill : (of : ℕ) (values : List ℕ) (when : ℕ) (array : List (List Bit)) (set_by : List Bit)
        → op ≡ Fill of values when
        → array ≡ words_at entries of → set_by ≡ word_at entries when
        → ((free : ℕ → Bool) → numbers_in free new words
        ≡ map low_word (cond (is_nonzero (value_in free old set_by))
        (map (λ w. value_in free old (word_at entries w)) values) (values_in free old array)))
        → SpellEntry old entries op new words
    spell-fill of values when array set_by is array_is set_is filled free =
        let test = value-word free old entries when ∙ ap (value_in free old) (sym set_is) in
        let firsts = value-words free old entries values in
        let cells = elements-words free old entries of ∙ ap (values_in free old) (sym array_is) in
        let both : map low_word (entry_of (value_in free new (cell_at words 0)) (elements_in free old entries)
        (Fill of values when))
        ≡ map low_word (cond (is_nonzero (value_in free old set_by))
        (map (λ w. value_in free old (word_at entries w)) values) (values_in free old array)) =
        λ i. map low_word (cond (is_nonzero (test i)) (firsts i) (cells i)) in
        filled free
        ∙ sym (ap (λ o. map low_word (entry_of (value_in free new (cell_at words 0))
        (elements_in free old entries) o)) is ∙ both)

    pub spell-write : (of index value when : ℕ) (array : List (List Bit))
        (at_word value_word set_by : List Bit)
        → op ≡ Write of index value when
        → array ≡ words_at entries of → at_word ≡ word_at entries index → value_word ≡ word_at entries value
        → set_by ≡ word_at entries when
        → ((free : ℕ → Bool) → numbers_in free new words
        ≡ map low_word (cond (is_nonzero (value_in free old set_by))
        (set (values_in free old array) (low_word (value_in free old at_word)) (value_in free old value_word))
        (values_in free old array)))
        → SpellEntry old entries op new words
    spell-write of index value when array at_word value_word set_by is array_is at_is value_is set_is written
        free =
        let test = value-word free old entries when ∙ ap (value_in free old) (sym set_is) in
        let place = value-word free old entries index ∙ ap (value_in free old) (sym at_is) in
        let new_value = value-word free old entries value ∙ ap (value_in free old) (sym value_is) in
        let cells = elements-words free old entries of ∙ ap (values_in free old) (sym array_is) in
        let both : map low_word (entry_of (value_in free new (cell_at words 0)) (elements_in free old entries)
        (Write of index value when))
        ≡ map low_word (cond (is_nonzero (value_in free old set_by))
        (set (values_in free old array) (low_word (value_in free old at_word)) (value_in free old value_word))
        (values_in free old array)) =
        λ i. map low_word (cond (is_nonzero (test i)) (set (cells i) (low_word (place i)) (new_value i))
        (cells i)) in
        written free
        ∙ sym (ap (λ o. map low_word (entry_of (value_in free new (cell_at words 0))
        (elements_in free old entries) o)) is ∙ both)

-- a single word is one
pub one-long : (lengths : List ℕ) (op : WordOp) (words : List (List Bit)) (word : List Bit) → words ≡ word ∷
    []
    → length_of lengths op ≡ 1 → length words ≡ length_of lengths op
one-long lengths op words word are one = ap length are ∙ sym one

-- WHICH NUMBERS an entry can have

abbrev pub is_open : WordOp → Bool
is_open Free = true
is_open Flag = true
is_open _ = false

none-taken : (free : ℕ → Bool) (nodes : List Node) (op : WordOp) (z : ℤ) (words : List (List Bit))
    → is_open op ≡ false
    → IsTaken free nodes op z words
none-taken free nodes (Const y) z words h = tt
none-taken free nodes Free z words h = absurd (cc)
none-taken free nodes Flag z words h = absurd (cc)
none-taken free nodes (Unary op t a) z words h = tt
none-taken free nodes (Binary op t a b) z words h = tt
none-taken free nodes (Convert t a) z words h = tt
none-taken free nodes (Select which a b) z words h = tt
none-taken free nodes (Read array index) z words h = tt
none-taken free nodes (Zeros count) z words h = tt
none-taken free nodes (Fill array values when) z words h = tt
none-taken free nodes (Write array index value when) z words h = tt

pub take-nothing : (old new : List Node) (op : WordOp) (words : List (List Bit)) → is_open op ≡ false
    → CanTake old op new words
take-nothing old new op words closed start z = record {
  free = start;
  agrees = λ k below. refl;
  takes = none-taken start new op z words closed;
}

pub take-free : (old new : List Node) (op : WordOp) (word : List Bit) (words : List (List Bit)) → op ≡ Free
    → words ≡ word ∷ [] → CanSpell old new word → CanTake old op new words
take-free old new op word words is are can start z =
    let spelling = can start (low_word z) (low-small z) in
    record {
      free = spelling.free;
      agrees = spelling.agrees;
      takes = subst (λ o. IsTaken spelling.free new o z words) (sym is)
          (ap (λ words. number_of spelling.free new (cell_at words 0)) are ∙ spelling.spells);
    }

pub take-flag : (old new : List Node) (op : WordOp) (word : List Bit) (bit : Bit) (words : List (List Bit))
    → op ≡ Flag
    → words ≡ word ∷ [] → HasValue new bit (λ free. free (length old))
    → HasNumber new word (λ free. digit (truth free new bit)) → CanTake old op new words
take-flag old new op word bit words is are open_bit has start z = record {
  free = with_bit start (length old) (is_nonzero z);
  agrees = with-below start (length old) (is_nonzero z);
  takes = subst (λ o. IsTaken (with_bit start (length old) (is_nonzero z)) new o z words) (sym is)
      (ap (λ words. number_of (with_bit start (length old) (is_nonzero z)) new (cell_at words 0)) are
      ∙ has.holds (with_bit start (length old) (is_nonzero z))
      ∙ ap digit (open_bit.holds (with_bit start (length old) (is_nonzero z))
      ∙ with-here start (length old) (is_nonzero z)));
}
