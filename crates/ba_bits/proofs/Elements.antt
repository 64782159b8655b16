-- Arrays of words of bits, and the numbers that they spell.
use Rattle.std.proofs.Common.{◌≡◌, ℕ, zero, suc, ◌+◌, ◌-◌, ◌*◌, ◌%◌, ◌^◌, ◌<◌, ◌≤◌, ◌==◌, Bool, true, false, ◌&&◌, cond, if◌then◌else◌, List, [], ◌∷◌, ◌++◌, length, map, get_or, set, take, drop, replicate, refl, sym, ◌∙◌, ap, subst, arith, ℤ, pos, inl, inr}
use Rattle.std.proofs.lemmas.Bool.{and_parts, cases_eq}
use Rattle.std.proofs.lemmas.Bool.Decides.{nat_tests}
use Rattle.std.proofs.lemmas.Grind.{get_or-set_at}
use Rattle.std.proofs.lemmas.List.{ext_get_or, get_or-map, get_or-set_other, get_or_read, length-map, length-set, length-take-le, length_push, map_push, take-append-drop, take_all, take_more}
use Rattle.ba_bits.proofs.Laws.{low-at}
use Rattle.ba_bits.proofs.Low.{low-pos}
use Rattle.ba_bits.specs.Bits.{AreEntriesOf, firsts_in, numbers_in, value_in, values_in, word_at}
use Rattle.ba_cells.specs.Cells.{AreCellsOf, AreWritten, IsCellRead, cell_at, index_read}
use Rattle.ba_cells.proofs.Places.{cells-extends}
use Rattle.ba_nodes.specs.declared.Bit.{Bit}
use Rattle.ba_nodes.specs.declared.Node.{Node}
use Rattle.ba_nodes.specs.Gates.{Extends, truth}
use Rattle.ba_nodes.proofs.Truths.{Extends-through, Extends_refl}
use Rattle.ba_numbers.specs.Numbers.{low_word}
use Rattle.ba_wordlist.specs.Facts.{are_names, is_name}
use Rattle.ba_wordlist.specs.Meaning.{element_read}
use Rattle.ba_wordlist.proofs.Values.{of_name}
use Rattle.ba_words.specs.Words.{AreBitsOf, HasNumber, low_number, number_of, spelled}
use Rattle.ba_words.proofs.Circuits.{low_number_below, number_small}
use Rattle.ba_words.proofs.Digits.{spelled-append}
use Rattle.ba_words.proofs.Places.{number_of-extends}

-- EQUAL WORDS

pub cells-replicate : (nodes : List Node) (n : ℕ) (word : List Bit) → AreBitsOf nodes word
    → AreCellsOf nodes (replicate n word)
cells-replicate nodes zero word bits place inner = omega arith
cells-replicate nodes (suc n) word bits zero inner = bits inner
cells-replicate nodes (suc n) word bits (suc place) inner = cells-replicate nodes n word bits place inner

pub numbers-replicate : (free : ℕ → Bool) (nodes : List Node) (n : ℕ) (word : List Bit) (number : ℕ)
    → number_of free nodes word ≡ number → numbers_in free nodes (replicate n word) ≡ replicate n number
numbers-replicate free nodes zero word number is = refl
numbers-replicate free nodes (suc n) word number is =
    let rest = numbers-replicate free nodes n word number is in λ i. is i ∷ rest i

take-none : (n : ℕ) (words : List (List Bit)) → take n [] ++ words ≡ words
take-none zero words = refl
take-none (suc n) words = refl

pub all-equal : (count len : ℕ) (before : List (List Bit)) (word : List Bit) → before ≡ [] → len ≡ 0
    → take count before ++ replicate (count - len) word ≡ replicate count word
all-equal count len before word none empty =
    let left : count - len ≡ count = omega (arith, empty) in
    ap (λ words. take count words ++ replicate (count - len) word) none
    ∙ take-none count (replicate (count - len) word)
    ∙ ap (λ n. replicate n word) left

-- WORDS BEHIND OTHERS

pub cells-push : (nodes : List Node) (words : List (List Bit)) (word : List Bit) → AreCellsOf nodes words
    → AreBitsOf nodes word → AreCellsOf nodes (words ++ word ∷ [])
cells-push nodes [] word cells bits zero inner = bits inner
cells-push nodes [] word cells bits (suc place) inner = omega arith
cells-push nodes (first ∷ words) word cells bits zero inner = cells zero inner
cells-push nodes (first ∷ words) word cells bits (suc place) inner =
    cells-push nodes words word (λ p. cells (suc p)) bits place inner

pub cells-one : (nodes : List Node) (words : List (List Bit)) (word : List Bit) → words ≡ word ∷ []
    → AreBitsOf nodes word
    → AreCellsOf nodes words
cells-one nodes words word are bits = subst (λ words. AreCellsOf nodes words) (sym are)
    (cells-push nodes [] word (λ place inner. omega arith) bits)

-- words keep their numbers as nodes are added
pub numbers-extends : (free : ℕ → Bool) (old new : List Node) (words : List (List Bit)) → Extends old new
    → AreCellsOf old words → numbers_in free new words ≡ numbers_in free old words
numbers-extends free old new [] extends cells = refl
numbers-extends free old new (word ∷ words) extends cells =
    let first = number_of-extends free old new word extends (cells zero) in
    let rest = numbers-extends free old new words extends (λ p. cells (suc p)) in
    λ i. first i ∷ rest i

pub values-extends : (free : ℕ → Bool) (old new : List Node) (words : List (List Bit)) → Extends old new
    → AreCellsOf old words → values_in free new words ≡ values_in free old words
values-extends free old new [] extends cells = refl
values-extends free old new (word ∷ words) extends cells =
    let first = number_of-extends free old new word extends (cells zero) in
    let rest = values-extends free old new words extends (λ p. cells (suc p)) in
    λ i. pos (first i) ∷ rest i

firsts-extend : (free : ℕ → Bool) (old new : List Node) (entries : List (List (List Bit))) (ws : List ℕ)
    → Extends old new → AreEntriesOf old entries
    → map (λ w. value_in free new (word_at entries w)) ws
    ≡ map (λ w. value_in free old (word_at entries w)) ws
firsts-extend free old new entries [] extends are = refl
firsts-extend free old new entries (w ∷ ws) extends are =
    let first = number_of-extends free old new (word_at entries w) extends (are w 0) in
    let rest = firsts-extend free old new entries ws extends are in
    λ i. pos (first i) ∷ rest i

-- READING

pub value-cell : (free : ℕ → Bool) (nodes : List Node) (cells : List (List Bit)) (k : ℕ)
    → get_or (values_in free nodes cells) k (pos 0) ≡ pos (number_of free nodes (cell_at cells k))
value-cell free nodes [] k = refl
value-cell free nodes (cell ∷ cells) zero = refl
value-cell free nodes (cell ∷ cells) (suc k) = value-cell free nodes cells k

low-part : (low high n : ℕ) → n ≡ low + 2 ^ 8 * high → low < 2 ^ 8 → low ≡ n % 256
low-part low high n is small = omega arith

low-digits : (free : ℕ → Bool) (nodes : List Node) (word : List Bit) → length word ≡ 32
    → low_number free nodes word 8 ≡ number_of free nodes word % 256
low-digits free nodes word long =
    let eight : length (take 8 (map (truth free nodes) word)) ≡ 8 =
    length-take-le 8 (map (truth free nodes) word) (omega (arith, length-map word (truth free nodes), long))
    in
    low-part (low_number free nodes word 8) (spelled (drop 8 (map (truth free nodes) word)))
    (number_of free nodes word)
    (ap spelled (sym (take-append-drop 8 (map (truth free nodes) word)))
    ∙ spelled-append (take 8 (map (truth free nodes) word)) (drop 8 (map (truth free nodes) word))
    ∙ ap (λ n. low_number free nodes word 8 + 2 ^ n * spelled (drop 8 (map (truth free nodes) word))) eight)
    (low_number_below free nodes word 8 (omega (arith, long)))

pub read-low : (free : ℕ → Bool) (old new : List Node) (cells : List (List Bit)) (index word : List Bit)
    → length index ≡ 32 → length word ≡ 32 → IsCellRead old cells index new word
    → number_of free new word ≡ low_word (element_read (values_in free old cells) (value_in free old index))
read-low free old new cells index word index_long long read =
    let small = number_small free new word long in
    let index_small = number_small free old index index_long in
    let here : low_number free old index 8 ≡ low_word (value_in free old index) % 256 =
    low-digits free old index index_long
    ∙ ap (λ n. n % 256) (sym (low-pos (number_of free old index) index_small)) in
    let many : length cells ≡ length (values_in free old cells) =
    sym (length-map cells (value_in free old)) in
    sym (low-pos (number_of free new word) small)
    ∙ ap (λ n. low_word (pos n)) (read free)
    ∙ ap low_word (sym (value-cell free old cells
    (index_read (length cells) (low_number free old index 8))))
    ∙ (λ i. low_word (get_or (values_in free old cells) (index_read (many i) (here i)) (pos 0)))

-- A NUMBER OF 32 PLACES that is one of two

low-either : (t : Bool) (n a b : ℕ) → n ≡ (if t then a else b) → n < 2 ^ 32
    → n ≡ low_word (if t then pos a else pos b)
low-either true n a b is small = is ∙ sym (low-pos a (subst (λ k. k < 2 ^ 32) is small))
low-either false n a b is small = is ∙ sym (low-pos b (subst (λ k. k < 2 ^ 32) is small))

small-either : (t : Bool) (a b : ℕ) → a < 2 ^ 32 → b < 2 ^ 32 → (if t then a else b) < 2 ^ 32
small-either true a b first second = first
small-either false a b first second = second

-- WRITING

at-written : (b : Bool) (zs : List ℤ) (k : ℕ) (z : ℤ) (i : ℕ) → i < length zs
    → (if b && (k == i) then z else get_or zs i (pos 0)) ≡ get_or (cond b (set zs k z) zs) i (pos 0)
at-written false zs k z i within = refl
at-written true zs k z i within = elim (cases_eq i k) [
  | inl e ↦
      let same : (k == i) ≡ true = grind (arith, nat_tests) in
      ap (λ t. if t then z else get_or zs i (pos 0)) same
      ∙ sym (get_or-set_at zs k i z (pos 0) e (omega (arith, e, within)))
  | inr other ↦
      let differs : (k == i) ≡ false = grind (arith, nat_tests) in
      ap (λ t. if t then z else get_or zs i (pos 0)) differs ∙ sym (get_or-set_other zs k i z (pos 0) other)
]

long-written : (b : Bool) (zs : List ℤ) (k : ℕ) (z : ℤ) → length (cond b (set zs k z) zs) ≡ length zs
long-written true zs k z = length-set zs k z
long-written false zs k z = refl

module _ (old middle new : List Node) (cells written : List (List Bit)) (index value : List Bit) (bit : Bit)
    (extends : Extends old middle) (are_cells : AreCellsOf old cells) (index_bits : AreBitsOf old index)
    (value_bits : AreBitsOf old value) (cells_long : (k : ℕ) → k < length cells
    → length (cell_at cells k) ≡ 32)
    (index_long : length index ≡ 32) (value_long : length value ≡ 32) (long : length written ≡ length cells)
    (is_written : AreWritten (λ free. truth free middle bit) (λ free. number_of free middle index)
    middle cells value new written) where
  abbrev changed : (ℕ → Bool) → List ℤ
  changed free = cond (truth free middle bit)
      (set (values_in free middle cells) (number_of free middle index) (value_in free middle value))
      (values_in free middle cells)

  there : (free : ℕ → Bool) (i : ℕ) → i < length (numbers_in free new written)
      → get_or (numbers_in free new written) i 0 ≡ get_or (map low_word (changed free)) i 0
  there free i within =
      let inside : i < length written = omega (arith, within, length-map written (number_of free new)) in
      let among : i < length cells = omega (arith, inside, long) in
      let counted : i < length (values_in free middle cells) =
      omega (arith, among, length-map cells (value_in free middle)) in
      get_or-map (number_of free new) written i [] 0 inside
      ∙ is_written free i among
      ∙ low-either (truth free middle bit && (number_of free middle index == i)) _
      (number_of free middle value)
      (number_of free middle (cell_at cells i)) refl
      (small-either (truth free middle bit && (number_of free middle index == i))
      (number_of free middle value)
      (number_of free middle (cell_at cells i)) (number_small free middle value value_long)
      (number_small free middle (cell_at cells i) (cells_long i among)))
      ∙ ap (λ y. low_word (if truth free middle bit && (number_of free middle index == i)
      then value_in free middle value else y))
      (sym (value-cell free middle cells i))
      ∙ ap low_word (at-written (truth free middle bit) (values_in free middle cells)
      (number_of free middle index)
      (value_in free middle value) i counted)
      ∙ sym (low-at (changed free) i)

  pub written-numbers : (free : ℕ → Bool) (b : Bool) → truth free middle bit ≡ b
      → numbers_in free new written ≡ map low_word (cond b
      (set (values_in free old cells) (low_word (value_in free old index)) (value_in free old value))
      (values_in free old cells))
  written-numbers free b is =
      let cells_same = values-extends free old middle cells extends are_cells in
      let index_same = number_of-extends free old middle index extends index_bits
      ∙ sym (low-pos (number_of free old index) (number_small free old index index_long)) in
      let value_same = number_of-extends free old middle value extends value_bits in
      ext_get_or 0 (numbers_in free new written) (map low_word (changed free))
      (length-map written (number_of free new) ∙ long ∙ sym (length-map cells (value_in free middle))
      ∙ sym (long-written (truth free middle bit) (values_in free middle cells)
      (number_of free middle index) (value_in free middle value))
      ∙ sym (length-map (changed free) low_word))
      (there free)
      ∙ (λ i. map low_word (cond (is i) (set (cells_same i) (index_same i) (pos (value_same i)))
      (cells_same i)))

-- NAMED ENTRIES

pub name-at : (n : ℕ) (ws : List ℕ) (k : ℕ) → are_names n ws ≡ true → k < length ws → get_or ws k 0 < n
name-at n [] k h within = absurd (omega (arith, within))
name-at n (w ∷ ws) zero h within = of_name n w (and_parts (is_name n w) (are_names n ws) h).0
name-at n (w ∷ ws) (suc k) h within =
    name-at n ws k (and_parts (is_name n w) (are_names n ws) h).1 (omega (arith, within))

-- the first word of an entry, as it is read
pub named-first : (entries : List (List (List Bit))) (v : ℕ) (cells : List (List Bit)) (word : List Bit)
    → v < length entries → cells ≡ get_or entries v cells → word ≡ cell_at cells 0 → word ≡ word_at entries v
named-first entries v cells word below read is =
    is ∙ ap (λ cells. cell_at cells 0) (get_or_read entries v cells below read [])

-- SELECTING, one word after another

both-more : (t : Bool) (xs ys : List ℤ) (x y : ℤ)
    → map low_word (cond t xs ys) ++ low_word (if t then x else y) ∷ []
    ≡ map low_word (cond t (xs ++ x ∷ []) (ys ++ y ∷ []))
both-more true xs ys x y = sym (map_push low_word xs x)
both-more false xs ys x y = sym (map_push low_word ys y)

-- the low bits of the entries' first words if a bit is true, and else of the cells
abbrev pub numbers_chosen : (ℕ → Bool) → List Node → List (List (List Bit)) → List ℕ → List (List Bit) → Bit
    → ℕ → List ℕ
numbers_chosen free nodes entries values cells which i = map low_word (cond (truth free nodes which)
    (take i (map (λ w. value_in free nodes (word_at entries w)) values))
    (take i (values_in free nodes cells)))

pub record AreSelected (old nodes : List Node) (entries : List (List (List Bit))) (values : List ℕ)
    (cells : List (List Bit)) (which : Bit) (words : List (List Bit)) (i : ℕ) : Type 0 where
  pub extends : Extends old nodes
  pub long : length words ≡ i
  pub are_cells : AreCellsOf nodes words
  pub numbers : (free : ℕ → Bool) → numbers_in free nodes words
      ≡ numbers_chosen free old entries values cells which i

-- before the first word
pub selected-none : (old : List Node) (entries : List (List (List Bit))) (values : List ℕ)
    (cells : List (List Bit)) (which : Bit) → AreSelected old old entries values cells which [] 0
selected-none old entries values cells which = record {
  extends = Extends_refl old;
  long = refl;
  are_cells = λ place inner. omega arith;
  numbers = λ free. none (truth free old which);
}
  where
    none : (t : Bool) → ◌≡◌ {A = List ℕ} [] (map low_word (cond t [] []))
    none true = refl
    none false = refl

-- and after the last
pub selected-all : (free : ℕ → Bool) (nodes : List Node) (entries : List (List (List Bit))) (values : List ℕ)
    (cells : List (List Bit)) (which : Bit) (i : ℕ) → length values ≤ i → length cells ≤ i
    → numbers_chosen free nodes entries values cells which i ≡ map low_word (cond (truth free nodes which)
    (firsts_in free nodes entries values) (values_in free nodes cells))
selected-all free nodes entries values cells which i values_past cells_past =
    let firsts = take_all i (firsts_in free nodes entries values)
    (omega (arith, length-map values (λ w. value_in free nodes (word_at entries w)))) in
    let others = take_all i (values_in free nodes cells) (omega (
      arith,
      length-map cells
          (value_in free nodes),
    )) in
    λ j. map low_word (cond (truth free nodes which) (firsts j) (others j))

module _ (old nodes new : List Node) (entries : List (List (List Bit))) (values : List ℕ)
    (cells : List (List Bit))
    (which : Bit) (words : List (List Bit)) (word : List Bit) (i : ℕ) (named : which.index ≤ length old)
    (are_entries : AreEntriesOf old entries) (are_cells : AreCellsOf old cells) (few : i < length values)
    (within : i < length cells) (so : AreSelected old nodes entries values cells which words i)
    (extends : Extends nodes new)
    (has : HasNumber new word (λ free. if truth free nodes which
    then number_of free nodes (word_at entries (get_or values i 0))
    else number_of free nodes (cell_at cells i))) where
  abbrev chosen_at : (ℕ → Bool) → List Node → ℕ
  chosen_at free over = if truth free over which
      then number_of free over (word_at entries (get_or values i 0))
      else number_of free over (cell_at cells i)

  chosen-old : (free : ℕ → Bool) → chosen_at free nodes ≡ chosen_at free old
  chosen-old free =
      let bit_same = so.extends.keeps free which named in
      let yes_same = number_of-extends free old nodes (word_at entries (get_or values i 0)) so.extends
      (are_entries (get_or values i 0) 0) in
      let no_same = number_of-extends free old nodes (cell_at cells i) so.extends (are_cells i) in
      λ k. if bit_same k then yes_same k else no_same k

  abbrev value_chosen : (ℕ → Bool) → ℤ
  value_chosen free = if truth free old which
      then value_in free old (word_at entries (get_or values i 0)) else value_in free old (cell_at cells i)

  number-low : (free : ℕ → Bool) → number_of free new word ≡ low_word (value_chosen free)
  number-low free = low-either (truth free old which) (number_of free new word)
      (number_of free old (word_at entries (get_or values i 0))) (number_of free old (cell_at cells i))
      (has.holds free ∙ chosen-old free) (number_small free new word has.long)

  numbers-next : (free : ℕ → Bool)
      → numbers_in free new (words ++ word ∷ []) ≡ numbers_chosen free old entries values cells which (i + 1)
  numbers-next free =
      let counted : i < length (map (λ w. value_in free old (word_at entries w)) values) =
      omega (arith, few, length-map values (λ w. value_in free old (word_at entries w))) in
      let inside : i < length (values_in free old cells) =
      omega (arith, within, length-map cells (value_in free old)) in
      let firsts = take_more (map (λ w. value_in free old (word_at entries w)) values) i (pos 0) counted
      ∙ ap (λ z. take i (map (λ w. value_in free old (word_at entries w)) values) ++ z ∷ [])
      (get_or-map (λ w. value_in free old (word_at entries w)) values i 0 (pos 0) few) in
      let seconds = take_more (values_in free old cells) i (pos 0) inside
      ∙ ap (λ z. take i (values_in free old cells) ++ z ∷ []) (value-cell free old cells i) in
      let both : numbers_chosen free old entries values cells which (i + 1)
      ≡ map low_word (cond (truth free old which)
      (take i (map (λ w. value_in free old (word_at entries w)) values)
      ++ value_in free old (word_at entries (get_or values i 0)) ∷ [])
      (take i (values_in free old cells) ++ value_in free old (cell_at cells i) ∷ [])) =
      λ k. map low_word (cond (truth free old which) (firsts k) (seconds k)) in
      map_push (number_of free new) words word
      ∙ ap (λ ns. ns ++ number_of free new word ∷ [])
      (numbers-extends free nodes new words extends so.are_cells ∙ so.numbers free)
      ∙ ap (λ n. numbers_chosen free old entries values cells which i ++ n ∷ []) (number-low free)
      ∙ both-more (truth free old which) (take i (map (λ w. value_in free old (word_at entries w)) values))
      (take i (values_in free old cells)) (value_in free old (word_at entries (get_or values i 0)))
      (value_in free old (cell_at cells i))
      ∙ sym both

  pub selected-more : AreSelected old new entries values cells which (words ++ word ∷ []) (i + 1)
  selected-more = record {
    extends = Extends-through old nodes new so.extends extends;
    long = length_push words word ∙ ap (λ n. n + 1) so.long;
    are_cells = cells-push new words word (cells-extends nodes new words extends so.are_cells) has.are_bits;
    numbers = numbers-next;
  }

-- by earlier nodes
pub chosen-extends : (old middle : List Node) (entries : List (List (List Bit))) (values : List ℕ)
    (cells : List (List Bit)) (free : ℕ → Bool) (t b : Bool) → Extends old middle → AreEntriesOf old entries
    → AreCellsOf old cells → t ≡ b
    → map low_word (cond t (map (λ w. value_in free middle (word_at entries w)) values)
    (values_in free middle cells))
    ≡ map low_word (cond b (map (λ w. value_in free old (word_at entries w)) values)
    (values_in free old cells))
chosen-extends old middle entries values cells free t b extends are_entries are_cells is =
    let firsts = firsts-extend free old middle entries values extends are_entries in
    let seconds = values-extends free old middle cells extends are_cells in
    λ k. map low_word (cond (is k) (firsts k) (seconds k))
