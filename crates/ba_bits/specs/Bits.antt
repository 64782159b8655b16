-- The bits of the entries of a word list.

use Rattle.std.specs.Prelude.{◌≡◌, ℕ, ◌<◌, ℤ, pos, Bool, true, false, List, [], map, length, replicate, Some, slice_get, slice_index_or}
use Rattle.ba_cells.specs.Cells.{AreCellsOf, cell_at}
use Rattle.ba_nodes.specs.declared.Bit.{Bit}
use Rattle.ba_nodes.specs.declared.Node.{Node}
use Rattle.ba_numbers.specs.Numbers.{low_word}
use Rattle.ba_wordlist.specs.Facts.{lengths_of}
use Rattle.ba_wordlist.specs.Meaning.{Assignment, entry_of, is_nonzero}
use Rattle.ba_wordlist.specs.declared.words.WordOp.{WordOp}
use Rattle.ba_wordlist.specs.declared.words.WordOp.TheVariants.{Free, Flag}
use Rattle.ba_words.specs.Words.{HasNumber, digit, number_of}

-- the number of C that a word of bits spells, read as unsigned
abbrev pub value_in : (ℕ → Bool) → List Node → List Bit → ℤ
value_in free nodes word = pos (number_of free nodes word)

-- the word has the 32 low bits of a number of C under each assignment of the free bits
abbrev pub HasLowBits : List Node → List Bit → ((ℕ → Bool) → ℤ) → Type 0
HasLowBits nodes word value = HasNumber nodes word (λ free. low_word (value free))

-- the words of an entry
abbrev pub words_at : List (List (List Bit)) → ℕ → List (List Bit)
words_at entries w = slice_index_or entries w []

-- the first word of an entry
abbrev pub word_at : List (List (List Bit)) → ℕ → List Bit
word_at entries w = cell_at (words_at entries w) 0

-- the numbers that words spell
abbrev pub numbers_in : (ℕ → Bool) → List Node → List (List Bit) → List ℕ
numbers_in free nodes words = map (number_of free nodes) words

-- the same as numbers of C
abbrev pub values_in : (ℕ → Bool) → List Node → List (List Bit) → List ℤ
values_in free nodes words = map (value_in free nodes) words

-- the words have the 32 low bits of these numbers of C under each assignment of the free bits
abbrev pub HaveLowBits : List Node → List (List Bit) → ((ℕ → Bool) → List ℤ) → Type 0
HaveLowBits nodes words values = (free : ℕ → Bool) → numbers_in free nodes words ≡ map low_word (values free)

-- the numbers of the first words of these entries
abbrev pub firsts_in : (ℕ → Bool) → List Node → List (List (List Bit)) → List ℕ → List ℤ
firsts_in free nodes entries ws = map (λ w. value_in free nodes (word_at entries w)) ws

-- the numbers of all entries' words
abbrev pub elements_in : (ℕ → Bool) → List Node → List (List (List Bit)) → List (List ℤ)
elements_in free nodes entries = map (values_in free nodes) entries

-- the assignment of a list's free words and flags that bits spell
abbrev pub assignment_of : (ℕ → Bool) → List Node → List (List (List Bit)) → Assignment
assignment_of free nodes entries w = value_in free nodes (word_at entries w)

-- the words of each entry are words of these nodes
abbrev pub AreEntriesOf : List Node → List (List (List Bit)) → Type 0
AreEntriesOf nodes entries = (w : ℕ) → AreCellsOf nodes (words_at entries w)

-- the words spell the entry's elements, by what the words of earlier entries spell
abbrev pub SpellEntry : List Node → List (List (List Bit)) → WordOp → List Node → List (List Bit) → Type 0
SpellEntry old entries op new words = (free : ℕ → Bool) → numbers_in free new words
    ≡ map low_word (entry_of (value_in free new (cell_at words 0)) (elements_in free old entries) op)

-- a free word or a flag has the bits of this number
abbrev pub IsTaken : (ℕ → Bool) → List Node → WordOp → ℤ → List (List Bit) → Type 0
IsTaken free nodes Free z words = number_of free nodes (cell_at words 0) ≡ low_word z
IsTaken free nodes Flag z words = number_of free nodes (cell_at words 0) ≡ digit (is_nonzero z)
IsTaken free nodes _ z words = Unit {0}

-- two assignments of the free bits are the same below a number
abbrev pub AgreeBelow : ℕ → (ℕ → Bool) → (ℕ → Bool) → Type 0
AgreeBelow n free other = (k : ℕ) → k < n → free k ≡ other k

-- for any values of the earlier bits there are values of the new ones such that the entry has the bits of
-- this number
pub record Taking (old : List Node) (op : WordOp) (new : List Node) (words : List (List Bit))
    (start : ℕ → Bool) (z : ℤ) : Type 0 where
  pub free : ℕ → Bool
  pub agrees : AgreeBelow (length old) start free
  pub takes : IsTaken free new op z words

-- the entry can take each value, whatever the earlier bits are
abbrev pub CanTake : List Node → WordOp → List Node → List (List Bit) → Type 0
CanTake old op new words = (start : ℕ → Bool) (z : ℤ) → Taking old op new words start z

-- an entry is needed
abbrev pub is_needed : List Bool → ℕ → Bool
is_needed needed w = slice_index_or needed w false

-- the words spell 0 for all nodes and free bits
abbrev pub SpellZero : List (List Bit) → Type 0
SpellZero words = (nodes : List Node) (free : ℕ → Bool)
    → numbers_in free nodes words ≡ replicate (length words) 0

-- the words of each entry that isn't needed spell 0
abbrev pub AreOthersZero : List Bool → List (List (List Bit)) → Type 0
AreOthersZero needed entries = (w : ℕ) → is_needed needed w ≡ false → SpellZero (words_at entries w)

-- each needed free word and flag has the bits of its number
abbrev pub AreTaken : (ℕ → Bool) → List Node → List WordOp → List Bool → Assignment → List (List (List Bit))
    → Type 0
AreTaken free nodes ops needed f entries = (w : ℕ) (op : WordOp) → slice_get ops w ≡ Some op
    → is_needed needed w ≡ true → IsTaken free nodes op (f w) (words_at entries w)

-- an assignment under which the needed entries take these values, as `start` on the earlier bits
pub record TakingAll (old : List Node) (ops : List WordOp) (needed : List Bool) (new : List Node)
    (entries : List (List (List Bit))) (start : ℕ → Bool) (f : Assignment) : Type 0 where
  pub free : ℕ → Bool
  pub agrees : AgreeBelow (length old) start free
  pub takes : AreTaken free new ops needed f entries

-- The words of the entries of a list. Those that are needed spell their elements; free words and flags can
-- have the bits of any numbers.
pub record AreEntries (old : List Node) (ops : List WordOp) (needed : List Bool) (new : List Node)
    (entries : List (List (List Bit))) : Type 0 where
  pub lengths : map length entries ≡ lengths_of ops
  pub are_cells : AreEntriesOf new entries
  pub spell : (w : ℕ) (op : WordOp) → slice_get ops w ≡ Some op → is_needed needed w ≡ true
      → SpellEntry new entries op new (words_at entries w)
  pub take : (start : ℕ → Bool) (f : Assignment) → TakingAll old ops needed new entries start f
