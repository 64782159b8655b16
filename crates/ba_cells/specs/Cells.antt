-- Cells of words, read and written at a symbolic index.

use Rattle.std.specs.Prelude.{◌≡◌, ℕ, ◌<◌, ◌==◌, Bool, ◌&&◌, ◌*◌, ◌/◌, ◌%◌, ◌≤◌, nat_lt, List, [], length, slice_index_or, if◌then◌else◌}
use Rattle.ba_nodes.specs.declared.Bit.{Bit}
use Rattle.ba_nodes.specs.declared.Node.{Node}
use Rattle.ba_nodes.specs.Gates.{HasValue}
use Rattle.ba_words.specs.Words.{number_of, low_number, bit_at, AreBitsOf}

-- the cell at an index
abbrev pub cell_at : List (List Bit) → ℕ → List Bit
cell_at cells place = slice_index_or cells place []

-- the cells are words of these nodes
abbrev pub AreCellsOf : List Node → List (List Bit) → Type 0
AreCellsOf nodes cells = (place : ℕ) → AreBitsOf nodes (cell_at cells place)

-- the word has the number of the cell at the index, for each index in range
abbrev pub IsCellAt : (index : (ℕ → Bool) → ℕ) → List Node → List (List Bit) → List Node → List Bit → Type 0
IsCellAt index old cells new word =
    (free : ℕ → Bool) → index free < length cells →
    number_of free new word ≡ number_of free old (cell_at cells (index free))

-- the index that is read among this many cells: the first one if the given index is past the last
unfoldable pub index_read : (cells index : ℕ) → ℕ
index_read cells index = if nat_lt index cells then index else 0

-- the word has the number of the cell at the low 8 bits of the index, for each index
abbrev pub IsCellRead : List Node → List (List Bit) → (index : List Bit) → List Node → List Bit → Type 0
IsCellRead old cells index new word = (free : ℕ → Bool) →
    let place = index_read (length cells) (low_number free old index 8) in
    number_of free new word ≡ number_of free old (cell_at cells place)

-- the cells are the old ones, except that the one at the index has the value if the condition holds
abbrev pub AreWritten : (holds : (ℕ → Bool) → Bool) (index : (ℕ → Bool) → ℕ) → List Node → List (List Bit) →
    List Bit → List Node → List (List Bit) → Type 0
AreWritten holds index old cells value new written =
    (free : ℕ → Bool) (place : ℕ) → place < length cells →
    number_of free new (cell_at written place) ≡ (if holds free
    && (index free == place) then number_of free old value else number_of free old (cell_at cells place))

-- the bits tell for each number below a count whether it is this number
abbrev pub Spells : List Node → List Bit → (count : ℕ) → (number : (ℕ → Bool) → ℕ) → Type 0
Spells nodes bits count number =
    (n : ℕ) → n < count → HasValue nodes (bit_at bits n) (λ free. number free == n)

-- bits of rows and columns tell, for each of this many cells, whether the low 8 bits of an index lead to it
pub record IsGrid (nodes : List Node) (index : List Bit) (cells : ℕ) (rows columns : List Bit) (width : ℕ) :
    Type 0 where
  pub some : 0 < width
  pub wide : width ≤ 16
  pub all : cells ≤ 16 * width
  pub row : (n : ℕ) → n * width < cells →
      HasValue nodes (bit_at rows n) (λ free. low_number free nodes index 8 / width == n)
  pub column : Spells nodes columns width (λ free. low_number free nodes index 8 % width)
