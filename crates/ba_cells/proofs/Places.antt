-- Places as the low bits of an index spell them.

use Rattle.std.proofs.Common.{◌≡◌, ◌≢◌, ℕ, zero, suc, ◌+◌, ◌*◌, ◌/◌, ◌%◌, ◌^◌, ◌<◌, ◌≤◌, ◌==◌, nat_lt, Bool, true, false, not, ◌&&◌, List, ◌∷◌, length, map, drop, inl, inr, refl, sym, ap, ◌∙◌, arith, if◌then◌else◌}
use Rattle.std.proofs.lemmas.Bool.{cases_lt, cases_eq}
use Rattle.std.proofs.lemmas.Bool.Decides.{nat_tests}
use Rattle.std.proofs.lemmas.Nat.{div-add-mod'}
use native.Mathlib.Nat.{mod-lt}
use Rattle.ba_nodes.specs.declared.Bit.{Bit}
use Rattle.ba_nodes.specs.declared.Node.{Node}
use Rattle.ba_nodes.specs.Gates.{truth, Extends, HasValue}
use Rattle.ba_nodes.proofs.Truths.{Extends_refl}
use Rattle.ba_words.specs.Words.{digit, spelled, number_of, low_number, bit_at, AreBitsOf}
use Rattle.ba_words.proofs.Digits.{digit_small}
use Rattle.ba_words.proofs.Places.{are_bits-extends, low_number-extends}
use Rattle.ba_words.proofs.Circuits.{HasValue-same, low_number_below, low_number-two_more}
use Rattle.ba_words.proofs.Shapes.{number-split}
use Rattle.ba_cells.specs.Cells.{cell_at, AreCellsOf, IsCellAt, IsCellRead, index_read, Spells, IsGrid}

pub cells-extends : (old new : List Node) (cells : List (List Bit)) → Extends old new →
    AreCellsOf old cells → AreCellsOf new cells
cells-extends old new cells extends are place =
    are_bits-extends old new (cell_at cells place) extends (are place)

-- ---- tests of numbers

is_equal : (a b : ℕ) → a ≡ b → (a == b) ≡ true
is_equal a b same = grind (arith, nat_tests)

is_apart : (a b : ℕ) → a ≢ b → (a == b) ≡ false
is_apart a b apart = grind (arith, nat_tests)

-- a number is another if its row and its column are
pub in_grid : (width m place : ℕ) → 0 < width →
    ((m / width == place / width) && (m % width == place % width)) ≡ (m == place)
in_grid width m place some =
    elim (cases_eq m place) [
      | inl same ↦
          (λ i. is_equal (m / width) (place / width) (ap (λ n. n / width) same) i
          && is_equal (m % width) (place % width) (ap (λ n. n % width) same) i)
          ∙ sym (is_equal m place same)
      | inr apart ↦ elim (cases_eq (m / width) (place / width)) [
        | inl row ↦
            (λ i. is_equal (m / width) (place / width) row i
            && is_apart (m % width) (place % width) (λ column. apart (joined row column)) i)
            ∙ sym (is_apart m place apart)
        | inr other ↦
            ap (λ b. b && (m % width == place % width)) (is_apart (m / width) (place / width) other)
            ∙ sym (is_apart m place apart)
      ]
    ]
  where
    joined : m / width ≡ place / width → m % width ≡ place % width → m ≡ place
    joined row column = sym (div-add-mod' m width) ∙ (λ i. row i * width + column i) ∙ div-add-mod' place
        width

quarter : (u l n : ℕ) → l < 4 → ((u == n / 4) && (l == n % 4)) ≡ (4 * u + l == n)
quarter u l n small =
    let row : (4 * u + l) / 4 ≡ u = omega arith in
    let column : (4 * u + l) % 4 ≡ l = omega arith in
    sym (λ i. (row i == n / 4) && (column i == n % 4)) ∙ in_grid 4 (4 * u + l) n (omega arith)

-- ---- numbers that bits spell

-- the number of two bits of a word
abbrev pub pair_number : (ℕ → Bool) → List Node → List Bit → ℕ → ℕ
pair_number free nodes word place =
    digit (truth free nodes (bit_at word place)) + 2 * digit (truth free nodes (bit_at word (place + 1)))

pub pair_small : (free : ℕ → Bool) (nodes : List Node) (word : List Bit) (place : ℕ) →
    pair_number free nodes word place < 4
pair_small free nodes word place =
    omega (
      arith,
      digit_small (truth free nodes (bit_at word place)),
      digit_small (truth free nodes (bit_at word (place + 1))),
    )

-- what bits spell stays as nodes are added
pub spells-extends : (old new : List Node) (bits : List Bit) (count : ℕ) (number : (ℕ → Bool) → ℕ) →
    Extends old new → Spells old bits count number → Spells new bits count number
spells-extends old new bits count number extends is n within = record {
  is_bit = omega (arith, (is n within).is_bit, extends.grows);
  holds = λ free. extends.keeps free (bit_at bits n) (is n within).is_bit ∙ (is n within).holds free;
}

pub spells-same : (nodes : List Node) (bits : List Bit) (count : ℕ) (number other : (ℕ → Bool) → ℕ) →
    Spells nodes bits count number → ((free : ℕ → Bool) → number free ≡ other free) →
    Spells nodes bits count other
spells-same nodes bits count number other is same n within =
    HasValue-same nodes (bit_at bits n) _ _ (is n within) (λ free. ap (λ m. m == n) (same free))

-- the four numbers of two bits
pub four_numbers : (nodes : List Node) (b0 b1 b2 b3 : Bit) (rest : List Bit) (x y : (ℕ → Bool) → Bool) →
    HasValue nodes b0 (λ free. not (y free) && not (x free)) → HasValue nodes b1 (λ free. not (y free) && x
    free) →
    HasValue nodes b2 (λ free. y free && not (x free)) → HasValue nodes b3 (λ free. y free && x free) →
    Spells nodes (b0 ∷ b1 ∷ b2 ∷ b3 ∷ rest) 4 (λ free. digit (x free) + 2 * digit (y free))
four_numbers nodes b0 b1 b2 b3 rest x y none one two three zero within =
    HasValue-same nodes b0 _ _ none (λ free. test (x free) (y free))
  where
    test : (x y : Bool) → (not y && not x) ≡ (digit x + 2 * digit y == 0)
    test true true = refl
    test true false = refl
    test false true = refl
    test false false = refl
four_numbers nodes b0 b1 b2 b3 rest x y none one two three (suc zero) within =
    HasValue-same nodes b1 _ _ one (λ free. test (x free) (y free))
  where
    test : (x y : Bool) → (not y && x) ≡ (digit x + 2 * digit y == 1)
    test true true = refl
    test true false = refl
    test false true = refl
    test false false = refl
four_numbers nodes b0 b1 b2 b3 rest x y none one two three (suc (suc zero)) within =
    HasValue-same nodes b2 _ _ two (λ free. test (x free) (y free))
  where
    test : (x y : Bool) → (y && not x) ≡ (digit x + 2 * digit y == 2)
    test true true = refl
    test true false = refl
    test false true = refl
    test false false = refl
four_numbers nodes b0 b1 b2 b3 rest x y none one two three (suc (suc (suc zero))) within =
    HasValue-same nodes b3 _ _ three (λ free. test (x free) (y free))
  where
    test : (x y : Bool) → (y && x) ≡ (digit x + 2 * digit y == 3)
    test true true = refl
    test true false = refl
    test false true = refl
    test false false = refl
four_numbers nodes b0 b1 b2 b3 rest x y none one two three (suc (suc (suc (suc n)))) within = absurd (omega
    arith)

-- two bits of an index, read among more nodes and told among still more
pub pair_kept : (old middle new last : List Node) (index bits : List Bit) (place : ℕ) → AreBitsOf old index →
    Extends old middle → Extends new last → Spells new bits 4 (λ free. pair_number free middle index place) →
    Spells last bits 4 (λ free. pair_number free old index place)
pair_kept old middle new last index bits place are first second is =
    spells-extends new last bits 4 _ second
    (spells-same new bits 4 _ _ is
    (λ free i. digit (first.keeps free (bit_at index place) (are place) i)
    + 2 * digit (first.keeps free (bit_at index (place + 1)) (are (place + 1)) i)))

-- two numbers together
pub combined_spells : (old new : List Node) (upper lower bits : List Bit) (u l : (ℕ → Bool) → ℕ)
    (more count : ℕ) → count ≤ 4 * more → Spells old upper more u → Spells old lower 4 l →
    ((free : ℕ → Bool) → l free < 4) →
    ((n : ℕ) → n < count → HasValue new (bit_at bits n) (λ free.
    truth free old (bit_at upper (n / 4)) && truth free old (bit_at lower (n % 4)))) →
    Spells new bits count (λ free. 4 * u free + l free)
combined_spells old new upper lower bits u l more count few first second small has n within =
    HasValue-same new (bit_at bits n) _ _ (has n within)
    (λ free.
    (λ i. (first (n / 4) (omega arith)).holds free i && (second (n % 4) (omega arith)).holds free i)
    ∙ quarter (u free) (l free) n (small free))

-- the low 8 bits by pairs
pub by_pairs : (free : ℕ → Bool) (nodes : List Node) (word : List Bit) → length word ≡ 32 →
    AreBitsOf nodes word →
    low_number free nodes word 8 ≡ pair_number free nodes word 0 + 4 * pair_number free nodes word 2
    + 16 * pair_number free nodes word 4 + 64 * pair_number free nodes word 6
by_pairs free nodes word long are =
    let first : low_number free nodes word 2 ≡ 0 + 1 * pair_number free nodes word 0 =
    pair_more 0 (omega (arith, long)) in
    let second : low_number free nodes word 4
    ≡ low_number free nodes word 2 + 4 * pair_number free nodes word 2 = pair_more 2 (omega (arith, long)) in
    let third : low_number free nodes word 6
    ≡ low_number free nodes word 4 + 16 * pair_number free nodes word 4 = pair_more 4 (omega (arith, long)) in
    let fourth : low_number free nodes word 8
    ≡ low_number free nodes word 6 + 64 * pair_number free nodes word 6 = pair_more 6 (omega (arith, long)) in
    omega (arith, first, second, third, fourth)
  where
    pair_more : (place : ℕ) → place + 1 < length word → low_number free nodes word (place + 1 + 1)
        ≡ low_number free nodes word place + 2 ^ place * pair_number free nodes word place
    pair_more place within = low_number-two_more free nodes nodes word place within are (Extends_refl nodes)

-- ---- grids

module _ (old new : List Node) (index rows columns : List Bit) (cells : ℕ) (extends : Extends old new)
    (long : length index ≡ 32) (are : AreBitsOf old index) where
  low_is : (free : ℕ → Bool) → low_number free new index 8 ≡ pair_number free old index 0
      + 4 * pair_number free old index 2 + 16 * pair_number free old index 4 + 64 * pair_number free old
      index 6
  low_is free = low_number-extends free old new index 8 extends are ∙ by_pairs free old index long are

  pub grid_of_four : cells ≤ 64 → Spells new rows ((cells + 3) / 4) (λ free. 4 * (4 * pair_number free old
      index 6
      + pair_number free old index 4) + pair_number free old index 2) →
      Spells new columns 4 (λ free. pair_number free old index 0) → IsGrid new index cells rows columns 4
  grid_of_four few row column = record {
    some = omega arith;
    wide = omega arith;
    all = omega arith;
    row = λ n within.
        HasValue-same new (bit_at rows n) _ _ (row n (omega arith)) (λ free. ap (λ m. m == n)
        (sym (rows_are _ _ _ _ _ (low_is free) (pair_small free old index 0))));
    column = spells-same new columns 4 _ _ column (λ free.
        sym (columns_are _ _ _ _ _ (low_is free) (pair_small free old index 0)));
  }
    where
      rows_are : (m a b c d : ℕ) → m ≡ a + 4 * b + 16 * c + 64 * d → a < 4 → m / 4 ≡ 4 * (4 * d + c) + b
      rows_are m a b c d is small = omega arith

      columns_are : (m a b c d : ℕ) → m ≡ a + 4 * b + 16 * c + 64 * d → a < 4 → m % 4 ≡ a
      columns_are m a b c d is small = omega arith

  pub grid_of_sixteen : cells ≤ 256 → Spells new rows ((cells + 15) / 16) (λ free. 4 * pair_number free old
      index 6
      + pair_number free old index 4) →
      Spells new columns 16 (λ free. 4 * pair_number free old index 2 + pair_number free old index 0) →
      IsGrid new index cells rows columns 16
  grid_of_sixteen few row column = record {
    some = omega arith;
    wide = omega arith;
    all = omega arith;
    row = λ n within.
        HasValue-same new (bit_at rows n) _ _ (row n (omega arith)) (λ free. ap (λ m. m == n)
        (sym (rows_are _ _ _ _ _ (low_is free) (pair_small free old index 0) (pair_small free old index 2))));
    column = spells-same new columns 16 _ _ column (λ free.
        sym (columns_are _ _ _ _ _ (low_is free) (pair_small free old index 0) (pair_small free old index
        2)));
  }
    where
      rows_are : (m a b c d : ℕ) → m ≡ a + 4 * b + 16 * c + 64 * d → a < 4 → b < 4 → m / 16 ≡ 4 * d + c
      rows_are m a b c d is small less = omega arith

      columns_are : (m a b c d : ℕ) → m ≡ a + 4 * b + 16 * c + 64 * d → a < 4 → b < 4 → m % 16 ≡ 4 * b + a
      columns_are m a b c d is small less = omega arith

-- a grid stays as nodes are added
pub grid-extends : (old new : List Node) (index rows columns : List Bit) (cells width : ℕ) → Extends old new →
    AreBitsOf old index → IsGrid old index cells rows columns width →
    IsGrid new index cells rows columns width
grid-extends old new index rows columns cells width extends are grid = record {
  some = grid.some;
  wide = grid.wide;
  all = grid.all;
  row = λ n within.
      let has = grid.row n within in
      record {
        is_bit = omega (arith, has.is_bit, extends.grows);
        holds = λ free. extends.keeps free (bit_at rows n) has.is_bit ∙ has.holds free
            ∙ ap (λ m. m / width == n) (sym (low_number-extends free old new index 8 extends are));
      };
  column = λ n within.
      let has = grid.column n within in
      record {
        is_bit = omega (arith, has.is_bit, extends.grows);
        holds = λ free. extends.keeps free (bit_at columns n) has.is_bit ∙ has.holds free
            ∙ ap (λ m. m % width == n) (sym (low_number-extends free old new index 8 extends are));
      };
}

-- the row of a place, and its column
pub row_at : (nodes : List Node) (index rows columns : List Bit) (cells width place : ℕ) →
    IsGrid nodes index cells rows columns width → place < cells →
    HasValue nodes (bit_at rows (place / width))
    (λ free. low_number free nodes index 8 / width == place / width)
row_at nodes index rows columns cells width place grid within =
    grid.row (place / width) (omega (arith, div-add-mod' place width, within))

pub column_at : (nodes : List Node) (index rows columns : List Bit) (cells width place : ℕ) →
    IsGrid nodes index cells rows columns width →
    HasValue nodes (bit_at columns (place % width))
    (λ free. low_number free nodes index 8 % width == place % width)
column_at nodes index rows columns cells width place grid =
    grid.column (place % width) (mod-lt place grid.some)

-- ---- the place that is read

pub read-within : (cells index : ℕ) → index < cells → index_read cells index ≡ index
unfolding index_read
read-within cells index within =
    let test : nat_lt index cells ≡ true = grind (arith, nat_tests) in
    ap (λ b. if b then index else 0) test

pub read-beyond : (cells index : ℕ) → cells ≤ index → index_read cells index ≡ 0
unfolding index_read
read-beyond cells index past =
    let test : nat_lt index cells ≡ false = grind (arith, nat_tests) in
    ap (λ b. if b then index else 0) test

pub read-one : (index : ℕ) → index_read 1 index ≡ 0
read-one index =
    elim (cases_lt index 1) [
      | inl below ↦ read-within 1 index below ∙ omega arith
      | inr past ↦ read-beyond 1 index past
    ]

-- one cell more
pub read-more : {A : Type 0} (at : ℕ → A) (cells index : ℕ) → 0 < cells →
    (if index == cells then at cells else at (index_read cells index)) ≡ at (index_read (cells + 1) index)
read-more at cells index some =
    elim (cases_lt index cells) [
      | inl below ↦
          let other : (index == cells) ≡ false = grind (arith, nat_tests) in
          ap (λ b. if b then at cells else at (index_read cells index)) other
          ∙ ap at (read-within cells index below ∙ sym (read-within (cells + 1) index (omega arith)))
      | inr past ↦ elim (cases_lt cells index) [
        | inl above ↦
            let other : (index == cells) ≡ false = grind (arith, nat_tests) in
            ap (λ b. if b then at cells else at (index_read cells index)) other
            ∙ ap at (read-beyond cells index past ∙ sym (read-beyond (cells + 1) index (omega arith)))
        | inr here ↦
            let same : index ≡ cells = omega arith in
            let test : (index == cells) ≡ true = grind (arith, nat_tests) in
            ap (λ b. if b then at cells else at (index_read cells index)) test
            ∙ ap at (sym same ∙ sym (read-within (cells + 1) index (omega arith)))
      ]
    ]

-- within the range it is the cell at the index
pub read_in_range : (old new : List Node) (cells : List (List Bit)) (index word : List Bit)
    → length index ≡ 32 → length cells ≤ 256
    → IsCellRead old cells index new word → IsCellAt (λ free. number_of free old index) old cells new word
read_in_range old new cells index word long few at free within =
    let n : ℕ = number_of free old index in
    let l : ℕ = low_number free old index 8 in
    let split = number-split free old index 8 (omega (arith, long)) in
    let below : l < 2 ^ 8 = low_number_below free old index 8 (omega (arith, long)) in
    let same : l ≡ n = remainder n l (spelled (drop 8 (map (truth free old) index))) split below
    (omega arith) in
    at free
    ∙ ap (λ k. number_of free old (cell_at cells k))
    (ap (index_read (length cells)) same ∙ read-within (length cells) n within)
  where
    remainder : (n l h : ℕ) → n ≡ l + 2 ^ 8 * h → l < 2 ^ 8 → n < 256 → l ≡ n
    remainder n l h split below small = omega arith
