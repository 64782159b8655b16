-- Cells that are written.

use Rattle.std.proofs.Common.{◌≡◌, ℕ, zero, suc, ◌+◌, ◌-◌, ◌*◌, ◌^◌, ◌<◌, ◌≤◌, ◌==◌, nat_lt, Bool, true, false, not, ◌&&◌, ◌||◌, List, [], ◌∷◌, ◌++◌, length, inl, inr, refl, sym, ap, subst, ◌∙◌, arith, if◌then◌else◌}
use Rattle.std.proofs.lemmas.List.{get_or_append_left, get_or-append-add}
use Rattle.std.proofs.lemmas.Bool.{cases_lt}
use Rattle.std.proofs.lemmas.Nat.{pow_pos}
use Rattle.std.proofs.lemmas.Bool.Decides.{nat_tests}
use Rattle.std.proofs.Math.Bool.{or-true, or-false}
use Rattle.ba_nodes.specs.declared.Bit.{Bit}
use Rattle.ba_nodes.specs.declared.Node.{Node}
use Rattle.ba_nodes.specs.Gates.{truth, Extends}
use Rattle.ba_words.specs.Words.{digit, low_number, number_of, bit_at, AreBitsOf}
use Rattle.ba_words.proofs.Places.{are_bits-extends, low_number-more, number_of-extends}
use Rattle.ba_cells.specs.Cells.{cell_at, AreCellsOf}

-- ---- bits beyond those that tell the cells apart

pub beyond_step : (i m n : ℕ) (x : Bool) → m ≤ n → (nat_lt m n || x) ≡ nat_lt m (n + 2 ^ i * digit x)
beyond_step i m n true below =
    let positive : 0 < 2 ^ i = pow_pos i in
    let past : nat_lt m (n + 2 ^ i * 1) ≡ true = grind (arith, nat_tests) in
    or-true (nat_lt m n) ∙ sym past
beyond_step i m n false below =
    let same : n ≡ n + 2 ^ i * 0 = omega arith in
    or-false (nat_lt m n) ∙ ap (nat_lt m) same

pub never_below : (n : ℕ) → nat_lt n n ≡ false
never_below n = grind (arith, nat_tests)

-- ---- a whole write

pub whole_choice : (w : Bool) (n l h place : ℕ) (x y : ℕ) → n ≡ l + 2 ^ 8 * h → l < 2 ^ 8 → place < 256 →
    (if (w && not (nat_lt l n)) && (l == place) then x else y) ≡ (if w && (n == place) then x else y)
whole_choice false n l h place x y n_is small below = refl
whole_choice true n l zero place x y n_is small below =
    let same : n ≡ l = omega arith in
    let reached : nat_lt l n ≡ false = grind (arith, nat_tests) in
    ap (λ b. if not b && (l == place) then x else y) reached
    ∙ ap (λ m. if m == place then x else y) (sym same)
whole_choice true n l (suc h) place x y n_is small below =
    let reached : nat_lt l n ≡ true = grind (arith, nat_tests) in
    let past : (n == place) ≡ false = grind (arith, nat_tests) in
    ap (λ b. if not b && (l == place) then x else y) reached ∙ sym (ap (λ b. if b then x else y) past)

-- more places spell no smaller number
pub low_number-grows : (free : ℕ → Bool) (nodes : List Node) (word : List Bit) (i j : ℕ) → i ≤ j →
    j ≤ length word → low_number free nodes word i ≤ low_number free nodes word j
low_number-grows free nodes word i j most within =
    subst (λ n. low_number free nodes word i ≤ low_number free nodes word n) (sum_is)
    (by_more (j - i) (omega arith))
  where
    sum_is : i + (j - i) ≡ j
    sum_is = omega arith

    by_more : (k : ℕ) → i + k ≤ length word → low_number free nodes word i ≤ low_number free nodes word
        (i + k)
    by_more zero fits = subst (λ n. low_number free nodes word i ≤ low_number free nodes word n) none
        (omega arith)
      where
        none : i ≡ i + 0
        none = omega arith
    by_more (suc k) fits =
        let next : i + suc k ≡ i + k + 1 = omega arith in
        let more : low_number free nodes word (i + k + 1)
        ≡ low_number free nodes word (i + k) + 2 ^ (i + k) * digit
        (truth free nodes (bit_at word (i + k))) =
        low_number-more free nodes word (i + k) (omega arith) in
        let value : low_number free nodes word (i + suc k)
        ≡ low_number free nodes word (i + k) + 2 ^ (i + k) * digit
        (truth free nodes (bit_at word (i + k))) =
        ap (low_number free nodes word) next ∙ more in
        let before = by_more k (omega arith) in
        omega arith

-- ---- a cell more after others

pub pushed_cells : (old new : List Node) (cells pushed : List (List Bit)) (cell : List Bit) → Extends old new →
    pushed ≡ cells ++ cell ∷ [] → AreCellsOf old cells → AreBitsOf new cell → AreCellsOf new pushed
pushed_cells old new cells pushed cell extends is are bits place =
    subst (λ xs. AreBitsOf new (cell_at xs place)) (sym is) (elim (cases_lt place (length cells)) [
      | inl below ↦ subst (AreBitsOf new) (sym (get_or_append_left cells (cell ∷ []) [] place below))
          (are_bits-extends old new (cell_at cells place) extends (are place))
      | inr past ↦
          let split : length cells + (place - length cells) ≡ place = omega arith in
          subst (λ k. AreBitsOf new (cell_at (cells ++ cell ∷ []) k)) split
          (subst (AreBitsOf new) (sym (get_or-append-add cells (cell ∷ []) (place - length cells) []))
          (alone (place - length cells)))
    ])
  where
    alone : (k : ℕ) → AreBitsOf new (cell_at (cell ∷ []) k)
    alone zero = bits
    alone (suc k) = λ bit. omega arith

pub pushed_number : (free : ℕ → Bool) (old new : List Node) (cells pushed : List (List Bit)) (cell : List Bit)
    (k : ℕ) → Extends old new → pushed ≡ cells ++ cell ∷ [] → AreCellsOf old cells → k < length cells →
    number_of free new (cell_at pushed k) ≡ number_of free old (cell_at cells k)
pushed_number free old new cells pushed cell k extends is are below =
    ap (λ xs. number_of free new (cell_at xs k)) is
    ∙ ap (number_of free new) (get_or_append_left cells (cell ∷ []) [] k below)
    ∙ number_of-extends free old new (cell_at cells k) extends (are k)

pub pushed_last : (cells pushed : List (List Bit)) (cell : List Bit) (k : ℕ) → pushed ≡ cells ++ cell ∷ [] →
    length cells ≡ k → cell_at pushed k ≡ cell
pushed_last cells pushed cell k is last =
    let split : length cells + 0 ≡ k = omega arith in
    ap (λ xs. cell_at xs k) is ∙ ap (λ n. cell_at (cells ++ cell ∷ []) n) (sym split)
    ∙ get_or-append-add cells (cell ∷ []) 0 []
