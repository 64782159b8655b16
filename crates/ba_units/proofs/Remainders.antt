-- What is left after parts, one after the other.
use Rattle.std.proofs.Common.{◌≡◌, ℕ, ◌+◌, ◌-◌, ◌<◌, ◌≤◌, List, take, length, get_or, sym, ◌∙◌, ap, take_all, arith}
use Rattle.std.specs.Prelude.{sum_by}
use Rattle.std.proofs.lemmas.List.Sums.{sum_by_more, sum_by-take-le}

-- a whole of one part
pub behind-one : (whole a left after : ℕ) → whole ≡ a → after ≡ left - a → after ≡ left - whole
behind-one whole a left after is first = first ∙ ap (λ n. left - n) (sym is)

-- a whole of two
pub behind-two : (whole a b left one after : ℕ) → whole ≡ a + b → one ≡ left - a → after ≡ one - b
    → after ≡ left - whole
behind-two whole a b left one after is first second = omega arith

pub behind-three : (whole a b c left one two after : ℕ) → whole ≡ a + b + c → one ≡ left - a → two ≡ one - b
    → after ≡ two - c → after ≡ left - whole
behind-three whole a b c left one two after is first second third = omega arith

pub behind-four : (whole a b c d left one two three after : ℕ) → whole ≡ a + b + c + d → one ≡ left - a
    → two ≡ one - b → three ≡ two - c → after ≡ three - d → after ≡ left - whole
behind-four whole a b c d left one two three after is first second third fourth = omega arith

-- a whole of nothing
pub behind-none : (whole left : ℕ) → whole ≡ 0 → left ≡ left - whole
behind-none whole left is = omega arith

-- ROWS: the parts of a row up to a place, and the next one

module _ {X : Type 0} (f : X → ℕ) (xs : List X) (i left rest : ℕ)
    (so_far : rest ≡ left - sum_by f (take i xs)) where
  pub row-more : (x : X) (after : ℕ) → i < length xs → x ≡ get_or xs i x → after ≡ rest - f x
      → after ≡ left - sum_by f (take (i + 1) xs)
  row-more x after within is one = behind-two _ _ _ left rest after
      (sum_by_more f xs i x within ∙ ap (λ y. sum_by f (take i xs) + f y) (sym is)) so_far one

  pub row-all : length xs ≤ i → rest ≡ left - sum_by f xs
  row-all past = so_far ∙ ap (λ ys. left - sum_by f ys) (take_all i xs past)

  -- nothing is left before the end
  pub row-spent : rest ≡ 0 → 0 ≡ left - sum_by f xs
  row-spent none = let part : sum_by f (take i xs) ≤ sum_by f xs = sum_by-take-le f xs i in
      let left_none : left - sum_by f (take i xs) ≡ 0 = sym so_far ∙ none in
      omega arith
