-- How many numbers are left after the nodes of a whole, by those after its parts.
use Rattle.std.proofs.Common.{◌≡◌, ℕ, ◌+◌, ◌-◌, List, [], ◌++◌, length, ◌∙◌, ap, length-append, arith}

module _ {A : Type 0} where
  pub left-none : (whole : List A) (left : ℕ) → whole ≡ [] → left ≡ left - length whole
  left-none whole left is = let none : length whole ≡ 0 = ap length is in omega arith

  pub left-one : (whole xs : List A) (left after : ℕ) → whole ≡ xs → after ≡ left - length xs
      → after ≡ left - length whole
  left-one whole xs left after is first = let same : length whole ≡ length xs = ap length is in omega arith

  pub left-two : (whole xs ys : List A) (left one after : ℕ) → whole ≡ xs ++ ys → one ≡ left - length xs
      → after ≡ one - length ys → after ≡ left - length whole
  left-two whole xs ys left one after is first second =
      let both : length whole ≡ length xs + length ys = ap length is ∙ length-append xs ys in omega arith

  pub left-three : (whole xs ys zs : List A) (left one two after : ℕ) → whole ≡ xs ++ ys ++ zs
      → one ≡ left - length xs → two ≡ one - length ys → after ≡ two - length zs → after ≡ left - length whole
  left-three whole xs ys zs left one two after is first second third =
      let all : length whole ≡ length (xs ++ ys) + length zs = ap length is ∙ length-append (xs ++ ys) zs in
      let both : length (xs ++ ys) ≡ length xs + length ys = length-append xs ys in omega arith
