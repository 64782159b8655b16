-- References to clauses in one word each.

use Rattle.std.specs.Prelude.{◌≡◌, ℕ, Option, None, Some, refl}
use Prim.Native.Nat.{suc, zero}

-- the reference of a word: none for 0, else one less than the word
abbrev pub link_in : ℕ → Option ℕ
link_in zero = None
link_in (suc clause) = Some clause

-- the word of a reference
abbrev pub word_for : Option ℕ → ℕ
word_for None = zero
word_for (Some clause) = suc clause

-- each word is the one of its reference
pub word_for-link_in : (word : ℕ) → word_for (link_in word) ≡ word
word_for-link_in zero = refl
word_for-link_in (suc clause) = refl
