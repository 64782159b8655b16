-- Words of free bits.

use Rattle.std.specs.Prelude.{◌≡◌, ℕ, ◌^◌, ◌<◌, Bool, List, length}
use Rattle.ba_bits.specs.Bits.{AgreeBelow}
use Rattle.ba_nodes.specs.declared.Bit.{Bit}
use Rattle.ba_nodes.specs.declared.Node.{Node}
use Rattle.ba_words.specs.Words.{number_of}

-- an assignment of the free bits that is as another one below the new bits, and gives a word this number
pub record Spelling (old new : List Node) (word : List Bit) (start : ℕ → Bool) (number : ℕ) : Type 0 where
  pub free : ℕ → Bool
  pub agrees : AgreeBelow (length old) start free
  pub spells : number_of free new word ≡ number

-- for any values of the earlier bits, the word can have each number of 32 bits
abbrev pub CanSpell : List Node → List Node → List Bit → Type 0
CanSpell old new word = (start : ℕ → Bool) (number : ℕ) → number < 2 ^ 32 → Spelling old new word start number
