-- The whole lines of a text, each ended by a line feed, and what follows the last line feed.

use Rattle.std.specs.Prelude.{◌≡◌, ℕ, false, List, [], ◌∷◌, ◌++◌, All}
use Rattle.ba_bytes.specs.Lines.{lines_of}
use Rattle.ba_bytes.specs.Classes.{is_line_end}

-- all items but the last, and the last
abbrev pub all_but_last : List (List ℕ) → List (List ℕ)
all_but_last [] = []
all_but_last (part ∷ []) = []
all_but_last (part ∷ other ∷ parts) = part ∷ all_but_last (other ∷ parts)

-- the last part
abbrev pub last_of : List (List ℕ) → List ℕ
last_of [] = []
last_of (part ∷ []) = part
last_of (part ∷ other ∷ parts) = last_of (other ∷ parts)

-- the whole lines, without their line feeds
unfoldable pub lines_in : List ℕ → List (List ℕ)
lines_in text = all_but_last (lines_of text)

-- what follows the last line feed
unfoldable pub rest_in : List ℕ → List ℕ
rest_in text = last_of (lines_of text)

-- no byte is a line feed
abbrev pub HasNoFeed : List ℕ → Type 0
HasNoFeed bytes = All (λ b. is_line_end b ≡ false) bytes

-- bytes are cut at their first line feed
pub record IsCut (bytes line behind : List ℕ) : Type 0 where
  pub bytes_are : bytes ≡ line ++ 10 ∷ behind
  pub plain : HasNoFeed line
