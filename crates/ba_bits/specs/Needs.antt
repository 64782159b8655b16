-- Which entries of a word list are needed.

use Rattle.std.specs.Prelude.{◌≡◌, ℕ, Bool, true, List, [], ◌∷◌, Some, slice_get, slice_set}
use Rattle.std.specs.List.{list_all}
use Rattle.ba_bits.specs.Bits.{is_needed}
use Rattle.ba_wordlist.specs.declared.words.WordOp.{WordOp}
use Rattle.ba_wordlist.specs.declared.words.WordOp.TheVariants.{Unary, Binary, Convert, Select, Read, Fill, Write}

-- the entries that an entry names
abbrev pub names_of : WordOp → List ℕ
names_of (Unary op t a) = a ∷ []
names_of (Binary op t a b) = a ∷ b ∷ []
names_of (Convert t a) = a ∷ []
names_of (Select which a b) = which ∷ a ∷ b ∷ []
names_of (Read array index) = array ∷ index ∷ []
names_of (Fill array values when) = array ∷ when ∷ values
names_of (Write array index value when) = array ∷ index ∷ value ∷ when ∷ []
names_of _ = []

-- all these entries are needed
abbrev pub are_needed : List Bool → List ℕ → Bool
are_needed needed ws = list_all (is_needed needed) ws

-- the marks, with those of these entries set
abbrev pub marked : List Bool → List ℕ → List Bool
marked needed [] = needed
marked needed (w ∷ ws) = marked (slice_set needed w true) ws

-- what a needed entry names is needed
abbrev pub AreClosed : List WordOp → List Bool → Type 0
AreClosed ops needed = (w : ℕ) (op : WordOp) → slice_get ops w ≡ Some op → is_needed needed w ≡ true
    → are_needed needed (names_of op) ≡ true

-- no entry is needed without cause: it is marked by all marks that have the roots and what each marked entry
-- names
abbrev pub AreFewest : List WordOp → List ℕ → List Bool → Type 0
AreFewest ops roots needed = (marks : List Bool) → are_needed marks roots ≡ true → AreClosed ops marks
    → (w : ℕ) → is_needed needed w ≡ true → is_needed marks w ≡ true
