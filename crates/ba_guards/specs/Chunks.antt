-- A list of words in chunks.

use Rattle.std.specs.Prelude.{◌≡◌, ◌<◌, ℕ, List, [], ◌∷◌, length}

-- chunks of this many words, the last one of fewer
abbrev pub AreChunks : ℕ → List (List ℕ) → Type 0
AreChunks size [] = ⊥
AreChunks size (c ∷ []) = length c < size
AreChunks size (c ∷ d ∷ cs) = (length c ≡ size) × AreChunks size (d ∷ cs)
