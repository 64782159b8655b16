-- The words of an arena, and the clauses that they encode.

use Rattle.std.specs.Prelude.{◌≡◌, ℕ, ◌+◌, ◌-◌, ◌^◌, ◌<◌, ◌≤◌, ◌⊎◌, Option, None, Some, List, [], ◌∷◌, length, get_or, take, drop, map, eqb, if◌then◌else◌}
use Prim.Native.Nat.{suc, zero}
use Rattle.ba_lits.specs.Literals.{Literal, literal_at, index_of, lit_at}
use Rattle.ba_arena.specs.Clauses.{Stored, Clauses, IsOutside, clause_at}

-- the link of a word: none for 0, else one less than the word
abbrev pub link_of_word : ℕ → Option ℕ
link_of_word word = if eqb word 0 then None else Some (word - 1)

-- the word of a link: 0 for none, else one more than the reference
abbrev pub word_of_link : Option ℕ → ℕ
word_of_link None = 0
word_of_link (Some clause) = clause + 1

-- the words of a clause without links: the count of its literals, its number, its links, and its literals by
-- their indices
abbrev pub words_of : List Literal → ℕ → List ℕ
words_of lits number = length lits ∷ number ∷ 0 ∷ 0 ∷ map index_of lits

-- a clause of `n` literals, from the words after their count
abbrev pub stored_in : ℕ → List ℕ → Stored
stored_in count rest = record {
  lits = map literal_at (take count (drop 3 rest));
  number = get_or rest 0 0;
  first = link_of_word (get_or rest 1 0);
  second = link_of_word (get_or rest 2 0);
}

-- a dead clause has this word as its number
abbrev pub dead : ℕ
dead = 2 ^ 32 - 1

-- the clause, unless it is dead
abbrev pub entry_in : ℕ → List ℕ → Option Stored
entry_in count rest = if eqb (get_or rest 0 0) dead then None else Some (stored_in count rest)

-- the clauses of words; the first `n` words belong to the present clause
abbrev pub clauses_of : ℕ → List ℕ → Clauses
clauses_of left [] = []
clauses_of zero (count ∷ rest) = entry_in count rest ∷ clauses_of (suc (suc (suc count))) rest
clauses_of (suc left) (word ∷ rest) = None ∷ clauses_of left rest

-- how many words the last clause lacks
abbrev pub lacking : ℕ → List ℕ → ℕ
lacking left [] = left
lacking zero (count ∷ rest) = lacking (suc (suc (suc count))) rest
lacking (suc left) (word ∷ rest) = lacking left rest

-- the indices of the literals are in the range of indices
abbrev pub AreIndexed : List Literal → Type 0
AreIndexed lits =
    (k : ℕ) → k < length lits → (2 ≤ index_of (lit_at lits k)) × (index_of (lit_at lits k) < 2 ^ 63)

-- a clause whose literals are in the range of their type
pub record Fits (s : Stored) : Type 0 where
  pub lits : AreIndexed s.lits

-- the words of whole clauses that fit
pub record AreWords (words : List ℕ) : Type 0 where
  pub whole : lacking 0 words ≡ 0
  pub few : length words < 2 ^ 32
  pub fit : (clause : ℕ) (s : Stored) → clause_at (clauses_of 0 words) clause ≡ Some s → Fits s

-- a clause begins at an index, or the words end there
pub record IsCut (words : List ℕ) (place : ℕ) : Type 0 where
  pub within : place ≤ length words
  pub whole : lacking 0 (drop place words) ≡ 0
  pub clauses : drop place (clauses_of 0 words) ≡ clauses_of 0 (drop place words)

-- each word outside of live clauses, except the first word of each dead one, is the dead word
abbrev pub IsWiped : List ℕ → Type 0
IsWiped words = (r : ℕ) → r + 1 < length words → clause_at (clauses_of 0 words) r ≡ None →
    IsOutside (clauses_of 0 words) r → (get_or words r 0 ≡ dead) ⊎ (get_or words (r + 1) 0 ≡ dead)
