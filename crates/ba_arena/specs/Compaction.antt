-- Compaction: the clauses of an arena without the gaps of dead ones.

use Rattle.std.specs.Prelude.{◌≡◌, ℕ, ◌+◌, ◌<◌, ◌≤◌, Option, None, Some, List, [], ◌∷◌, ◌++◌, length, get_or, replicate}
use Rattle.std.specs.Option.{option_map}
use Prim.Native.Nat.{suc, zero}
use Rattle.ba_arena.specs.Clauses.{Stored, Clauses, clause_at, link_at, IsLive, linked}

-- how many words a clause takes
abbrev pub size_of : Option Stored → ℕ
size_of None = 0
size_of (Some s) = 4 + length s.lits

-- the index to which a clause moves: how many words the live clauses before it take
abbrev pub moved : Clauses → ℕ → ℕ
moved [] clause = 0
moved (c ∷ cs) zero = 0
moved (c ∷ cs) (suc clause) = size_of c + moved cs clause

-- the live clauses, one after the other
abbrev pub compacted : Clauses → Clauses
compacted [] = []
compacted (None ∷ cs) = compacted cs
compacted (Some s ∷ cs) = Some s ∷ (replicate (3 + length s.lits) None ++ compacted cs)

-- the first link of each live clause names the index to which the clause moves
abbrev pub Plans : Clauses → Clauses → Type 0
Plans old new = (clause : ℕ) → clause_at new clause ≡ linked 0 (Some (moved old clause))
    (clause_at old clause)

-- the first live clause from an index on
abbrev pub IsFirstFrom : Clauses → ℕ → Option ℕ → Type 0
IsFirstFrom clauses place None = (k : ℕ) → place ≤ k → clause_at clauses k ≡ None
IsFirstFrom clauses place (Some clause) =
    (place ≤ clause) × IsLive clauses clause × ((k : ℕ) → place ≤ k → k < clause → clause_at clauses k ≡ None)

-- the reference that the first link of a reference's clause names
abbrev pub forwarded : Clauses → Option ℕ → Option ℕ
forwarded clauses None = None
forwarded clauses (Some clause) = link_at clauses clause 0

-- the same for a reference that always has a clause
abbrev pub link_or : ℕ → Option ℕ → ℕ
link_or clause None = clause
link_or clause (Some next) = next

-- where a clause is after compaction, by its first link
abbrev pub followed : Clauses → ℕ → ℕ
followed clauses clause = link_or clause (link_at clauses clause 0)

-- references name live clauses
abbrev pub AreLiveReferences : Clauses → List (Option ℕ) → Type 0
AreLiveReferences clauses references = (k clause : ℕ) → get_or references k None ≡ Some clause →
    IsLive clauses clause

-- a reference after compaction: the new index of its clause, or None if that was deleted
abbrev pub led : Clauses → Option ℕ → Option ℕ
led clauses None = None
led clauses (Some clause) = option_map (λ s. moved clauses clause) (clause_at clauses clause)

-- a clause that was live before, and has moved to an index
pub record Came (old : Clauses) (place : ℕ) : Type 0 where
  pub from : ℕ
  pub live : IsLive old from
  pub to : moved old from ≡ place

-- Each live clause is at its new index, which its first link names. Its literals, its number and its second
-- link stay. There are no other clauses and no other words, and the order stays.
pub record Compacts (old new : Clauses) : Type 0 where
  pub there : (clause : ℕ) → IsLive old clause →
      clause_at new (moved old clause) ≡ linked 0 (Some (moved old clause)) (clause_at old clause)
  pub only : (place : ℕ) → IsLive new place → Came old place
  pub order : (a b : ℕ) → IsLive old a → a < b → moved old a < moved old b
  pub words : length new ≡ moved old (length old)
