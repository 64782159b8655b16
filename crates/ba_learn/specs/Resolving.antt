-- A resolution under way: the trail indices that it has seen, and what becomes of their literals.

use Rattle.std.specs.Prelude.{◌≡◌, ℕ, ◌+◌, ◌<◌, ◌≤◌, leb, ltb, ◌^◌, Bool, true, false, ◌&&◌, Option, None, Some, IsSome, ◌⊎◌, List, [], ◌∷◌, ◌++◌, length, get_or}
use Prim.Native.Nat.{suc, zero}
use Rattle.std.specs.List.{All}
use Rattle.std.specs.List.Sorted.{IsPermutation, IsNonDecreasingBy}
use Rattle.ba_lits.specs.Literals.{Literal, lit_at, negate}
use Rattle.ba_lits.specs.Satisfaction.{one_if}
use Rattle.ba_watch.specs.Chains.{occurrences}
use Rattle.ba_watch.specs.Threads.{Clause}
use Rattle.ba_watch.specs.Trails.{trail_index, level_at}
use Rattle.ba_watch.specs.Propagation.{State, clause_in, lits_in}

-- What a contract sees of a resolution. Literals are named by their trail indices. Those from the floor on
-- are pending until the walk down the trail comes to them. Of the others some are kept in the clause; the
-- rest are resolved with their reasons, or wait for that.
pub record Work : Type 0 where
  pub seen : List Bool
  pub floor : ℕ
  pub deep : Bool
  pub pending : ℕ
  pub kept : List ℕ
  pub resolved : List ℕ
  pub waiting : List ℕ

-- the index is seen
abbrev pub is_seen : Work → ℕ → Bool
is_seen w p = get_or w.seen p false

-- how many indices below a number are in a set
abbrev pub count_below : (ℕ → Bool) → ℕ → ℕ
count_below set zero = 0
count_below set (suc n) = one_if (set n) + count_below set n

-- the seen indices from the floor on
abbrev pub is_above : Work → ℕ → Bool
is_above w p = leb w.floor p && is_seen w p

-- those of them to which the walk hasn't come
abbrev pub is_pending : ℕ → Work → ℕ → Bool
is_pending high w p = ltb p high && is_above w p

-- a literal may be kept if it was decided, or, unless the resolution is deep, above level 0
abbrev pub MayKeep : State → Bool → ℕ → Type 0
MayKeep s true p = get_or s.reasons p None ≡ None
MayKeep s false p = 1 ≤ level_at s.reasons p

-- otherwise it has a reason, and is at level 0 unless the resolution is deep
pub record MustResolve (s : State) (deep : Bool) (p : ℕ) : Type 0 where
  pub reason : IsSome (get_or s.reasons p None)
  pub level : deep ≡ false → level_at s.reasons p ≡ 0

-- in how many parts of the work an index is
abbrev pub parts_of : ℕ → Work → ℕ → ℕ
parts_of high w p =
    occurrences p w.kept + (occurrences p w.resolved
    + (occurrences p w.waiting + one_if (is_pending high w p)))

-- the walk down the trail has come to an index; each seen index is in exactly one part of the work
pub record IsWork (s : State) (high : ℕ) (w : Work) : Type 0 where
  pub short : length s.trail < 2 ^ 62
  pub within : high ≤ length s.trail
  pub floor : w.floor ≤ high
  pub ranged : (p : ℕ) → is_seen w p ≡ true → p < length s.trail
  pub parted : (p : ℕ) → parts_of high w p ≡ one_if (is_seen w p)
  pub pending : w.pending ≡ count_below (is_above w) high
  pub kept_below : (p : ℕ) → 0 < occurrences p w.kept → p < w.floor
  pub kept : (p : ℕ) → 0 < occurrences p w.kept → MayKeep s w.deep p
  pub resolved : (p : ℕ) → 0 < occurrences p w.resolved → IsSome (get_or s.reasons p None)
  pub resolved_below : (p : ℕ) → 0 < occurrences p w.resolved → w.deep ≡ true → p < w.floor
  pub waiting : (p : ℕ) → 0 < occurrences p w.waiting → MustResolve s w.deep p
  pub waiting_below : (p : ℕ) → 0 < occurrences p w.waiting → p < w.floor

-- an index is put into its part of the work
pub data Parts (s : State) (old new : Work) (place : ℕ) : Type 0 where
  ToPending : old.floor ≤ place → new ≡ record old { pending = old.pending + 1 } → Parts s old new place
  ToKept : place < old.floor → MayKeep s old.deep place →
      new ≡ record old { kept = old.kept ++ place ∷ [] } → Parts s old new place
  ToWaiting : place < old.floor → MustResolve s old.deep place →
      new ≡ record old { waiting = old.waiting ++ place ∷ [] } → Parts s old new place

-- the trail index of a clause's literal
abbrev pub trail_index_in : State → List Literal → ℕ → ℕ
trail_index_in s lits k = trail_index s.trail (lit_at lits k).variable

-- the literals of a clause have trail indices below one
abbrev pub AreBelow : State → ℕ → List Literal → Type 0
AreBelow s high lits = (k : ℕ) → k < length lits → trail_index_in s lits k < high

-- the literals of a clause are seen
abbrev pub AreSeen : State → (ℕ → Bool) → List Literal → Type 0
AreSeen s seen lits = (k : ℕ) → k < length lits → seen (trail_index_in s lits k) ≡ true

-- a resolution is under way and may meet the literals of a clause
abbrev pub MayMeet : State → Work → List Literal → Type 0
MayMeet s w lits = (high : ℕ) × IsWork s high w × AreBelow s high lits

-- a resolution with a floor may start with the literals of a clause
pub record MayStart (s : State) (floor high : ℕ) (lits : List Literal) : Type 0 where
  pub floor_le : floor ≤ high
  pub within : high ≤ length s.trail
  pub below : AreBelow s high lits

-- a literal has a value, and is seen or was assigned at level 0
abbrev pub IsAbsorbed : State → (ℕ → Bool) → Literal → Type 0
IsAbsorbed s seen l =
    (trail_index s.trail l.variable < length s.trail)
    × ((seen (trail_index s.trail l.variable) ≡ true) ⊎ (level_at s.reasons (trail_index s.trail l.variable)
    ≡ 0))

-- each literal is absorbed
abbrev pub AreAbsorbed : State → (ℕ → Bool) → List Literal → Type 0
AreAbsorbed s seen lits = All (IsAbsorbed s seen) lits

-- only indices of level 0 were seen, and what is kept stays
pub record IsInert (s : State) (old new : Work) : Type 0 where
  pub seen : (p : ℕ) → is_seen new p ≡ true → (is_seen old p ≡ true) ⊎ (level_at s.reasons p ≡ 0)
  pub kept : new.kept ≡ old.kept

-- the literals of a clause were seen, each of them new in one part of the work
pub record Meets (s : State) (old new : Work) (lits : List Literal) : Type 0 where
  pub grows : (p : ℕ) → is_seen old p ≡ true → is_seen new p ≡ true
  pub met : AreSeen s (is_seen new) lits
  pub floor : new.floor ≡ old.floor
  pub deep : new.deep ≡ old.deep
  pub pending : old.pending ≤ new.pending
  pub still : AreBelow s old.floor lits → new.pending ≡ old.pending
  pub kept : length old.kept ≤ length new.kept
  pub resolved : new.resolved ≡ old.resolved
  pub spends : (n : ℕ) → AreBelow s n lits → count_below (is_seen old) n + length new.waiting ≤ count_below
      (is_seen new) n + length old.waiting
  pub work : (high : ℕ) → IsWork s high old → AreBelow s high lits → IsWork s high new
  pub inert : old.deep ≡ false → AreAbsorbed s (is_seen old) lits → IsInert s old new

-- the literals of a reason; none if there is none
abbrev pub reason_lits : State → Option ℕ → List Literal
reason_lits s None = []
reason_lits s (Some clause) = lits_in s.clauses clause

-- an index is among those that are resolved
abbrev pub with_resolved : Work → ℕ → Work
with_resolved w place = record w { resolved = w.resolved ++ place ∷ [] }

-- an index in no part of the work may be resolved
abbrev pub MayResolve : State → Work → ℕ → Type 0
MayResolve s w place = (high : ℕ) × IsWork s high (with_resolved w place) × (place < high)

-- the literals of the reason of an index
abbrev pub reason_of_index : State → ℕ → List Literal
reason_of_index s place = reason_lits s (get_or s.reasons place None)

-- the literals of the reasons of indices are seen
abbrev pub AreCovered : State → (ℕ → Bool) → List ℕ → Type 0
AreCovered s seen places =
    (p : ℕ) → 0 < occurrences p places → AreSeen s seen (reason_of_index s p)

-- reasons were resolved with: what was seen stays so, and what is resolved has the literals of its reason seen
pub record Resolves (s : State) (old new : Work) : Type 0 where
  pub grows : (p : ℕ) → is_seen old p ≡ true → is_seen new p ≡ true
  pub floor : new.floor ≡ old.floor
  pub deep : new.deep ≡ old.deep
  pub covered : AreCovered s (is_seen old) old.resolved → AreCovered s (is_seen new) new.resolved

-- an index has a reason, each literal of which is absorbed
abbrev pub IsRedundant : State → Work → ℕ → Type 0
IsRedundant s w p = IsSome (get_or s.reasons p None) × AreAbsorbed s (is_seen w) (reason_of_index s p)

-- nothing that is kept is redundant
abbrev pub IsMinimised : State → Work → Type 0
IsMinimised s w = (p : ℕ) → 0 < occurrences p w.kept → IsRedundant s w p → ⊥

-- the parts of the work stay apart, wherever the walk has come to
abbrev pub KeepsWork : State → Work → Work → Type 0
KeepsWork s old new = (high : ℕ) → IsWork s high old → IsWork s high new

-- the present level begins at an index of the trail
pub record IsStart (s : State) (floor : ℕ) : Type 0 where
  pub within : floor < length s.trail
  pub decided_ : get_or s.reasons floor None ≡ None
  pub later : (p : ℕ) → floor < p → p < length s.trail → IsSome (get_or s.reasons p None)

-- the number of a clause, 0 without one
abbrev pub number_of : Option Clause → ℕ
number_of None = 0
number_of (Some c) = c.number

-- the number of a clause, and of the reason of an index
abbrev pub number_in : State → ℕ → ℕ
number_in s clause = number_of (clause_in s.clauses clause)

-- the number of a reason, 0 without one
abbrev pub reason_number : State → Option ℕ → ℕ
reason_number s None = 0
reason_number s (Some clause) = number_in s clause

-- the number of the reason of the literal at a trail index
abbrev pub number_at : State → ℕ → ℕ
number_at s p = reason_number s (get_or s.reasons p None)

-- the negation of the literal at a trail index
abbrev pub negated_at : State → ℕ → Literal
negated_at s p = negate (lit_at s.trail p)

-- the same numbers or literals, in the order of the numbers or of the variables
pub record SortsNumbers (old new : List ℕ) : Type 0 where
  pub same : IsPermutation old new
  pub ascends : IsNonDecreasingBy (λ (x : ℕ). x) new

-- the literals are the same, in ascending order of their variables
pub record SortsLiterals (old new : List Literal) : Type 0 where
  pub same : IsPermutation old new
  pub ascends : IsNonDecreasingBy (λ (l : Literal). l.variable) new

-- from an index on nothing that is kept is redundant
abbrev pub IsMinimisedFrom : State → Work → ℕ → Type 0
IsMinimisedFrom s w index = (k : ℕ) → index ≤ k → k < length w.kept → IsRedundant s w (get_or w.kept k 0) → ⊥

-- a number is after an index of a list
abbrev pub StandsBehind : List ℕ → ℕ → ℕ → Type 0
StandsBehind xs index x = (j : ℕ) × (index < j) × (j < length xs) × (x ≡ get_or xs j 0)

-- the same from one index less on
abbrev pub MinimisesAt : State → Work → Work → ℕ → Type 0
MinimisesAt s old new index = old.deep ≡ false → IsMinimisedFrom s old (index + 1) →
    IsMinimisedFrom s new index
