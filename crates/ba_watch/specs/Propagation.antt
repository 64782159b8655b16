-- Unit propagation: the state of a watch, and completeness of propagation.

use Rattle.std.specs.Prelude.{◌≡◌, ◌≢◌, ℕ, ◌+◌, ◌*◌, ◌<◌, ◌≤◌, Bool, true, false, not, ◌&&◌, Option, None, Some, IsSome, List, [], ◌∷◌, length, get_or, take, drop, if◌then◌else◌}
use Prim.Native.Nat.{suc}
use Rattle.std.specs.List.Sorted.{IsPermutation}
use Rattle.ba_lits.specs.Literals.{Literal, negate, index_of, lit_at}
use Rattle.ba_lits.specs.Hints.{has_literal}
use Rattle.ba_arena.specs.Clauses.{Clauses, IsLive, lits_at}
use Rattle.ba_watch.specs.Chains.{occurrences}
use Rattle.ba_watch.specs.Threads.{Clause, plain_at, index_at, AreApart}
use Rattle.ba_watch.specs.Trails.{Assignments, value_of, trail_index, decided, level_at, IsTrail, Begins}

-- what a contract sees of a watch: the clauses by reference, and the trail with its reasons
pub record State : Type 0 where
  pub variables : ℕ
  pub clauses : List (Option Clause)
  pub trail : List Literal
  pub reasons : List (Option ℕ)
  pub settled : Bool

-- a literal's value is false
abbrev pub falsified : Option Bool → Bool
falsified None = false
falsified (Some b) = not b

-- a clause is false if all its literals are
abbrev pub is_false : (Literal → Option Bool) → List Literal → Bool
is_false value [] = true
is_false value (l ∷ ls) = falsified (value l) && is_false value ls

-- a clause is unit if one of its literals has no value and all others are false
abbrev pub unit_step : Option Bool → Bool → Bool → Bool
unit_step None rest_false rest_unit = rest_false
unit_step (Some true) rest_false rest_unit = false
unit_step (Some false) rest_false rest_unit = rest_unit

-- all literals are false but one, which has no value
abbrev pub is_unit : (Literal → Option Bool) → List Literal → Bool
is_unit value [] = false
is_unit value (l ∷ ls) = unit_step (value l) (is_false value ls) (is_unit value ls)

-- the literals of a clause, none without one
abbrev pub plain_lits : Option Clause → List Literal
plain_lits None = []
plain_lits (Some c) = c.lits

-- the clause of a reference, and its literals
abbrev pub clause_in : List (Option Clause) → ℕ → Option Clause
clause_in clauses clause = get_or clauses clause None

-- the literals of the clause of a reference, none without one
abbrev pub lits_in : List (Option Clause) → ℕ → List Literal
lits_in clauses clause = plain_lits (clause_in clauses clause)

-- no live clause is false or unit under a trail
pub record IsComplete (clauses : List (Option Clause)) (trail : List Literal) : Type 0 where
  pub none_false : (clause : ℕ) → IsSome (clause_in clauses clause) →
      is_false (value_of trail) (lits_in clauses clause) ≡ false
  pub none_unit : (clause : ℕ) → IsSome (clause_in clauses clause) →
      is_unit (value_of trail) (lits_in clauses clause) ≡ false

-- a clause that has the literal and whose other literals are false under a trail
pub record IsReason (lits trail : List Literal) (lit : Literal) : Type 0 where
  pub has : has_literal lit lits ≡ true
  pub others : (k : ℕ) → k < length lits → index_at lits k ≢ index_of lit →
      value_of trail (lit_at lits k) ≡ Some false

-- each reason is a live clause that has its literal, and whose others became false earlier on the trail
abbrev pub HasReasons : (ℕ → List Literal) → List Literal → List (Option ℕ) → Type 0
HasReasons lits trail reasons =
    (p clause : ℕ) → p < length trail → get_or reasons p None ≡ Some clause →
    IsReason (lits clause) (take p trail) (lit_at trail p)

-- if the first literal became false before a trail index, the second is true, at the level of the first or a
-- lower one
abbrev pub IsGuarded : List Literal → List (Option ℕ) → ℕ → Literal → Literal → Type 0
IsGuarded trail reasons head a b =
    value_of trail a ≡ Some false → trail_index trail a.variable < head →
    (value_of trail b ≡ Some true) × (level_at reasons (trail_index trail b.variable) ≤ level_at reasons
    (trail_index trail a.variable))

-- the same of the watched literals of each clause, both ways
pub record AreGuarded (lits : ℕ → List Literal) (trail : List Literal) (reasons : List (Option ℕ))
    (head : ℕ) : Type 0 where
  pub first : (clause : ℕ) → 2 ≤ length (lits clause) →
      IsGuarded trail reasons head (lit_at (lits clause) 0) (lit_at (lits clause) 1)
  pub second : (clause : ℕ) → 2 ≤ length (lits clause) →
      IsGuarded trail reasons head (lit_at (lits clause) 1) (lit_at (lits clause) 0)

-- what holds of the trail and the clauses' literals when propagation has come to an index of the trail
pub record AreFacts (lits : ℕ → List Literal) (variables : ℕ) (trail : List Literal)
    (reasons : List (Option ℕ)) (head : ℕ) : Type 0 where
  pub trail_is : IsTrail variables trail reasons
  pub head_le : head ≤ length trail
  pub present : decided (drop (suc head) reasons) ≡ 0
  pub guarded : AreGuarded lits trail reasons head
  pub reasons_are : HasReasons lits trail reasons
  pub in_range : (clause k : ℕ) → k < length (lits clause) → (lit_at (lits clause) k).variable ≤ variables

-- each live clause of fewer than two literals has a literal that is true at level 0, or waits
pub record AreUnits (clauses : Clauses) (trail : List Literal) (reasons : List (Option ℕ))
    (waiting : List ℕ) : Type 0 where
  pub one : (clause : ℕ) → IsLive clauses clause → length (lits_at clauses clause) < 2 →
      occurrences clause waiting ≡ 0 → length (lits_at clauses clause) ≡ 1
  pub true_ : (clause : ℕ) → IsLive clauses clause → length (lits_at clauses clause) < 2 →
      occurrences clause waiting ≡ 0 → value_of trail (lit_at (lits_at clauses clause) 0) ≡ Some true
  pub level : (clause : ℕ) → IsLive clauses clause → length (lits_at clauses clause) < 2 →
      occurrences clause waiting ≡ 0 → level_at reasons
      (trail_index trail (lit_at (lits_at clauses clause) 0).variable) ≡ 0
  pub live : (clause : ℕ) → 0 < occurrences clause waiting → IsLive clauses clause
  pub short : (clause : ℕ) → 0 < occurrences clause waiting → length (lits_at clauses clause) < 2

-- the facts that a watch keeps
pub record IsSound (clauses : Clauses) (heads : ℕ) (pending : Option ℕ) (variables : ℕ)
    (trail : List Literal) (reasons : List (Option ℕ)) (head : ℕ) (waiting : List ℕ) (settled : Bool) : Type
    0 where
  pub facts : AreFacts (lits_at clauses) variables trail reasons head
  pub units : AreUnits clauses trail reasons waiting
  pub idle : pending ≡ None
  pub room : 0 < variables → 2 * variables + 2 ≤ heads
  pub raised : 0 < decided reasons → waiting ≡ []
  pub settled_head : settled ≡ true → head ≡ length trail
  pub settled_waiting : settled ≡ true → waiting ≡ []

-- the same clause, with its literals in some order
abbrev pub SameClause : Option Clause → Option Clause → Type 0
SameClause None None = Unit {0}
SameClause None (Some d) = ⊥
SameClause (Some c) None = ⊥
SameClause (Some c) (Some d) = (d.number ≡ c.number) × IsPermutation c.lits d.lits

-- the same clauses, each with its literals in some order
abbrev pub SameClauses : List (Option Clause) → List (Option Clause) → Type 0
SameClauses old new = (clause : ℕ) → SameClause (clause_in old clause) (clause_in new clause)

-- literals with reasons were added to the trail, none of them decided
pub record Extends (old new : State) : Type 0 where
  pub variables : new.variables ≡ old.variables
  pub trail : Begins old.trail new.trail
  pub reasons : Begins old.reasons new.reasons
  pub level : decided new.reasons ≡ decided old.reasons
  pub clauses : SameClauses old.clauses new.clauses

-- a clause was added, with its literals in some order; the rest stays
pub record AddsClause (old new : State) (clause : ℕ) (lits : List Literal) (number : ℕ) : Type 0 where
  pub fresh : clause_in old.clauses clause ≡ None
  pub there : SameClause (Some (record { lits = lits; number = number })) (clause_in new.clauses clause)
  pub others : (k : ℕ) → k ≢ clause → clause_in new.clauses k ≡ clause_in old.clauses k
  pub variables : new.variables ≡ old.variables
  pub trail : new.trail ≡ old.trail
  pub reasons : new.reasons ≡ old.reasons
  pub settled : new.settled ≡ false

-- one literal has no value, all others are false, and one of these became false at the present level
pub record IsAsserting (s : State) (lits : List Literal) : Type 0 where
  pub free : ℕ
  pub free_in : free < length lits
  pub free_none : value_of s.trail (lit_at lits free) ≡ None
  pub others : (k : ℕ) → k < length lits → k ≢ free → value_of s.trail (lit_at lits k) ≡ Some false
  pub recent : ℕ
  pub recent_in : recent < length lits
  pub recent_false : value_of s.trail (lit_at lits recent) ≡ Some false
  pub recent_level : level_at s.reasons (trail_index s.trail (lit_at lits recent).variable)
      ≡ decided s.reasons

-- the list of the literal that became false at the head of propagation is being visited
pub record IsVisiting (lits : ℕ → List Literal) (variables : ℕ) (trail : List Literal)
    (reasons : List (Option ℕ)) (head visited : ℕ) : Type 0 where
  pub facts : AreFacts lits variables trail reasons head
  pub inside : head < length trail
  pub visited_is : visited ≡ index_of (negate (lit_at trail head))

-- a clause that watches the literal and was visited has its other watched literal true
pub record AreVisited (lits : ℕ → List Literal) (trail : List Literal) (visited : ℕ) (todo : List ℕ) : Type
    0 where
  pub first : (clause : ℕ) → 2 ≤ length (lits clause) → occurrences clause todo ≡ 0 →
      index_at (lits clause) 0 ≡ visited → value_of trail (lit_at (lits clause) 1) ≡ Some true
  pub second : (clause : ℕ) → 2 ≤ length (lits clause) → occurrences clause todo ≡ 0 →
      index_at (lits clause) 1 ≡ visited → value_of trail (lit_at (lits clause) 0) ≡ Some true

-- what the visit of a clause, or of several, may change
pub record VisitsSome (old new : Clauses) (t u : Assignments) (visited : ℕ) : Type 0 where
  pub clauses : (k : ℕ) → SameClause (plain_at old k) (plain_at new k)
  pub variables : u.variables ≡ t.variables
  pub trail : Begins t.lits u.lits
  pub reasons : Begins t.reasons u.reasons
  pub level : decided u.reasons ≡ decided t.reasons
  pub in_range : ((r k : ℕ) → k < length (lits_at old r) →
      (lit_at (lits_at old r) k).variable ≤ t.variables) → (r k : ℕ) → k < length (lits_at new r) →
      (lit_at (lits_at new r) k).variable ≤ u.variables
  pub units : (waiting : List ℕ) → AreUnits old t.lits t.reasons waiting →
      AreUnits new u.lits u.reasons waiting
  pub visiting : (head : ℕ) → IsVisiting (lits_at old) t.variables t.lits t.reasons head visited →
      IsVisiting (lits_at new) u.variables u.lits u.reasons head visited

-- a clause of the list was visited: it is false, or one clause fewer is left
pub record Visits (old new : Clauses) (t u : Assignments) (visited : ℕ) (todo rest : List ℕ) (clause : ℕ)
    (conflict : Bool) : Type 0 where
  pub steps : VisitsSome old new t u visited
  pub passed : (head : ℕ) → IsVisiting (lits_at old) t.variables t.lits t.reasons head visited →
      conflict ≡ false → AreVisited (lits_at old) t.lits visited todo →
      AreVisited (lits_at new) u.lits visited rest
  pub failed : (head : ℕ) → IsVisiting (lits_at old) t.variables t.lits t.reasons head visited →
      conflict ≡ true → is_false (value_of u.lits) (lits_at new clause) ≡ true

-- one list is being visited: what has changed so far, and what is known of the clauses that were visited
pub record IsUnderway (start now : Clauses) (t u : Assignments) (visited : ℕ) (todo : List ℕ)
    (conflict : Option ℕ) : Type 0 where
  pub steps : VisitsSome start now t u visited
  pub passed : conflict ≡ None → (head : ℕ) → IsVisiting (lits_at start) t.variables t.lits t.reasons head
      visited → AreVisited (lits_at now) u.lits visited todo
  pub failed : (clause : ℕ) → conflict ≡ Some clause → (head : ℕ) →
      IsVisiting (lits_at start) t.variables t.lits t.reasons head visited →
      is_false (value_of u.lits) (lits_at now clause) ≡ true
  pub live : (clause : ℕ) → conflict ≡ Some clause → IsLive now clause

-- the literals of the clauses have variables up to a number
abbrev pub InRange : Clauses → ℕ → Type 0
InRange clauses variables = (r k : ℕ) → k < length (lits_at clauses r) →
    (lit_at (lits_at clauses r) k).variable ≤ variables

-- literals of clauses of one literal became true; whatever held still holds
pub record AssignsUnits (clauses : Clauses) (t u : Assignments) : Type 0 where
  pub variables : u.variables ≡ t.variables
  pub trail : Begins t.lits u.lits
  pub reasons : Begins t.reasons u.reasons
  pub level : decided u.reasons ≡ decided t.reasons
  pub facts : (head : ℕ) → AreFacts (lits_at clauses) t.variables t.lits t.reasons head →
      AreFacts (lits_at clauses) u.variables u.lits u.reasons head
  pub units : (waiting : List ℕ) → AreUnits clauses t.lits t.reasons waiting →
      AreUnits clauses u.lits u.reasons waiting

-- the same of one clause, which is true or false now
pub record AssignsUnit (clauses : Clauses) (t u : Assignments) (clause : ℕ) (ok : Bool) : Type 0 where
  pub steps : AssignsUnits clauses t u
  pub one : ok ≡ true → length (lits_at clauses clause) ≡ 1
  pub is_true : ok ≡ true → value_of u.lits (lit_at (lits_at clauses clause) 0) ≡ Some true
  pub failed : ok ≡ false → is_false (value_of u.lits) (lits_at clauses clause) ≡ true

-- what propagation may change: literals with reasons are added, and clauses reorder their literals
pub record Propagates (old new : Clauses) (t u : Assignments) : Type 0 where
  pub clauses : (k : ℕ) → SameClause (plain_at old k) (plain_at new k)
  pub variables : u.variables ≡ t.variables
  pub trail : Begins t.lits u.lits
  pub reasons : Begins t.reasons u.reasons
  pub level : decided u.reasons ≡ decided t.reasons
  pub units : (waiting : List ℕ) → AreUnits old t.lits t.reasons waiting →
      AreUnits new u.lits u.reasons waiting

-- the rank of a literal: the index on the trail at which it became false, or the trail's length if it isn't
-- false
abbrev pub rank_of : List Literal → Literal → ℕ
rank_of trail l = if falsified (value_of trail l) then trail_index trail l.variable else length trail

-- What a watch tells of itself. Every variable on the trail is assigned once, and reasons are reasons. If it
-- is settled propagation is complete, and it was so before each decision. No literal occurs twice in a
-- clause.
pub record KeepsFacts (s : State) : Type 0 where
  pub trail : IsTrail s.variables s.trail s.reasons
  pub reasons : HasReasons (lits_in s.clauses) s.trail s.reasons
  pub in_range : (clause k : ℕ) → k < length (lits_in s.clauses clause) →
      (lit_at (lits_in s.clauses clause) k).variable ≤ s.variables
  pub settled : s.settled ≡ true → IsComplete s.clauses s.trail
  pub below : (p : ℕ) → p < length s.trail → get_or s.reasons p None ≡ None →
      IsComplete s.clauses (take p s.trail)
  pub apart : (clause : ℕ) → AreApart (lits_in s.clauses clause)

-- a number is one of two
abbrev pub IsOneOf : ℕ → ℕ → ℕ → Type 0
IsOneOf n a b = n ≢ a → n ≡ b
