-- The state of a checker of derivations.

use Rattle.std.specs.Prelude.{ℕ, ltb, Bool, true, false, Option, None, Some, List, [], ◌∷◌, map, filter, length, set, slice_get, if◌then◌else◌}
use Prim.Native.Nat.{suc, zero}
use Rattle.ba_lits.specs.Literals.{Literal}
use Rattle.ba_lits.specs.Satisfaction.{Soft}
use Rattle.ba_lits.specs.Formulas.{Cnf}
use Rattle.ba_checker.specs.declared.store.Origin.{Origin}
use Rattle.ba_checker.specs.declared.store.Origin.TheVariants.{Given, Learnt, Core, Split, Blocked, Deleted}

-- a clause with its origin, which tells also that it was deleted
pub record Kept : Type 0 where
  pub lits : List Literal
  pub origin : Origin

-- a clause of this origin
abbrev pub kept : Origin → List Literal → Kept
kept origin lits = record { lits = lits; origin = origin }

-- the state of a derivation
pub record State : Type 0 where
  -- how many variables there are
  pub variables : ℕ
  -- the clauses in the order of their numbers, which begin at 1, the deleted ones too
  pub clauses : List Kept
  -- the soft literals as given, by group number, and the present ones with their weights
  pub groups : List Soft
  pub softs : List Soft
  -- the lower bound of every cost that the cores have shown
  pub bound : ℕ
  -- the blocked sets
  pub sets : List (List ℕ)
  -- the Learn and Core steps so far, and the limit on them
  pub conflicts : ℕ
  pub budget : ℕ
  -- the Learn steps since the last deletion
  pub learnt : ℕ
  -- the limit on least sets
  pub most_sets : ℕ
  -- an End step was taken
  pub ended : Bool
  -- memory ran out: every step is refused from now on
  pub refused : Bool

-- the entry of a number, from 1 on
abbrev pub kept_at : List Kept → ℕ → Option Kept
kept_at clauses zero = None
kept_at clauses (suc k) = slice_get clauses k

-- the literals of the clause at an index, from 0 on; none past the end
abbrev pub lits_of : Option Kept → List Literal
lits_of None = []
lits_of (Some k) = k.lits

-- the literals of the clause at this index, none beyond the end
abbrev pub lits_at : List Kept → ℕ → List Literal
lits_at clauses place = lits_of (slice_get clauses place)

-- a deleted clause is no longer live
abbrev pub is_live_origin : Origin → Bool
is_live_origin Given = true
is_live_origin Learnt = true
is_live_origin Core = true
is_live_origin Split = true
is_live_origin Blocked = true
is_live_origin Deleted = false

-- the literals of an entry that is live
abbrev pub live_lits : Option Kept → Option (List Literal)
live_lits None = None
live_lits (Some k) = if is_live_origin k.origin then Some k.lits else None

-- a live clause is at the index, from 0 on
abbrev pub is_live_entry : Option Kept → Bool
is_live_entry None = false
is_live_entry (Some k) = is_live_origin k.origin

-- the clause at this index is live
abbrev pub is_live_at : List Kept → ℕ → Bool
is_live_at clauses place = is_live_entry (slice_get clauses place)

-- the live clause of a number
abbrev pub clause_at : List Kept → ℕ → Option (List Literal)
clause_at clauses number = live_lits (kept_at clauses number)

-- the origin is that of a learnt clause
abbrev pub is_learnt_origin : Origin → Bool
is_learnt_origin Given = false
is_learnt_origin Learnt = true
is_learnt_origin Core = false
is_learnt_origin Split = false
is_learnt_origin Blocked = false
is_learnt_origin Deleted = false

-- the entry is a learnt clause that is live
abbrev pub is_learnt_entry : Option Kept → Bool
is_learnt_entry None = false
is_learnt_entry (Some k) = is_learnt_origin k.origin

-- no Learn step made the clause: it is of the formula, a core, of a split or of a blocked set, and is never
-- deleted
abbrev pub is_lasting_origin : Origin → Bool
is_lasting_origin Given = true
is_lasting_origin Learnt = false
is_lasting_origin Core = true
is_lasting_origin Split = true
is_lasting_origin Blocked = true
is_lasting_origin Deleted = false

-- the clause is of an origin that no step deletes
abbrev pub is_lasting : Kept → Bool
is_lasting k = is_lasting_origin k.origin

-- a live clause that a Learn step made has the number
abbrev pub is_learnt_at : List Kept → ℕ → Bool
is_learnt_at clauses number = is_learnt_entry (kept_at clauses number)

-- how many literals the clause of a number has, live or deleted
abbrev pub width_at : List Kept → ℕ → ℕ
width_at clauses number = length (lits_of (kept_at clauses number))

-- the clause of a number is deleted
abbrev pub without : List Kept → ℕ → List Kept
without clauses zero = clauses
without clauses (suc k) = set clauses k (kept Deleted (lits_at clauses k))

-- the clauses of these numbers are deleted
abbrev pub without_all : List Kept → List ℕ → List Kept
without_all clauses [] = clauses
without_all clauses (number ∷ numbers) = without_all (without clauses number) numbers

-- the soft literals of a weight above 0
abbrev pub present : List Soft → List Soft
present softs = filter (λ (s : Soft). ltb 0 s.1) softs

-- the state before the first step
abbrev pub first_state : Cnf → List Soft → ℕ → ℕ → State
first_state formula softs conflicts sets = record {
  variables = formula.variables;
  clauses = map (kept Given) formula.clauses;
  groups = softs;
  softs = present softs;
  bound = 0;
  sets = [];
  conflicts = 0;
  budget = conflicts;
  learnt = 0;
  most_sets = sets;
  ended = false;
  refused = false;
}
