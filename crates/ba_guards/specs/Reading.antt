-- What a list says of the run so far, under an assignment of its free words.

use Rattle.std.specs.Prelude.{ℕ, ◌+◌, ℤ, Bool, cond, Option, None, Some, List, [], ◌∷◌, map, slice_get, slice_index_or}
use Rattle.ba_tree.specs.declared.run.Place.{Place}
use Rattle.ba_guards.specs.declared.builder.Builder.{Builder}
use Rattle.ba_guards.specs.declared.exits.Exit.{Exit}
use Rattle.ba_code_laws.specs.Visits.{Visit}
use Rattle.ba_wordlist.specs.Meaning.{Assignment, are_met, elements_at, is_nonzero, value_at, values_of, visits_in}

-- Where a run is at the end of the list. It doesn't come there; or it does, with these variables; or it has
-- left a block on the way, by its exit.
pub data Status : Type 0 where
  idle : Status
  running : (variables : ℕ → ℤ) → Status
  left : (exit : ℕ) (variables : ℕ → ℤ) → Status

-- what the words made so far say of a run under an assignment
pub record Snapshot : Type 0 where
  pub status : Status
  pub arrays : ℕ → List ℤ
  pub places : List Place

-- the same by the values of the list's entries

-- the values of variables, by their words
abbrev pub variables_at : List (List ℤ) → List ℕ → ℕ → ℤ
variables_at vs words n = value_at vs (slice_index_or words n 0)

-- the elements of an array, by its word; none without one
abbrev pub elements_where : List (List ℤ) → Option ℕ → List ℤ
elements_where vs None = []
elements_where vs (Some w) = elements_at vs w

-- the elements of arrays, by their words
abbrev pub arrays_at : List (List ℤ) → List ℕ → ℕ → List ℤ
arrays_at vs words n = elements_where vs (slice_get words n)

-- by which exit the run has left, counted from k; `idle` if by none
abbrev pub left_from : List (List ℤ) → ℕ → List Exit → Status
left_from vs k [] = idle
left_from vs k (e ∷ es) =
    cond (is_nonzero (value_at vs e.live)) (left k (variables_at vs e.vars))
    (left_from vs (k + 1) es)

-- the present path condition holds
abbrev pub is_live : List (List ℤ) → Builder → Bool
is_live vs b = is_nonzero (value_at vs b.live)

-- the status of the run: running, left by an exit, or idle
abbrev pub status_at : List (List ℤ) → Builder → Status
status_at vs b = cond (is_live vs b) (running (variables_at vs b.vars)) (left_from vs 0 b.exits)

-- the places that the run has come to
abbrev pub places_at : List (List ℤ) → Builder → List Place
places_at vs b = map (λ (v : Visit). v.place) (visits_in vs b.places)

-- the snapshot by the values of the words
abbrev pub snapshot_at : List (List ℤ) → Builder → Snapshot
snapshot_at vs b = record {
  status = status_at vs b;
  arrays = arrays_at vs b.arrays;
  places = places_at vs b;
}

-- the snapshot under an assignment
abbrev pub snapshot : Assignment → Builder → Snapshot
snapshot f b = snapshot_at (values_of f b.words) b

-- the executions that the run has come to, under an assignment
abbrev pub visits : Assignment → Builder → List Visit
visits f b = visits_in (values_of f b.words) b.places

-- the requirements so far hold under an assignment
abbrev pub met : Assignment → Builder → Bool
met f b = are_met (values_of f b.words) b.require
