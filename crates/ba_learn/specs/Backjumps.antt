-- A learnt clause after a backjump to its level.

use Rattle.std.specs.Prelude.{◌≡◌, ◌≢◌, ℕ, ◌<◌, ltb, true, false, None, Some, List, length, take, if◌then◌else◌}
use Rattle.ba_lits.specs.Literals.{Literal, lit_at}
use Rattle.ba_watch.specs.Trails.{value_of, decided, kept}
use Rattle.ba_watch.specs.Propagation.{State}

-- the watch without the literals of the levels above one
abbrev pub after_backtrack : ℕ → State → State
after_backtrack level s = record s {
  trail = take (kept level s.reasons) s.trail;
  reasons = take (kept level s.reasons) s.reasons;
  settled = if ltb level (decided s.reasons) then true else s.settled;
}

-- one literal of the clause has no value, and all others are false
pub record IsUnitAt (trail lits : List Literal) (free : ℕ) : Type 0 where
  pub free_in : free < length lits
  pub no_value : value_of trail (lit_at lits free) ≡ None
  pub others : (k : ℕ) → k < length lits → k ≢ free → value_of trail (lit_at lits k) ≡ Some false
