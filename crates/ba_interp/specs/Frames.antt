-- What the end of a call restores.

use Rattle.std.specs.Prelude.{◌≡◌, List, map, length}
use Rattle.ba_numbers.specs.declared.ids.VarId.{VarId}
use Rattle.ba_tree.specs.State.{State, value_at, location_of}
use Rattle.ba_tree.specs.declared.tree.Function.{Function}
use Rattle.ba_interp.specs.declared.machine.Taken.{Taken}
use Rattle.ba_interp.specs.declared.frames.Kept.{Kept}

-- what a frame keeps of a variable: its value and its location
abbrev pub taken_of : State → VarId → Taken
taken_of s v = record { value = value_at s v; location = location_of s v }

-- what a frame keeps of variables
abbrev pub all_taken : State → List VarId → List Taken
all_taken s vs = map (taken_of s) vs

-- what was kept of the state before a call of the function
pub record IsKept (f : Function) (kept : Kept) (before : State) : Type 0 where
  pub params : kept.params.items ≡ all_taken before f.params
  pub locals : kept.locals.items ≡ all_taken before f.locals
  pub arrays : kept.arrays ≡ length before.arrays
