-- The state of a run (C90 6.1.2.4), and what a part of a program does to it.

use Rattle.std.specs.Prelude.{ℕ, ℤ, pos, Bool, ◌&&◌, cond, Option, None, Some, List, [], length, slice_index_or, slice_set, unsigned_abs, int_le, int_lt}
use Rattle.ba_tree.specs.Acts.{ActOn, EndOn, Executes}
use Rattle.ba_tree.specs.declared.run.Exit.{Exit}
use Rattle.ba_numbers.specs.declared.ids.VarId.{VarId}
use Rattle.ba_choices.specs.declared.Choice.{Choice}

-- The state of a run. A variable with one value has it at its number in `values`. Each array has a location
-- in `arrays`. An array variable has at its number in `locations` the location that it names: its own
-- array's, or the argument's for an array parameter. The entries of a function's variables are those of its
-- innermost active frame, and its call restores the entries from before. `choices` are those not used up yet.
pub record State : Type 0 where
  pub values : List ℤ
  pub arrays : List (List ℤ)
  pub locations : List ℕ
  pub choices : List Choice

-- how a part ends: a value or the end of the run, and a state
abbrev pub Ending : Type 0 → Type 0
Ending A = EndOn State A

-- a part of a run
abbrev pub Act : Type 0 → Type 0
Act A = ActOn State A

-- what a statement of C does
abbrev pub Execution : Type 0
Execution = Executes State Exit

-- VARIABLES

-- the value of a variable
abbrev pub value_at : State → VarId → ℤ
value_at s v = slice_index_or s.values v.0 (pos 0)

-- the state with this value of a variable
abbrev pub with_value : State → VarId → ℤ → State
with_value s v z = record s { values = slice_set s.values v.0 z }

-- ARRAYS

-- the location that an array variable names
abbrev pub location_of : State → VarId → ℕ
location_of s v = slice_index_or s.locations v.0 0

-- the elements of the array that a variable names
abbrev pub elements_of : State → VarId → List ℤ
elements_of s v = slice_index_or s.arrays (location_of s v) []

-- the state with these elements of the array that a variable names
abbrev pub with_elements : State → VarId → List ℤ → State
with_elements s v zs = record s { arrays = slice_set s.arrays (location_of s v) zs }

-- an index is in an array of this length
abbrev pub is_index : ℕ → ℤ → Bool
is_index count i = int_le (pos 0) i && int_lt i (pos count)

-- the element at an index, None outside the array
abbrev pub element_at : State → VarId → ℤ → Option ℤ
element_at s v i = cond (is_index (length (elements_of s v)) i)
    (Some (slice_index_or (elements_of s v) (unsigned_abs i) (pos 0))) None

-- the state with this value in an element, None outside the array
abbrev pub with_element : State → VarId → ℤ → ℤ → Option State
with_element s v i z = cond (is_index (length (elements_of s v)) i)
    (Some (with_elements s v (slice_set (elements_of s v) (unsigned_abs i) z))) None
