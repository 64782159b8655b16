-- The state of a run of three-address code.

use Rattle.std.specs.Prelude.{ℕ, ℤ, pos, ◌==◌, cond, Option, None, Some, List, length, slice_index_or, slice_set, unsigned_abs, Ok, Err}
use Rattle.ba_numbers.specs.declared.ids.StmtId.{StmtId}
use Rattle.ba_choices.specs.declared.Choice.{Choice}
use Rattle.ba_code.specs.declared.nodes.Operand.{Operand}
use Rattle.ba_code.specs.declared.nodes.Operand.TheVariants.{Const, Var}
use Rattle.ba_tree.specs.Acts.{ActOn, EndOn, Executes}
use Rattle.ba_tree.specs.State.{is_index}
use Rattle.ba_tree.specs.declared.run.Flow.TheVariants.{Next}
use Rattle.ba_tree.specs.declared.run.Halt.TheVariants.{Trap}

-- The state of a run: the value of each variable, the elements of each array, and the choices not used up
-- yet. Variables and arrays are given by their numbers.
pub record CodeState : Type 0 where
  pub variables : ℕ → ℤ
  pub arrays : ℕ → List ℤ
  pub choices : List Choice

-- how a part ends: a value or the end of the run, and a state
abbrev pub CodeEnding : Type 0 → Type 0
CodeEnding A = EndOn CodeState A

-- a part of a run of code
abbrev pub CodeAct : Type 0 → Type 0
CodeAct A = ActOn CodeState A

-- what nodes do; a leave of a block is given by its label
abbrev pub CodeExecution : Type 0
CodeExecution = Executes CodeState ℕ

-- the same function except at one number
abbrev pub with_at : {A : Type 0} → (ℕ → A) → ℕ → A → ℕ → A
with_at f n a m = cond (m == n) a (f m)

-- the value of a constant or variable
abbrev pub operand_value : CodeState → Operand → ℤ
operand_value s (Const z) = z
operand_value s (Var n) = s.variables n

-- the state with this value of a variable
abbrev pub with_variable : ℕ → ℤ → CodeState → CodeState
with_variable n z s = record s { variables = with_at s.variables n z }

-- the state with these elements of an array
abbrev pub with_array : ℕ → List ℤ → CodeState → CodeState
with_array n zs s = record s { arrays = with_at s.arrays n zs }

-- a variable gets a value
abbrev pub set_variable : ℕ → ℤ → CodeExecution
set_variable n z s = (Ok Next, with_variable n z s)

-- an array gets its elements
abbrev pub set_array : ℕ → List ℤ → CodeExecution
set_array n zs s = (Ok Next, with_array n zs s)

-- the element at an index, None outside the array
abbrev pub cell_at : List ℤ → ℤ → Option ℤ
cell_at cells i = cond (is_index (length cells) i) (Some (slice_index_or cells (unsigned_abs i) (pos 0))) None

-- the elements with this value at an index, None outside the array
abbrev pub with_cell : List ℤ → ℤ → ℤ → Option (List ℤ)
with_cell cells i z = cond (is_index (length cells) i) (Some (slice_set cells (unsigned_abs i) z)) None

-- the value, or a trap for None
abbrev pub or_trap_at : {A : Type 0} → StmtId → Option A → CodeAct A
or_trap_at stmt None s = (Err (Trap stmt), s)
or_trap_at stmt (Some a) s = (Ok a, s)
