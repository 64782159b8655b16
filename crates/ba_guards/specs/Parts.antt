-- Nodes without nodes inside.

use Rattle.std.specs.Prelude.{ℕ, List, length, map, Ok}
use Rattle.ba_code.specs.Facts.{Declared}
use Rattle.ba_code.specs.Meaning.{assert_value, past_bound}
use Rattle.ba_code.specs.Operators.{converting}
use Rattle.ba_code.specs.State.{cell_at, operand_value, or_trap_at, set_array, set_variable, with_cell}
use Rattle.ba_code.specs.declared.nodes.ArrayInfo.{ArrayInfo}
use Rattle.ba_code.specs.declared.nodes.Operand.{Operand}
use Rattle.ba_code_laws.specs.Tracing.{TracedExecution, untraced}
use Rattle.ba_numbers.specs.Numbers.{converted}
use Rattle.ba_numbers.specs.declared.ids.StmtId.{StmtId}
use Rattle.ba_numbers.specs.declared.numbers.BinOp.{BinOp}
use Rattle.ba_numbers.specs.declared.numbers.CType.{CType}
use Rattle.ba_numbers.specs.declared.numbers.UnOp.{UnOp}
use Rattle.ba_tree.specs.Acts.{then_do}
use Rattle.ba_tree.specs.Meaning.{elements_with}
use Rattle.ba_tree.specs.declared.run.Flow.TheVariants.{Leaves}

-- these variables and arrays
abbrev pub declared : ℕ → List ArrayInfo → Declared
declared vars arrays = record { vars = vars; arrays = arrays }

-- what `Set` does
abbrev pub set_part : ℕ → Operand → TracedExecution
set_part to a = untraced (λ c. set_variable to (operand_value c a) c)

-- what `Unary` does
abbrev pub unary_part : ℕ → UnOp → CType → Operand → TracedExecution
unary_part to op t a =
    untraced (λ c. set_variable to (converting.unary op t (operand_value c a)) c)

-- what `Binary` does; it may trap at the statement
abbrev pub binary_part : ℕ → BinOp → CType → Operand → Operand → StmtId → TracedExecution
binary_part to op t a b stmt = untraced (λ c. then_do
    (or_trap_at stmt (converting.binary op t (operand_value c a) (operand_value c b)) c)
    (set_variable to))

-- what `Convert` does
abbrev pub convert_part : ℕ → CType → Operand → TracedExecution
convert_part to t a = untraced (λ c. set_variable to (converted t (operand_value c a)) c)

-- what `Load` does; it traps outside the array
abbrev pub load_part : ℕ → ℕ → Operand → StmtId → TracedExecution
load_part to array index stmt = untraced (λ c. then_do
    (or_trap_at stmt (cell_at (c.arrays array) (operand_value c index)) c) (set_variable to))

-- what `Save` does; it traps outside the array
abbrev pub save_part : ℕ → Operand → Operand → StmtId → TracedExecution
save_part array index value stmt = untraced (λ c. then_do
    (or_trap_at stmt (with_cell (c.arrays array) (operand_value c index) (operand_value c value)) c)
    (set_array array))

-- what `Fill` does: the elements are these values, the rest 0
abbrev pub fill_part : ℕ → List Operand → TracedExecution
fill_part array values = untraced (λ c. set_array array
    (elements_with (length (c.arrays array)) (map (operand_value c) values)) c)

-- what `Assert` does
abbrev pub assert_part : Operand → StmtId → TracedExecution
assert_part when stmt = untraced (λ c. assert_value stmt (operand_value c when) c)

-- what `Beyond` does
abbrev pub beyond_part : StmtId → TracedExecution
beyond_part stmt = untraced (past_bound stmt)

-- what `Leave` does
abbrev pub leave_part : ℕ → TracedExecution
leave_part label = untraced (λ c. (Ok (Leaves label), c))
