-- What each node does.

use Rattle.std.specs.Prelude.{ℕ, Bool, true, false, List, map, length, Ok, Err}
use Rattle.ba_numbers.specs.Numbers.{converted}
use Rattle.ba_numbers.specs.declared.ids.StmtId.{StmtId}
use Rattle.ba_numbers.specs.declared.numbers.BinOp.{BinOp}
use Rattle.ba_numbers.specs.declared.numbers.CType.{CType}
use Rattle.ba_numbers.specs.declared.numbers.UnOp.{UnOp}
use Rattle.ba_code.specs.Meaning.{InTurns, Setting, as_picked, assert_value, block, body_and_step, choice_where, head_loop, path_in, run_nodes, tail_loop}
use Rattle.ba_code.specs.State.{cell_at, operand_value, or_trap_at, set_array, set_variable, with_cell}
use Rattle.ba_code.specs.declared.nodes.Node.{Node}
use Rattle.ba_code.specs.declared.nodes.Operand.{Operand}
use Rattle.ba_code.specs.declared.nodes.Take.{Take}
use Rattle.ba_tree.specs.Acts.{fork, then_do}
use Rattle.ba_tree.specs.Meaning.{elements_with}
use Rattle.ba_tree.specs.declared.run.Flow.TheVariants.{Leaves}
use Rattle.ba_tree.specs.declared.run.Halt.TheVariants.{Beyond}
use Rattle.ba_tree.specs.declared.run.Step.{Step}

-- what `Set` does
abbrev pub set_act : ℕ → Operand → Setting → InTurns
set_act to from g turns t = set_variable to (operand_value t from) t

-- what `Unary` does
abbrev pub unary_act : ℕ → UnOp → CType → Operand → Setting → InTurns
unary_act to op ty a g turns t = set_variable to (g.operators.unary op ty (operand_value t a)) t

-- what `Binary` does; it may trap at the statement
abbrev pub binary_act : ℕ → BinOp → CType → Operand → Operand → StmtId → Setting → InTurns
binary_act to op ty a b stmt g turns t =
    then_do (or_trap_at stmt (g.operators.binary op ty (operand_value t a) (operand_value t b)) t)
    (set_variable to)

-- what `Convert` does
abbrev pub convert_act : ℕ → CType → Operand → Setting → InTurns
convert_act to ty a g turns t = set_variable to (converted ty (operand_value t a)) t

-- what `Load` does; it traps outside the array
abbrev pub load_act : ℕ → ℕ → Operand → StmtId → Setting → InTurns
load_act to array index stmt g turns t =
    then_do (or_trap_at stmt (cell_at (t.arrays array) (operand_value t index)) t) (set_variable to)

-- what `Save` does; it traps outside the array
abbrev pub save_act : ℕ → Operand → Operand → StmtId → Setting → InTurns
save_act array index value stmt g turns t =
    then_do (or_trap_at stmt (with_cell (t.arrays array) (operand_value t index) (operand_value t value)) t)
    (set_array array)

-- what `Fill` does: the elements are these values, the rest 0
abbrev pub fill_act : ℕ → List Operand → Setting → InTurns
fill_act array values g turns t =
    set_array array (elements_with (length (t.arrays array)) (map (operand_value t) values)) t

-- what `Pick` does: by the choice, or as written
abbrev pub pick_act : List Step → StmtId → Take → List Node → Setting → InTurns
pick_act path stmt take keep g turns t = then_do (choice_where (g.relaxes (path_in turns path) stmt) t)
    (as_picked g.arrays take (run_nodes g keep turns))

-- what `If` does
abbrev pub if_act : Operand → List Node → List Node → Setting → InTurns
if_act when if_not_zero if_zero g turns t =
    fork (run_nodes g if_not_zero turns) (run_nodes g if_zero turns) (operand_value t when) t

-- what `Block` does
abbrev pub block_act : ℕ → List Node → Setting → InTurns
block_act label body g turns t = block label (run_nodes g body turns) t

-- what `Leave` does
abbrev pub leave_act : ℕ → Setting → InTurns
leave_act label g turns t = (Ok (Leaves label), t)

-- what `Loop` does, with the test before an iteration or after it
abbrev pub loop_act : Bool → List Node → Operand → List Node → List Node → StmtId → Setting → InTurns
loop_act false head when body step stmt g turns t = head_loop g.turns stmt
    (run_nodes g head) (λ t. operand_value t when) (body_and_step (run_nodes g body) (run_nodes g step))
    turns t
loop_act true head when body step stmt g turns t = tail_loop g.turns stmt
    (run_nodes g head) (λ t. operand_value t when) (body_and_step (run_nodes g body) (run_nodes g step))
    turns t

-- what `Assert` does
abbrev pub assert_act : Operand → StmtId → Setting → InTurns
assert_act when stmt g turns t = assert_value stmt (operand_value t when) t

-- what `Beyond` does
abbrev pub beyond_act : StmtId → Setting → InTurns
beyond_act stmt g turns t = (Err (Beyond stmt), t)
