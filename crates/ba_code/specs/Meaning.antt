-- What the nodes of three-address code do, by the definitions for statements (`ba_tree`).

use Rattle.std.specs.Prelude.{ℕ, ◌+◌, suc, zero, ℤ, pos, Bool, true, false, ◌==◌, cond, Option, None, Some, option_map, List, [], ◌∷◌, map, length, reverse, slice_index_or, slice_set, unsigned_abs, Ok, Err}
use Rattle.std.specs.Ordering.{int_eq}
use Rattle.ba_numbers.specs.Numbers.{converted}
use Rattle.ba_numbers.specs.declared.ids.StmtId.{StmtId}
use Rattle.ba_numbers.specs.declared.numbers.CType.TheVariants.{I32}
use Rattle.ba_choices.specs.declared.Choice.{Choice}
use Rattle.ba_choices.specs.declared.Choice.TheVariants as choice
use Rattle.ba_code.specs.Operators.{Operators}
use Rattle.ba_code.specs.State.{CodeState, CodeAct, CodeExecution, operand_value, with_variable, with_array, set_variable, set_array, cell_at, with_cell, or_trap_at}
use Rattle.ba_code.specs.declared.nodes.ArrayInfo.{ArrayInfo}
use Rattle.ba_code.specs.declared.nodes.Node.{Node}
use Rattle.ba_code.specs.declared.nodes.Node.TheOpen.{Node-F}
use Rattle.ba_code.specs.declared.nodes.Node.TheFolds.{fold-Node}
use Rattle.ba_code.specs.declared.nodes.Take.{Take}
use Rattle.ba_code.specs.declared.nodes.Take.TheVariants.{Value, Truth, Cell, Cells, Nothing}
use Rattle.ba_tree.specs.Acts.{give, then_do, fork, after_part, in_order}
use Rattle.ba_tree.specs.Choices.{one_value, one_truth, one_element, all_elements, no_value}
use Rattle.ba_tree.specs.Meaning.{elements_with}
use Rattle.ba_tree.specs.declared.run.Flow.{Flow}
use Rattle.ba_tree.specs.declared.run.Flow.TheVariants.{Next, Leaves}
use Rattle.ba_tree.specs.declared.run.Halt.TheVariants.{AssertFails, Beyond, WrongChoices}
use Rattle.ba_tree.specs.declared.run.Step.{Step}
use Rattle.ba_tree.specs.declared.run.Step.TheVariants.{Call, Turn}

-- What stays the same while code runs:
-- - which executions of statements may be relaxed, by the path to them, innermost step first
-- - the bound on iterations of each entry of a loop
-- - the arrays
-- - how operators take their operands
pub record Setting : Type 0 where
  pub relaxes : List Step → StmtId → Bool
  pub turns : ℕ
  pub arrays : List ArrayInfo
  pub operators : Operators

-- the length and type of an array
abbrev pub info_at : List ArrayInfo → ℕ → ArrayInfo
info_at arrays n = slice_index_or arrays n (record { len = 0; t = I32 })

-- PLACES

-- A path, innermost step first. Its iterations of number 0 get the present iterations of the loops around,
-- innermost first.
abbrev pub filled : List ℕ → List Step → List Step
filled turns [] = []
filled turns (Call c ∷ path) = Call c ∷ filled turns path
filled turns (Turn stmt (suc k) ∷ path) = Turn stmt (suc k) ∷ filled turns path
filled [] (Turn stmt zero ∷ path) = Turn stmt zero ∷ filled [] path
filled (k ∷ turns) (Turn stmt zero ∷ path) = Turn stmt k ∷ filled turns path

-- a place's path has the outermost step first
abbrev pub path_in : List ℕ → List Step → List Step
path_in turns path = filled turns (reverse path)

-- CHOICES, as in a run of a program

-- the first choice, which is used up; WrongChoices if there is none
abbrev pub first_choice : List Choice → CodeAct (Option (List ℤ))
first_choice [] s = (Err WrongChoices, s)
first_choice (choice.Keep ∷ choices) s = (Ok None, record s { choices = choices })
first_choice (choice.Take values ∷ choices) s = (Ok (Some values), record s { choices = choices })

-- the first choice if the execution may be relaxed; else None
abbrev pub choice_where : Bool → CodeAct (Option (List ℤ))
choice_where false s = (Ok None, s)
choice_where true s = first_choice s.choices s

-- what the values of a choice do, None if they don't fit
abbrev pub taken : List ArrayInfo → Take → List ℤ → CodeState → Option CodeState
taken arrays (Value to t) zs s = option_map (λ z. with_variable to z s) (one_value t zs)
taken arrays (Truth to) zs s = option_map (λ z. with_variable to z s) (one_truth zs)
taken arrays (Cell array) zs s = option_map
    (λ (cell : ℤ × ℤ). with_array array (slice_set (s.arrays array) (unsigned_abs cell.0) cell.1) s)
    (one_element (info_at arrays array).t (length (s.arrays array)) zs)
taken arrays (Cells array) zs s = option_map
    (λ zs. with_array array (elements_with (length (s.arrays array)) zs) s)
    (all_elements (info_at arrays array).t (length (s.arrays array)) zs)
taken arrays Nothing zs s = option_map (λ z. s) (no_value zs)

-- the state after a choice's values; WrongChoices if they do not fit
abbrev pub if_taken : Option CodeState → CodeExecution
if_taken None s = (Err WrongChoices, s)
if_taken (Some t) s = (Ok Next, t)

-- as written, or what the values of the choice do
abbrev pub as_picked : List ArrayInfo → Take → CodeExecution → Option (List ℤ) → CodeExecution
as_picked arrays take keep None s = keep s
as_picked arrays take keep (Some zs) s = if_taken (taken arrays take zs s) s

-- BLOCKS

-- a leave of a block's label goes on after the block
abbrev pub flow_after_block : ℕ → Flow ℕ → Flow ℕ
flow_after_block label Next = Next
flow_after_block label (Leaves other) = cond (other == label) Next (Leaves other)

-- a block, which a leave of its label ends
abbrev pub block : ℕ → CodeExecution → CodeExecution
block label body s = then_do (body s) (λ flow. give (flow_after_block label flow))

-- LOOPS

-- Rounds of a loop from round k on: its head, and if the value after it isn't 0, iteration k and then round k
-- + 1. At most `left` more iterations are allowed; a value after them that isn't 0 leads to `past`.
abbrev pub headed_rounds : (ℕ → CodeExecution) → (ℕ → CodeState → ℤ) → (ℕ → CodeExecution) →
    CodeExecution → ℕ → ℕ → CodeExecution
headed_rounds head when turn past zero k s =
    then_do (head k s) (after_part (λ s. fork past (give Next) (when k s) s))
headed_rounds head when turn past (suc left) k s = then_do (head k s) (after_part (λ s.
    fork (λ s. then_do (turn k s) (after_part (headed_rounds head when turn past left (k + 1)))) (give
    Next) (when k s) s))

-- no head comes before the first iteration of a `do`
abbrev pub head_behind : (ℕ → CodeExecution) → ℕ → CodeExecution
head_behind head zero s = (Ok Next, s)
head_behind head (suc k) s = head (suc k) s

-- the condition of a loop with the test at the end: none before the first iteration
abbrev pub value_behind : (CodeState → ℤ) → ℕ → CodeState → ℤ
value_behind when zero s = pos 1
value_behind when (suc k) s = when s

-- the run ends Beyond at this condition
abbrev pub past_bound : StmtId → CodeExecution
past_bound stmt s = (Err (Beyond stmt), s)

-- NODES

-- what nodes do in these iterations of the loops around, innermost first
abbrev pub InTurns : Type 0
InTurns = List ℕ → CodeExecution

-- a part inside these iterations
abbrev pub in_turns : List ℕ → InTurns → CodeExecution
in_turns turns part = part turns

-- nodes one after the other
abbrev pub nodes_in_order : List ℕ → List InTurns → CodeExecution
nodes_in_order turns parts = in_order (map (in_turns turns) parts)

-- an iteration of a loop: its body, and then its step
abbrev pub body_and_step : InTurns → InTurns → InTurns
body_and_step body step turns s = then_do (body turns s) (after_part (step turns))

-- a loop whose head comes first: head, iteration, head, ..
unfoldable pub head_loop : ℕ → StmtId → InTurns → (CodeState → ℤ) → InTurns → InTurns
head_loop bound stmt head when turn turns = headed_rounds
    (λ k. head (k ∷ turns)) (λ k. when) (λ k. turn (k ∷ turns)) (past_bound stmt) bound 1

-- a loop whose head comes after each iteration, in the iteration that it ends
unfoldable pub tail_loop : ℕ → StmtId → InTurns → (CodeState → ℤ) → InTurns → InTurns
tail_loop bound stmt head when turn turns = headed_rounds
    (head_behind (λ k. head (k ∷ turns))) (value_behind when) (λ k. turn ((k + 1) ∷ turns)) (past_bound
    stmt) bound 0

-- the run ends with a failed assertion if the value is 0
abbrev pub assert_value : StmtId → ℤ → CodeExecution
assert_value stmt z s = cond (int_eq z (pos 0)) (Err (AssertFails stmt), s) (Ok Next, s)

-- what a node does, by its parts
abbrev pub node_step : Setting → Node-F InTurns → InTurns
node_step g (Node-F.Set to from) turns s = set_variable to (operand_value s from) s
node_step g (Node-F.Unary to op t a) turns s = set_variable to (g.operators.unary op t (operand_value s a)) s
node_step g (Node-F.Binary to op t a b stmt) turns s =
    then_do (or_trap_at stmt (g.operators.binary op t (operand_value s a) (operand_value s b)) s)
    (set_variable to)
node_step g (Node-F.Convert to t a) turns s = set_variable to (converted t (operand_value s a)) s
node_step g (Node-F.Load to array index stmt) turns s =
    then_do (or_trap_at stmt (cell_at (s.arrays array) (operand_value s index)) s) (set_variable to)
node_step g (Node-F.Save array index value stmt) turns s =
    then_do (or_trap_at stmt (with_cell (s.arrays array) (operand_value s index) (operand_value s value))
    s) (set_array array)
node_step g (Node-F.Fill array values) turns s =
    set_array array (elements_with (length (s.arrays array)) (map (operand_value s) values.items)) s
node_step g (Node-F.Pick place take keep) turns s =
    then_do (choice_where (g.relaxes (path_in turns place.path) place.stmt) s)
    (as_picked g.arrays take (nodes_in_order turns keep.items))
node_step g (Node-F.If when if_not_zero if_zero) turns s =
    fork (nodes_in_order turns if_not_zero.items) (nodes_in_order turns if_zero.items) (operand_value s
    when) s
node_step g (Node-F.Block label body) turns s = block label (nodes_in_order turns body.items) s
node_step g (Node-F.Leave label) turns s = (Ok (Leaves label), s)
node_step g (Node-F.Loop false head when body step stmt) turns s = head_loop g.turns stmt
    (λ turns. nodes_in_order turns head.items) (λ s. operand_value s when)
    (body_and_step (λ turns. nodes_in_order turns body.items) (λ turns. nodes_in_order turns step.items))
    turns s
node_step g (Node-F.Loop true head when body step stmt) turns s = tail_loop g.turns stmt
    (λ turns. nodes_in_order turns head.items) (λ s. operand_value s when)
    (body_and_step (λ turns. nodes_in_order turns body.items) (λ turns. nodes_in_order turns step.items))
    turns s
node_step g (Node-F.Assert when stmt) turns s = assert_value stmt (operand_value s when) s
node_step g (Node-F.Beyond stmt) turns s = (Err (Beyond stmt), s)

-- what a node does, inside iterations of these numbers, innermost first
unfoldable pub run_node : Setting → Node → InTurns
run_node g = fold-Node InTurns (node_step g)

-- what nodes do in order
unfoldable pub run_nodes : Setting → List Node → InTurns
run_nodes g nodes turns = nodes_in_order turns (map (run_node g) nodes)
