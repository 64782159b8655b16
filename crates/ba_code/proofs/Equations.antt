-- What each node does, one equation a node.
use Rattle.std.proofs.Common.{◌≡◌, ℕ, true, false, Ok, Err, List, map, length, ◌∙◌, ap}
use Rattle.std.specs.Global.{Vec}
use Rattle.ba_numbers.specs.Numbers.{converted}
use Rattle.ba_numbers.specs.declared.ids.StmtId.{StmtId}
use Rattle.ba_numbers.specs.declared.numbers.BinOp.{BinOp}
use Rattle.ba_numbers.specs.declared.numbers.CType.{CType}
use Rattle.ba_numbers.specs.declared.numbers.UnOp.{UnOp}
use Rattle.ba_code.specs.Meaning.{InTurns, Setting, as_picked, assert_value, block, body_and_step, choice_where, head_loop, node_step, path_in, run_node, run_nodes, tail_loop}
use Rattle.ba_code.specs.State.{CodeState, cell_at, operand_value, or_trap_at, set_array, set_variable, with_cell}
use Rattle.ba_code.specs.declared.nodes.Node.{Node}
use Rattle.ba_code.specs.declared.nodes.Node as node
use Rattle.ba_code.specs.declared.nodes.Node.TheOpen.{Node-F}
use Rattle.ba_code.specs.declared.nodes.Node.TheFolds.{fold-roll-Node}
use Rattle.ba_code.specs.declared.nodes.Operand.{Operand}
use Rattle.ba_code.specs.declared.nodes.Take.{Take}
use Rattle.ba_tree.specs.Acts.{fork, then_do}
use Rattle.ba_tree.specs.Meaning.{elements_with}
use Rattle.ba_tree.specs.declared.run.Flow.TheVariants.{Leaves}
use Rattle.ba_tree.specs.declared.run.Halt.TheVariants.{Beyond}
use Rattle.ba_tree.specs.declared.run.Place.{Place}

module _ (g : Setting) (n : Node) (turns : List ℕ) (s : CodeState) where
  pub run-Set : (to : ℕ) (from : Operand) → n ≡ node.Set to from
      → run_node g n turns s ≡ set_variable to (operand_value s from) s
  unfolding run_node node.roll-Node denote.Hole.Carrier.roll
  run-Set to from is = ap (λ n. run_node g n turns s) is
      ∙ ap (λ (f : InTurns). f turns s) (fold-roll-Node InTurns (node_step g) (Node-F.Set to from))

  pub run-Unary : (to : ℕ) (op : UnOp) (t : CType) (a : Operand) → n ≡ node.Unary to op t a
      → run_node g n turns s ≡ set_variable to (g.operators.unary op t (operand_value s a)) s
  unfolding run_node node.roll-Node denote.Hole.Carrier.roll
  run-Unary to op t a is = ap (λ n. run_node g n turns s) is
      ∙ ap (λ (f : InTurns). f turns s) (fold-roll-Node InTurns (node_step g) (Node-F.Unary to op t a))

  pub run-Binary : (to : ℕ) (op : BinOp) (t : CType) (a b : Operand) (stmt : StmtId) →
      n ≡ node.Binary to op t a b stmt
      → run_node g n turns s ≡ then_do (or_trap_at stmt (g.operators.binary op t (operand_value s a)
      (operand_value s b)) s)
      (set_variable to)
  unfolding run_node node.roll-Node denote.Hole.Carrier.roll
  run-Binary to op t a b stmt is = ap (λ n. run_node g n turns s) is
      ∙ ap (λ (f : InTurns). f turns s) (fold-roll-Node InTurns (node_step g) (Node-F.Binary to op t a b
      stmt))

  pub run-Convert : (to : ℕ) (t : CType) (a : Operand) → n ≡ node.Convert to t a
      → run_node g n turns s ≡ set_variable to (converted t (operand_value s a)) s
  unfolding run_node node.roll-Node denote.Hole.Carrier.roll
  run-Convert to t a is = ap (λ n. run_node g n turns s) is
      ∙ ap (λ (f : InTurns). f turns s) (fold-roll-Node InTurns (node_step g) (Node-F.Convert to t a))

  pub run-Load : (to array : ℕ) (index : Operand) (stmt : StmtId) → n ≡ node.Load to array index stmt
      → run_node g n turns s ≡ then_do (or_trap_at stmt (cell_at (s.arrays array) (operand_value s index))
      s) (set_variable to)
  unfolding run_node node.roll-Node denote.Hole.Carrier.roll
  run-Load to array index stmt is = ap (λ n. run_node g n turns s) is
      ∙ ap (λ (f : InTurns). f turns s) (fold-roll-Node InTurns (node_step g) (Node-F.Load to array index
      stmt))

  pub run-Save : (array : ℕ) (index value : Operand) (stmt : StmtId) → n ≡ node.Save array index value stmt
      → run_node g n turns s ≡ then_do (or_trap_at stmt (with_cell (s.arrays array) (operand_value s index)
      (operand_value s value)) s)
      (set_array array)
  unfolding run_node node.roll-Node denote.Hole.Carrier.roll
  run-Save array index value stmt is = ap (λ n. run_node g n turns s) is
      ∙ ap (λ (f : InTurns). f turns s) (fold-roll-Node InTurns (node_step g) (Node-F.Save array index
      value stmt))

  pub run-Fill : (array : ℕ) (values : Vec Operand) → n ≡ node.Fill array values
      → run_node g n turns s ≡ set_array array (elements_with (length (s.arrays array)) (map (operand_value
      s) values.items)) s
  unfolding run_node node.roll-Node denote.Hole.Carrier.roll
  run-Fill array values is = ap (λ n. run_node g n turns s) is
      ∙ ap (λ (f : InTurns). f turns s) (fold-roll-Node InTurns (node_step g) (Node-F.Fill array values))

  pub run-Pick : (place : Place) (take : Take) (keep : Vec Node) → n ≡ node.Pick place take keep
      → run_node g n turns s ≡ then_do (choice_where (g.relaxes (path_in turns place.path) place.stmt) s)
      (as_picked g.arrays take (run_nodes g keep.items turns))
  unfolding run_node run_nodes node.roll-Node denote.Hole.Carrier.roll
  run-Pick place take keep is = ap (λ n. run_node g n turns s) is
      ∙ ap (λ (f : InTurns). f turns s) (fold-roll-Node InTurns (node_step g) (Node-F.Pick place take keep))

  pub run-If : (when : Operand) (a b : Vec Node) → n ≡ node.If when a b
      → run_node g n turns s ≡ fork (run_nodes g a.items turns) (run_nodes g b.items turns) (operand_value
      s when) s
  unfolding run_node run_nodes node.roll-Node denote.Hole.Carrier.roll
  run-If when a b is = ap (λ n. run_node g n turns s) is
      ∙ ap (λ (f : InTurns). f turns s) (fold-roll-Node InTurns (node_step g) (Node-F.If when a b))

  pub run-Block : (label : ℕ) (body : Vec Node) → n ≡ node.Block label body
      → run_node g n turns s ≡ block label (run_nodes g body.items turns) s
  unfolding run_node run_nodes node.roll-Node denote.Hole.Carrier.roll
  run-Block label body is = ap (λ n. run_node g n turns s) is
      ∙ ap (λ (f : InTurns). f turns s) (fold-roll-Node InTurns (node_step g) (Node-F.Block label body))

  pub run-Leave : (label : ℕ) → n ≡ node.Leave label
      → run_node g n turns s ≡ (Ok (Leaves label), s)
  unfolding run_node node.roll-Node denote.Hole.Carrier.roll
  run-Leave label is = ap (λ n. run_node g n turns s) is
      ∙ ap (λ (f : InTurns). f turns s) (fold-roll-Node InTurns (node_step g) (Node-F.Leave label))

  pub run-Assert : (when : Operand) (stmt : StmtId) → n ≡ node.Assert when stmt
      → run_node g n turns s ≡ assert_value stmt (operand_value s when) s
  unfolding run_node node.roll-Node denote.Hole.Carrier.roll
  run-Assert when stmt is = ap (λ n. run_node g n turns s) is
      ∙ ap (λ (f : InTurns). f turns s) (fold-roll-Node InTurns (node_step g) (Node-F.Assert when stmt))

  pub run-Beyond : (stmt : StmtId) → n ≡ node.Beyond stmt
      → run_node g n turns s ≡ (Err (Beyond stmt), s)
  unfolding run_node node.roll-Node denote.Hole.Carrier.roll
  run-Beyond stmt is = ap (λ n. run_node g n turns s) is
      ∙ ap (λ (f : InTurns). f turns s) (fold-roll-Node InTurns (node_step g) (Node-F.Beyond stmt))

  pub run-Loop-head : (head : Vec Node) (when : Operand) (body step : Vec Node) (stmt : StmtId)
      → n ≡ node.Loop false head when body step stmt
      → run_node g n turns s ≡ head_loop g.turns stmt (run_nodes g head.items) (λ s. operand_value s when)
      (body_and_step (run_nodes g body.items) (run_nodes g step.items)) turns s
  unfolding run_node run_nodes node.roll-Node denote.Hole.Carrier.roll
  run-Loop-head head when body step stmt is = ap (λ n. run_node g n turns s) is
      ∙ ap (λ (f : InTurns). f turns s) (fold-roll-Node InTurns (node_step g) (Node-F.Loop false head when
      body step stmt))

  pub run-Loop-tail : (head : Vec Node) (when : Operand) (body step : Vec Node) (stmt : StmtId)
      → n ≡ node.Loop true head when body step stmt
      → run_node g n turns s ≡ tail_loop g.turns stmt (run_nodes g head.items) (λ s. operand_value s when)
      (body_and_step (run_nodes g body.items) (run_nodes g step.items)) turns s
  unfolding run_node run_nodes node.roll-Node denote.Hole.Carrier.roll
  run-Loop-tail head when body step stmt is = ap (λ n. run_node g n turns s) is
      ∙ ap (λ (f : InTurns). f turns s) (fold-roll-Node InTurns (node_step g) (Node-F.Loop true head when
      body step stmt))
