-- What each node does, one equation a node.
use Rattle.std.proofs.Common.{◌≡◌, ℕ, Ok, List, [], ◌∷◌, ◌++◌, map, length, refl, ◌∙◌, ap}
use Rattle.std.specs.Global.{Vec}
use Rattle.std.proofs.lemmas.List.{map-append}
use Rattle.ba_numbers.specs.Numbers.{converted}
use Rattle.ba_numbers.specs.declared.ids.StmtId.{StmtId}
use Rattle.ba_numbers.specs.declared.numbers.BinOp.{BinOp}
use Rattle.ba_numbers.specs.declared.numbers.CType.{CType}
use Rattle.ba_numbers.specs.declared.numbers.UnOp.{UnOp}
use Rattle.ba_code.proofs.Rows.{in_order-append}
use Rattle.ba_code.specs.Meaning.{assert_value, choice_where, flow_after_block, past_bound}
use Rattle.ba_code.specs.Operators.{converting}
use Rattle.ba_code.specs.State.{cell_at, operand_value, or_trap_at, set_array, set_variable, with_cell}
use Rattle.ba_code.specs.declared.nodes.ArrayInfo.{ArrayInfo}
use Rattle.ba_code.specs.declared.nodes.Node.{Node}
use Rattle.ba_code.specs.declared.nodes.Node as node
use Rattle.ba_code.specs.declared.nodes.Node.TheOpen.{Node-F}
use Rattle.ba_code.specs.declared.nodes.Node.TheFolds.{fold-roll-Node}
use Rattle.ba_code.specs.declared.nodes.Operand.{Operand}
use Rattle.ba_code.specs.declared.nodes.Take.{Take}
use Rattle.ba_code_laws.specs.Tracing.{Relaxes, Traced, TracedExecution, at_place, is_relaxed, trace_node, trace_nodes, trace_step, traced_picked, untraced}
use Rattle.ba_tree.specs.Acts.{after_part, fork, give, in_order, then_do}
use Rattle.ba_tree.specs.Meaning.{elements_with}
use Rattle.ba_tree.specs.declared.run.Flow.TheVariants.{Next, Leaves}
use Rattle.ba_tree.specs.declared.run.Place.{Place}

module _ (r : Relaxes) (arrays : List ArrayInfo) (n : Node) (s : Traced) where
  pub trace-Set : (to : ℕ) (from : Operand) → n ≡ node.Set to from
      → trace_node r arrays n s ≡ untraced (λ c. set_variable to (operand_value c from) c) s
  unfolding trace_node node.roll-Node denote.Hole.Carrier.roll
  trace-Set to from is = ap (λ n. trace_node r arrays n s) is
      ∙ ap (λ (f : TracedExecution). f s) (fold-roll-Node TracedExecution (trace_step r arrays)
      (Node-F.Set to from))

  pub trace-Unary : (to : ℕ) (op : UnOp) (t : CType) (a : Operand) → n ≡ node.Unary to op t a
      → trace_node r arrays n s ≡ untraced (λ c. set_variable to (converting.unary op t (operand_value c a))
      c) s
  unfolding trace_node node.roll-Node denote.Hole.Carrier.roll
  trace-Unary to op t a is = ap (λ n. trace_node r arrays n s) is
      ∙ ap (λ (f : TracedExecution). f s) (fold-roll-Node TracedExecution (trace_step r arrays)
      (Node-F.Unary to op t a))

  pub trace-Binary : (to : ℕ) (op : BinOp) (t : CType) (a b : Operand) (stmt : StmtId) →
      n ≡ node.Binary to op t a b stmt
      → trace_node r arrays n s ≡ untraced (λ c. then_do
      (or_trap_at stmt (converting.binary op t (operand_value c a) (operand_value c b)) c)
      (set_variable to)) s
  unfolding trace_node node.roll-Node denote.Hole.Carrier.roll
  trace-Binary to op t a b stmt is = ap (λ n. trace_node r arrays n s) is
      ∙ ap (λ (f : TracedExecution). f s) (fold-roll-Node TracedExecution (trace_step r arrays)
      (Node-F.Binary to op t a b stmt))

  pub trace-Convert : (to : ℕ) (t : CType) (a : Operand) → n ≡ node.Convert to t a
      → trace_node r arrays n s ≡ untraced (λ c. set_variable to (converted t (operand_value c a)) c) s
  unfolding trace_node node.roll-Node denote.Hole.Carrier.roll
  trace-Convert to t a is = ap (λ n. trace_node r arrays n s) is
      ∙ ap (λ (f : TracedExecution). f s) (fold-roll-Node TracedExecution (trace_step r arrays)
      (Node-F.Convert to t a))

  pub trace-Load : (to array : ℕ) (index : Operand) (stmt : StmtId) → n ≡ node.Load to array index stmt
      → trace_node r arrays n s ≡ untraced (λ c. then_do
      (or_trap_at stmt (cell_at (c.arrays array) (operand_value c index)) c) (set_variable to)) s
  unfolding trace_node node.roll-Node denote.Hole.Carrier.roll
  trace-Load to array index stmt is = ap (λ n. trace_node r arrays n s) is
      ∙ ap (λ (f : TracedExecution). f s) (fold-roll-Node TracedExecution (trace_step r arrays)
      (Node-F.Load to array index stmt))

  pub trace-Save : (array : ℕ) (index value : Operand) (stmt : StmtId) → n ≡ node.Save array index value stmt
      → trace_node r arrays n s ≡ untraced (λ c. then_do
      (or_trap_at stmt (with_cell (c.arrays array) (operand_value c index) (operand_value c value)) c)
      (set_array array)) s
  unfolding trace_node node.roll-Node denote.Hole.Carrier.roll
  trace-Save array index value stmt is = ap (λ n. trace_node r arrays n s) is
      ∙ ap (λ (f : TracedExecution). f s) (fold-roll-Node TracedExecution (trace_step r arrays)
      (Node-F.Save array index value stmt))

  pub trace-Fill : (array : ℕ) (values : Vec Operand) → n ≡ node.Fill array values
      → trace_node r arrays n s ≡ untraced (λ c. set_array array
      (elements_with (length (c.arrays array)) (map (operand_value c) values.items)) c) s
  unfolding trace_node node.roll-Node denote.Hole.Carrier.roll
  trace-Fill array values is = ap (λ n. trace_node r arrays n s) is
      ∙ ap (λ (f : TracedExecution). f s) (fold-roll-Node TracedExecution (trace_step r arrays)
      (Node-F.Fill array values))

  pub trace-Leave : (label : ℕ) → n ≡ node.Leave label
      → trace_node r arrays n s ≡ untraced (λ c. (Ok (Leaves label), c)) s
  unfolding trace_node node.roll-Node denote.Hole.Carrier.roll
  trace-Leave label is = ap (λ n. trace_node r arrays n s) is
      ∙ ap (λ (f : TracedExecution). f s) (fold-roll-Node TracedExecution (trace_step r arrays)
      (Node-F.Leave label))

  pub trace-Assert : (when : Operand) (stmt : StmtId) → n ≡ node.Assert when stmt
      → trace_node r arrays n s ≡ untraced (λ c. assert_value stmt (operand_value c when) c) s
  unfolding trace_node node.roll-Node denote.Hole.Carrier.roll
  trace-Assert when stmt is = ap (λ n. trace_node r arrays n s) is
      ∙ ap (λ (f : TracedExecution). f s) (fold-roll-Node TracedExecution (trace_step r arrays)
      (Node-F.Assert when stmt))

  pub trace-Beyond : (stmt : StmtId) → n ≡ node.Beyond stmt
      → trace_node r arrays n s ≡ untraced (past_bound stmt) s
  unfolding trace_node node.roll-Node denote.Hole.Carrier.roll
  trace-Beyond stmt is = ap (λ n. trace_node r arrays n s) is
      ∙ ap (λ (f : TracedExecution). f s) (fold-roll-Node TracedExecution (trace_step r arrays)
      (Node-F.Beyond stmt))

  pub trace-Pick : (place : Place) (take : Take) (keep : Vec Node) → n ≡ node.Pick place take keep
      → trace_node r arrays n s ≡ then_do (untraced (choice_where (is_relaxed r place)) (at_place place s))
      (traced_picked arrays take (trace_nodes r arrays keep.items))
  unfolding trace_node trace_nodes node.roll-Node denote.Hole.Carrier.roll
  trace-Pick place take keep is = ap (λ n. trace_node r arrays n s) is
      ∙ ap (λ (f : TracedExecution). f s) (fold-roll-Node TracedExecution (trace_step r arrays)
      (Node-F.Pick place take keep))

  pub trace-If : (when : Operand) (a b : Vec Node) → n ≡ node.If when a b
      → trace_node r arrays n s ≡ fork (trace_nodes r arrays a.items) (trace_nodes r arrays b.items)
      (operand_value s.code when) s
  unfolding trace_node trace_nodes node.roll-Node denote.Hole.Carrier.roll
  trace-If when a b is = ap (λ n. trace_node r arrays n s) is
      ∙ ap (λ (f : TracedExecution). f s) (fold-roll-Node TracedExecution (trace_step r arrays)
      (Node-F.If when a b))

  pub trace-Block : (label : ℕ) (body : Vec Node) → n ≡ node.Block label body
      → trace_node r arrays n s ≡ then_do (trace_nodes r arrays body.items s)
      (λ flow. give (flow_after_block label flow))
  unfolding trace_node trace_nodes node.roll-Node denote.Hole.Carrier.roll
  trace-Block label body is = ap (λ n. trace_node r arrays n s) is
      ∙ ap (λ (f : TracedExecution). f s) (fold-roll-Node TracedExecution (trace_step r arrays)
      (Node-F.Block label body))

module _ (r : Relaxes) (arrays : List ArrayInfo) (s : Traced) where
  pub trace-none : trace_nodes r arrays [] s ≡ (Ok Next, s)
  unfolding trace_nodes
  trace-none = refl

  pub trace-first : (n : Node) (ns : List Node)
      → trace_nodes r arrays (n ∷ ns) s ≡ then_do (trace_node r arrays n s)
      (after_part (trace_nodes r arrays ns))
  unfolding trace_nodes
  trace-first n ns = refl

  pub trace-append : (ns ms : List Node) → trace_nodes r arrays (ns ++ ms) s
      ≡ then_do (trace_nodes r arrays ns s) (after_part (trace_nodes r arrays ms))
  unfolding trace_nodes
  trace-append ns ms = ap (λ parts. in_order parts s) (map-append (trace_node r arrays) ns ms)
      ∙ in_order-append (map (trace_node r arrays) ns) (map (trace_node r arrays) ms) s
