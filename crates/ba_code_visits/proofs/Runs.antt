-- Nodes and whole runs of code replay.
use Rattle.std.proofs.Common.{◌≡◌, ◌≢◌, suc, zero, ℕ, ℤ, ◌+◌, Bool, true, false, Result, Ok, Err, List, [], ◌∷◌, ◌++◌, append-nil, map, length, reverse, refl, sym, ◌∙◌, ap, subst}
use Rattle.std.proofs.lemmas.Bool.{and_parts}
use Rattle.std.proofs.lemmas.List.{reverse-reverse}
use Rattle.std.specs.List.{list_all}
use Rattle.ba_numbers.specs.Numbers.{converted}
use Rattle.ba_numbers.specs.declared.ids.StmtId.{StmtId}
use Rattle.ba_choices.specs.declared.Choice.{Choice}
use Rattle.ba_code.specs.Facts.{is_counted, is_unrolled, unrolled_step}
use Rattle.ba_code.specs.Meaning.{InTurns, Setting, as_picked, assert_value, body_and_step, choice_where, flow_after_block, head_behind, head_loop, node_step, nodes_in_order, past_bound, path_in, run_node, run_nodes, tail_loop, value_behind}
use Rattle.ba_code.specs.Operators.{converting}
use Rattle.ba_code.specs.Run.{outcome_of_code, outcome_of_end, outcome_with, setting_of, start_of_code}
use Rattle.ba_code.specs.State.{CodeEnding, CodeExecution, CodeState, cell_at, operand_value, or_trap_at, set_array, set_variable, with_cell}
use Rattle.ba_code.specs.declared.nodes.Node.{Node}
use Rattle.ba_code.specs.declared.nodes.Node.TheOpen.{Node-F}
use Rattle.ba_code.specs.declared.nodes.Node.TheFolds.{fold-roll-Node, ind-Node, map-Node}
use Rattle.ba_code.specs.declared.nodes.Node.TheViews.{roll-Node}
use Rattle.ba_code.specs.declared.trees.Code.{Code}
use Rattle.ba_code.proofs.Paths.{filled-none}
use Rattle.ba_code_laws.specs.Tracing.{Relaxes, Traced, TracedExecution, everywhere, trace_node, trace_nodes, trace_step}
use Rattle.ba_code_laws.specs.Visits.{chosen}
use Rattle.ba_tree.specs.Acts.{EndOn, in_order, then_do}
use Rattle.ba_tree.specs.Meaning.{elements_with}
use Rattle.ba_tree.specs.Run.{if_none_left, outcome_of_halt}
use Rattle.ba_tree.specs.declared.run.Flow.{Flow}
use Rattle.ba_tree.specs.declared.run.Flow.TheVariants.{Next, Leaves}
use Rattle.ba_tree.specs.declared.run.Halt.{Halt}
use Rattle.ba_tree.specs.declared.run.Halt.TheVariants as halt
use Rattle.ba_tree.specs.declared.run.Input.{Input}
use Rattle.ba_tree.specs.declared.run.Outcome.{Outcome}
use Rattle.ba_tree.specs.declared.run.Outcome.TheVariants.{Done, WrongChoices}
use Rattle.ba_tree.specs.declared.run.Place.{Place}
use Rattle.ba_tree.specs.declared.run.Step.{Step}
use Rattle.ba_code_visits.specs.Visits.{HasVisits, choices_in}
use Rattle.ba_code_visits.proofs.Steady.{with_choices, Reads, operand_reads, two_read, all_read, value_reads, read_steady, value_steady, cells_steady, assert_steady, start_again, start_choices}
use Rattle.ba_code_visits.proofs.Replays.{is_wrong, noting, nothing, Replay, Replays, replays_as, replays_where, replays_but, replays_steady, replays_give, replays_then, replays_choose, replays_after, replays_rounds, replays_pick}

-- PLACES

-- a place of the code as it is come to in these iterations of the loops around
abbrev in_turns_at : List ℕ → Place → Place
in_turns_at turns place = record { path = reverse (path_in turns place.path); stmt = place.stmt }

path_again : (path : List Step) → path_in [] (reverse path) ≡ path
path_again path = filled-none (reverse (reverse path)) ∙ reverse-reverse path

-- outside of loops it is the place as it stands
written_at : (place : Place) (turns : List ℕ) → turns ≡ [] → place ≡ in_turns_at turns place
written_at place turns none = subst (λ turns. place ≡ in_turns_at turns place) (sym none)
    (ap (λ path. record { path = path; stmt = place.stmt })
    (sym (ap reverse (filled-none (reverse place.path)) ∙ reverse-reverse place.path)))

module _ (code : Code) (bound : ℕ) where
  abbrev setting : Relaxes → Setting
  setting x = setting_of converting code bound x

  abbrev tracing : Node → TracedExecution
  tracing = trace_node everywhere code.arrays

  -- a node has a traced run if it has no loop, and is in none
  abbrev ReplaysNode : Node → Type 0
  ReplaysNode n = (turns : List ℕ)
      → Replays ((is_unrolled n ≡ true) × (turns ≡ [])) (λ x. run_node (setting x) n turns) (tracing n)

  abbrev InnerNode : Type 0
  InnerNode = (n : Node) × ReplaysNode n

  abbrev bare_node : Node-F InnerNode → Node-F Node
  bare_node = map-Node InnerNode Node (λ n. n.0)

  abbrev bare : List InnerNode → List Node
  bare items = map (λ n. n.0) items

  abbrev run_in : Relaxes → Node-F Node → InTurns
  run_in x n = node_step (setting x) (map-Node Node InTurns (run_node (setting x)) n)

  abbrev traced_in : Node-F Node → TracedExecution
  traced_in n = trace_step everywhere code.arrays (map-Node Node TracedExecution tracing n)

  abbrev unrolled_in : Node-F Node → Bool
  unrolled_in n = unrolled_step (map-Node Node Bool is_unrolled n)

  abbrev are_unrolled : List InnerNode → Bool
  are_unrolled items = list_all (λ b. b) (map is_unrolled (bare items))

  abbrev nodes_of : Relaxes → List InnerNode → InTurns
  nodes_of x items turns = nodes_in_order turns (map (run_node (setting x)) (bare items))

  abbrev traced_of : List InnerNode → TracedExecution
  traced_of items = in_order (map tracing (bare items))

  inner_nodes : (items : List InnerNode) (turns : List ℕ)
      → Replays ((are_unrolled items ≡ true) × (turns ≡ [])) (λ x. nodes_of x items turns) (traced_of items)
  inner_nodes [] turns = replays_give Next
  inner_nodes (n ∷ items) turns = replays_then
      (replays_where (λ known. ((and_parts (is_unrolled n.0) (are_unrolled items) known.0).0, known.1))
      (n.1 turns))
      (replays_after (replays_where
      (λ known. ((and_parts (is_unrolled n.0) (are_unrolled items) known.0).1, known.1))
      (inner_nodes items turns)))

  -- LOOPS

  looped : (items : List InnerNode) (turns : List ℕ) → Replays ⊥ (λ x. nodes_of x items turns) nothing
  looped items turns = replays_but (λ never. never) (inner_nodes items turns)

  module _ (head : Relaxes → InTurns) (when : CodeState → ℤ) (turn : Relaxes → InTurns)
      (heads : (turns : List ℕ) → Replays ⊥ (λ x. head x turns) nothing) (reads : Reads when)
      (turns_replay : (turns : List ℕ) → Replays ⊥ (λ x. turn x turns) nothing) (stmt : StmtId)
      (turns : List ℕ) where
    past : Replays ⊥ (λ x. past_bound stmt) nothing
    past = replays_but {known = ⊥} (λ never. never)
        (replays_steady (past_bound stmt) (λ s choices. refl))

    replays_head : Replays ⊥ (λ x. head_loop bound stmt (head x) when (turn x) turns) nothing
    unfolding head_loop
    replays_head = replays_rounds {when = λ k. when} (λ k. heads (k ∷ turns)) (λ k. reads)
        (λ k. turns_replay (k ∷ turns)) past bound 1

    heads_behind : (k : ℕ) → Replays ⊥ (λ x. head_behind (λ k. head x (k ∷ turns)) k) nothing
    heads_behind zero = replays_but {known = ⊥} (λ never. never) (replays_give Next)
    heads_behind (suc k) = heads (suc k ∷ turns)

    replays_tail : Replays ⊥ (λ x. tail_loop bound stmt (head x) when (turn x) turns) nothing
    unfolding tail_loop
    replays_tail = replays_rounds {when = value_behind when} heads_behind (value_reads when reads)
        (λ k. turns_replay ((k + 1) ∷ turns)) past bound 0

  replays_turn : (body step : List InnerNode) (turns : List ℕ)
      → Replays ⊥ (λ x. body_and_step (nodes_of x body) (nodes_of x step) turns) nothing
  replays_turn body step turns = replays_but (λ never. never)
      (replays_then (looped body turns) (replays_after (looped step turns)))

  no_loop : {turns : List ℕ} → (false ≡ true) × (turns ≡ []) → ⊥
  no_loop known = let no : ⊥ = cc in no

  -- NODES

  node_form : (y : Node-F InnerNode) (turns : List ℕ)
      → Replays ((unrolled_in (bare_node y) ≡ true) × (turns ≡ [])) (λ x. run_in x (bare_node y) turns)
      (traced_in (bare_node y))
  node_form (Node-F.Set to a) turns = replays_steady (λ s. set_variable to (operand_value s a) s)
      (read_steady (λ s. operand_value s a) (set_variable to) (operand_reads a) (λ z s choices. refl))
  node_form (Node-F.Unary to op t a) turns =
      replays_steady (λ s. set_variable to (converting.unary op t (operand_value s a)) s)
      (read_steady (λ s. operand_value s a) (λ z. set_variable to (converting.unary op t z))
      (operand_reads a) (λ z s choices. refl))
  node_form (Node-F.Binary to op t a b stmt) turns = replays_steady
      (λ s. then_do (or_trap_at stmt (converting.binary op t (operand_value s a) (operand_value s b)) s)
      (set_variable to))
      (read_steady (λ s. converting.binary op t (operand_value s a) (operand_value s b))
      (λ o s. then_do (or_trap_at stmt o s) (set_variable to)) (two_read (converting.binary op t) a b)
      (value_steady stmt to))
  node_form (Node-F.Convert to t a) turns =
      replays_steady (λ s. set_variable to (converted t (operand_value s a)) s)
      (read_steady (λ s. operand_value s a) (λ z. set_variable to (converted t z)) (operand_reads a)
      (λ z s choices. refl))
  node_form (Node-F.Load to array index stmt) turns = replays_steady
      (λ s. then_do (or_trap_at stmt (cell_at (s.arrays array) (operand_value s index)) s) (set_variable to))
      (read_steady (λ s. cell_at (s.arrays array) (operand_value s index))
      (λ o s. then_do (or_trap_at stmt o s) (set_variable to))
      (λ s choices. ap (cell_at (s.arrays array)) (operand_reads index s choices)) (value_steady stmt to))
  node_form (Node-F.Save array index value stmt) turns = replays_steady
      (λ s. then_do (or_trap_at stmt (with_cell (s.arrays array) (operand_value s index)
      (operand_value s value)) s) (set_array array))
      (read_steady (λ s. with_cell (s.arrays array) (operand_value s index) (operand_value s value))
      (λ o s. then_do (or_trap_at stmt o s) (set_array array))
      (λ s choices. two_read (with_cell (s.arrays array)) index value s choices) (cells_steady stmt array))
  node_form (Node-F.Fill array values) turns = replays_steady
      (λ s. set_array array (elements_with (length (s.arrays array)) (map (operand_value s) values.items)) s)
      (read_steady (λ s. elements_with (length (s.arrays array)) (map (operand_value s) values.items))
      (set_array array)
      (λ s choices. ap (elements_with (length (s.arrays array))) (all_read values.items s choices))
      (λ zs s choices. refl))
  node_form (Node-F.Pick place take keep) turns =
      replays_as (λ x. ap (λ path s. then_do (choice_where (x path place.stmt) s)
      (as_picked code.arrays take (nodes_of x keep.items turns)))
      (sym (path_again (path_in turns place.path))))
      refl
      (replays_pick ((unrolled_in (bare_node (Node-F.Pick place take keep)) ≡ true) × (turns ≡ [])) place
      (in_turns_at turns place) (λ known. written_at place turns known.1) code.arrays take
      (λ x. nodes_of x keep.items turns) (traced_of keep.items)
      (replays_where (λ known. (
        (and_parts (list_all is_counted place.path) (are_unrolled keep.items)
            known.0).1,
        known.1,
      ))
      (inner_nodes keep.items turns)))
  node_form (Node-F.If when a b) turns =
      replays_choose {when = λ s. operand_value s when} (operand_reads when)
      (replays_where (λ known. ((and_parts (are_unrolled a.items) (are_unrolled b.items) known.0).0, known.1))
      (inner_nodes a.items turns))
      (replays_where (λ known. ((and_parts (are_unrolled a.items) (are_unrolled b.items) known.0).1, known.1))
      (inner_nodes b.items turns))
  node_form (Node-F.Block label body) turns =
      replays_then (inner_nodes body.items turns) (λ flow. replays_give (flow_after_block label flow))
  node_form (Node-F.Leave label) turns = replays_give (Leaves label)
  node_form (Node-F.Loop false head when body step stmt) turns = replays_but no_loop
      (replays_head (λ x. nodes_of x head.items) (λ s. operand_value s when)
      (λ x. body_and_step (nodes_of x body.items) (nodes_of x step.items)) (looped head.items)
      (operand_reads when) (replays_turn body.items step.items) stmt turns)
  node_form (Node-F.Loop true head when body step stmt) turns = replays_but no_loop
      (replays_tail (λ x. nodes_of x head.items) (λ s. operand_value s when)
      (λ x. body_and_step (nodes_of x body.items) (nodes_of x step.items)) (looped head.items)
      (operand_reads when) (replays_turn body.items step.items) stmt turns)
  node_form (Node-F.Assert when stmt) turns =
      replays_steady (λ s. assert_value stmt (operand_value s when) s)
      (read_steady (λ s. operand_value s when) (assert_value stmt) (operand_reads when) (assert_steady stmt))
  node_form (Node-F.Beyond stmt) turns = replays_steady (past_bound stmt) (λ s choices. refl)

  node_layer : (y : Node-F InnerNode) → ReplaysNode (roll-Node (bare_node y))
  unfolding run_node trace_node is_unrolled
  node_layer y turns = replays_as
      (λ x. ap (λ (f : InTurns). f turns) (fold-roll-Node InTurns (node_step (setting x)) (bare_node y)))
      (fold-roll-Node TracedExecution (trace_step everywhere code.arrays) (bare_node y))
      (replays_where (λ known. (sym (fold-roll-Node Bool unrolled_step (bare_node y)) ∙ known.0, known.1))
      (node_form y turns))

  replays_node : (n : Node) → ReplaysNode n
  replays_node = ind-Node ReplaysNode (λ n y is. subst (λ n. ReplaysNode (roll-Node n)) is (node_layer y))

  replays_nodes : (nodes : List Node) → Replays (list_all is_unrolled nodes ≡ true)
      (λ x. run_nodes (setting x) nodes []) (trace_nodes everywhere code.arrays nodes)
  unfolding run_nodes trace_nodes
  replays_nodes [] = replays_give Next
  replays_nodes (n ∷ nodes) = replays_then
      (replays_where (λ known. ((and_parts (is_unrolled n) (list_all is_unrolled nodes) known).0, refl))
      (replays_node n []))
      (replays_after
      (replays_where (λ known. (and_parts (is_unrolled n) (list_all is_unrolled nodes) known).1)
      (replays_nodes nodes)))

-- ENDS of runs whose choices are not wrong

none_after : (choices : List Choice) (o : Outcome) → if_none_left choices o ≢ WrongChoices → choices ≡ []
none_after [] o right = refl
none_after (c ∷ cs) o right = absurd (right refl)

none_left : (r : Result (Flow ℕ) Halt) (t : CodeState) → outcome_of_end (r, t) ≢ WrongChoices
    → t.choices ≡ []
none_left (Ok flow) t right = none_after t.choices Done right
none_left (Err h) t right = none_after t.choices (outcome_of_halt h) right

wrong_anyway : (choices : List Choice) → if_none_left choices WrongChoices ≡ WrongChoices
wrong_anyway [] = refl
wrong_anyway (c ∷ cs) = refl

not_wrong : (r : Result (Flow ℕ) Halt) (t : CodeState) → outcome_of_end (r, t) ≢ WrongChoices
    → is_wrong r ≡ false
not_wrong (Ok flow) t right = refl
not_wrong (Err (halt.AssertFails here)) t right = refl
not_wrong (Err (halt.Trap here)) t right = refl
not_wrong (Err (halt.Beyond here)) t right = refl
not_wrong (Err halt.WrongChoices) t right = absurd (right (wrong_anyway t.choices))

-- RUNS

module _ (code : Code) (i : Input) (bound : ℕ) (x : Relaxes) (choices : List Choice) where
  abbrev run_by : Relaxes → CodeExecution
  run_by y = run_nodes (setting_of converting code bound y) code.body []

  abbrev traced : TracedExecution
  traced = trace_nodes everywhere code.arrays code.body

  abbrev start : List Choice → CodeState
  start given = start_of_code code i given

  end_visits : (e : CodeEnding (Flow ℕ)) → run_by x (start choices) ≡ e → outcome_of_end e ≢ WrongChoices
      → HasVisits code i bound x choices
  unfolding outcome_with
  end_visits (r, t) ends right =
      let known = list_all is_unrolled code.body ≡ true in
      let replays : Replays known run_by traced = replays_nodes code bound code.body in
      let e : Replay known run_by traced x (start choices) r t =
      replays.by x (start choices) r t ends (not_wrong r t right) in
      record {
        visits = e.visits;
        kept = e.kept;
        given = sym (append-nil (chosen x e.visits))
            ∙ ap (λ left. chosen x e.visits ++ left) (sym (none_left r t right))
            ∙ sym e.used ∙ start_choices code i choices;
        same = λ y kept.
            ap (λ (s : CodeState). outcome_of_end (run_by y s))
            (start_again code i choices (chosen y e.visits))
            ∙ ap (λ (cs : List Choice). outcome_of_end (run_by y (with_choices (start choices) cs)))
            (sym (append-nil (chosen y e.visits)))
            ∙ ap outcome_of_end (e.runs y kept [])
            ∙ ap (λ (left : List Choice). outcome_of_end (r, with_choices t left))
            (sym (none_left r t right))
            ∙ ap outcome_of_end (sym ends);
        traced = λ unrolled.
            ap (λ (s : CodeState). (traced (noting [] s)).1.places)
            (start_again code i choices (choices_in e.visits))
            ∙ ap (λ (cs : List Choice). (traced (noting [] (with_choices (start choices) cs))).1.places)
            (sym (append-nil (choices_in e.visits)))
            ∙ ap (λ (e : EndOn Traced (Flow ℕ)). e.1.places) (e.noted unrolled [] []);
      }

  pub has_visits : outcome_of_code code i bound x choices ≢ WrongChoices → HasVisits code i bound x choices
  unfolding outcome_with
  has_visits = end_visits (run_by x (start choices)) refl
