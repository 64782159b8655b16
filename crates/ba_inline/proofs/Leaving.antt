-- Code that never leaves a block, and leaves that are last.
use Rattle.std.proofs.Common.{◌≡◌, ℕ, zero, suc, ◌+◌, ◌-◌, ◌⊎◌, inl, inr, ℤ, pos, Bool, true, false, cond, ◌&&◌, ◌==◌, Option, None, Some, Ok, Err, List, [], ◌∷◌, ◌++◌, map, length, take, refl, sym, ◌∙◌, ap, subst, arith}
use Rattle.std.proofs.lemmas.Bool.{and_parts, eq-eqb, eqb-true, not-true, or_cases}
use Rattle.std.specs.Ordering.{int_eq}
use Rattle.std.specs.Prelude.{slice_get}
use Rattle.ba_code.proofs.Equations.{run-Leave}
use Rattle.ba_code.proofs.Rows.{run-append, run-one}
use Rattle.ba_code.specs.Meaning.{InTurns, Setting, as_picked, body_and_step, choice_where, flow_after_block, head_behind, head_loop, headed_rounds, if_taken, node_step, nodes_in_order, past_bound, path_in, run_node, run_nodes, tail_loop, taken, value_behind}
use Rattle.ba_code.specs.State.{CodeEnding, CodeExecution, CodeState, cell_at, operand_value, or_trap_at, set_array, set_variable, with_cell}
use Rattle.ba_code.specs.declared.nodes.ArrayInfo.{ArrayInfo}
use Rattle.ba_code.specs.declared.nodes.Node.{Node}
use Rattle.ba_code.specs.declared.nodes.Node as node
use Rattle.ba_code.specs.declared.nodes.Node.TheOpen.{Node-F}
use Rattle.ba_code.specs.declared.nodes.Node.TheFolds.{fold-roll-Node, ind-Node, map-Node}
use Rattle.ba_code.specs.declared.nodes.Node.TheViews.{roll-Node}
use Rattle.ba_code.specs.declared.nodes.Operand.{Operand}
use Rattle.ba_code.specs.declared.nodes.Take.{Take}
use Rattle.ba_inline.proofs.Branches.{adds-then}
use Rattle.ba_inline.specs.Adding.{block_act, if_act, leave_act}
use Rattle.ba_inline.specs.Leaving.{AreSameBlock, EndsInReturn, all_true, never_leaves, never_step, none_leaves}
use Rattle.ba_inline.specs.Making.{Adds, return_label}
use Rattle.ba_numbers.specs.declared.ids.StmtId.{StmtId}
use Rattle.ba_tree.specs.Acts.{after_part, give, then_do}
use Rattle.ba_tree.specs.declared.run.Flow.{Flow}
use Rattle.ba_tree.specs.declared.run.Flow.TheVariants.{Next, Leaves}
use Rattle.ba_tree.specs.declared.run.Halt.TheVariants.{AssertFails}

-- ENDS that leave no block of a label

abbrev pub Passes : ℕ → CodeEnding (Flow ℕ) → Type 0
Passes label (Ok Next, s) = Unit {0}
Passes label (Ok (Leaves other), s) = (other == label) ≡ false
Passes label (Err h, s) = Unit {0}

-- it always ends so
abbrev AlwaysPasses : ℕ → CodeExecution → Type 0
AlwaysPasses label f = (s : CodeState) → Passes label (f s)

abbrev behind_block : ℕ → Flow ℕ → CodeExecution
behind_block label flow = give (flow_after_block label flow)

-- such an end is that of a block around it, too
passed-block : (label : ℕ) (x : CodeEnding (Flow ℕ)) → Passes label x → then_do x (behind_block label) ≡ x
passed-block label (Ok Next, s) passes = refl
passed-block label (Ok (Leaves other), s) passes = ap (λ b. (Ok (cond b Next (Leaves other)), s)) passes
passed-block label (Err h, s) passes = refl

module _ (label : ℕ) where
  passes-then : {A : Type 0} (x : CodeEnding A) (f : A → CodeExecution)
      → ((a : A) → AlwaysPasses label (f a)) → Passes label (then_do x f)
  passes-then (Ok a, s) f passes = passes a s
  passes-then (Err h, s) f passes = tt

  passes-after : (x : CodeEnding (Flow ℕ)) (f : CodeExecution) → Passes label x → AlwaysPasses label f
      → Passes label (then_do x (after_part f))
  passes-after (Ok Next, s) f first second = second s
  passes-after (Ok (Leaves other), s) f first second = first
  passes-after (Err h, s) f first second = tt

  passes-cond : (b : Bool) (x y : CodeEnding (Flow ℕ)) → Passes label x → Passes label y
      → Passes label (cond b x y)
  passes-cond true x y first second = first
  passes-cond false x y first second = second

  -- CHOICES

  passes-taken : (o : Option CodeState) → AlwaysPasses label (if_taken o)
  passes-taken None s = tt
  passes-taken (Some t) s = tt

  passes-picked : (arrays : List ArrayInfo) (values : Take) (keep : CodeExecution) → AlwaysPasses label keep
      → (chosen : Option (List ℤ)) → AlwaysPasses label (as_picked arrays values keep chosen)
  passes-picked arrays values keep passes None s = passes s
  passes-picked arrays values keep passes (Some zs) s = passes-taken (taken arrays values zs s) s

  -- BLOCKS

  passes-caught : (b : Bool) (other : ℕ) (s : CodeState) → (b ≡ false → (other == label) ≡ false)
      → Passes label (Ok (cond b Next (Leaves other)), s)
  passes-caught true other s passes = tt
  passes-caught false other s passes = passes refl

  passes-block : (own : ℕ) (x : CodeEnding (Flow ℕ)) → ((own == label) ≡ true) ⊎ Passes label x
      → Passes label (then_do x (behind_block own))
  passes-block own (Ok Next, s) passes = tt
  passes-block own (Err h, s) passes = tt
  passes-block own (Ok (Leaves other), s) (inl same) = passes-caught (other == own) other s
      (λ apart. subst (λ n. (other == n) ≡ false) (eqb-true own label same) apart)
  passes-block own (Ok (Leaves other), s) (inr passes) = passes-caught (other == own) other s (λ _. passes)

  -- LOOPS

  passes-rounds : (head turn : ℕ → CodeExecution) (when : ℕ → CodeState → ℤ) (past : CodeExecution)
      → ((k : ℕ) → AlwaysPasses label (head k)) → ((k : ℕ) → AlwaysPasses label (turn k))
      → AlwaysPasses label past → (left k : ℕ)
      → AlwaysPasses label (headed_rounds head when turn past left k)
  passes-rounds head turn when past heads turns pasts zero k s =
      passes-after (head k s) (λ s. cond (int_eq (when k s) (pos 0)) (Ok Next, s) (past s)) (heads k s)
      (λ s. passes-cond (int_eq (when k s) (pos 0)) (Ok Next, s) (past s) tt (pasts s))
  passes-rounds head turn when past heads turns pasts (suc left) k s =
      let again : CodeExecution = headed_rounds head when turn past left (k + 1) in
      let turned : CodeExecution = λ s. then_do (turn k s) (after_part again) in
      passes-after (head k s) (λ s. cond (int_eq (when k s) (pos 0)) (Ok Next, s) (turned s)) (heads k s)
      (λ s. passes-cond (int_eq (when k s) (pos 0)) (Ok Next, s) (turned s) tt
      (passes-after (turn k s) again (turns k s)
      (passes-rounds head turn when past heads turns pasts left (k + 1))))

  passes-past : (stmt : StmtId) → AlwaysPasses label (past_bound stmt)
  passes-past stmt s = tt

  passes-behind : (head : ℕ → CodeExecution) → ((k : ℕ) → AlwaysPasses label (head k)) → (k : ℕ)
      → AlwaysPasses label (head_behind head k)
  passes-behind head heads zero s = tt
  passes-behind head heads (suc k) s = heads (suc k) s

  abbrev PassesInTurns : InTurns → Type 0
  PassesInTurns f = (turns : List ℕ) → AlwaysPasses label (f turns)

  passes-turn : (body step : InTurns) → PassesInTurns body → PassesInTurns step
      → PassesInTurns (body_and_step body step)
  passes-turn body step first second turns s =
      passes-after (body turns s) (step turns) (first turns s) (second turns)

  passes-head_loop : (bound : ℕ) (stmt : StmtId) (head turn : InTurns) (when : CodeState → ℤ)
      → PassesInTurns head → PassesInTurns turn → PassesInTurns (head_loop bound stmt head when turn)
  unfolding head_loop
  passes-head_loop bound stmt head turn when heads turned turns = passes-rounds
      (λ k. head (k ∷ turns)) (λ k. turn (k ∷ turns)) (λ k. when) (past_bound stmt)
      (λ k. heads (k ∷ turns)) (λ k. turned (k ∷ turns)) (passes-past stmt) bound 1

  passes-tail_loop : (bound : ℕ) (stmt : StmtId) (head turn : InTurns) (when : CodeState → ℤ)
      → PassesInTurns head → PassesInTurns turn → PassesInTurns (tail_loop bound stmt head when turn)
  unfolding tail_loop
  passes-tail_loop bound stmt head turn when heads turned turns = passes-rounds
      (head_behind (λ k. head (k ∷ turns))) (λ k. turn ((k + 1) ∷ turns)) (value_behind when)
      (past_bound stmt) (passes-behind (λ k. head (k ∷ turns)) (λ k. heads (k ∷ turns)))
      (λ k. turned ((k + 1) ∷ turns)) (passes-past stmt) bound 0

  -- NODES

  module _ (g : Setting) where
    abbrev PassesNode : Node → Type 0
    PassesNode n = never_leaves label n ≡ true → PassesInTurns (run_node g n)

    abbrev InnerNode : Type 0
    InnerNode = (n : Node) × PassesNode n

    abbrev bare_node : Node-F InnerNode → Node-F Node
    bare_node = map-Node InnerNode Node (λ n. n.0)

    abbrev bare : List InnerNode → List Node
    bare items = map (λ n. n.0) items

    abbrev rows_in : List InnerNode → InTurns
    rows_in items turns = nodes_in_order turns (map (run_node g) (bare items))

    abbrev none_in : List InnerNode → Bool
    none_in items = all_true (map (never_leaves label) (bare items))

    passes-rows : (items : List InnerNode) → none_in items ≡ true → PassesInTurns (rows_in items)
    passes-rows [] h turns s = tt
    passes-rows (n ∷ items) h turns s =
        let both = and_parts (never_leaves label n.0) (none_in items) h in
        passes-after (run_node g n.0 turns s) (rows_in items turns) (n.1 both.0 turns s)
        (passes-rows items both.1 turns)

    passes-body : (own : ℕ) (items : List InnerNode) → ((own == label) ≡ true) ⊎ (none_in items ≡ true)
        → (turns : List ℕ) (s : CodeState) → ((own == label) ≡ true) ⊎ Passes label (rows_in items turns s)
    passes-body own items (inl same) turns s = inl same
    passes-body own items (inr none) turns s = inr (passes-rows items none turns s)

    -- the parts of a loop
    passes-head-and-turn : (head body step : List InnerNode)
        → (none_in head && none_in body && none_in step) ≡ true
        → PassesInTurns (rows_in head) × PassesInTurns (body_and_step (rows_in body) (rows_in step))
    passes-head-and-turn head body step h =
        let all = and_parts (none_in head && none_in body) (none_in step) h in
        let two = and_parts (none_in head) (none_in body) all.0 in (
          passes-rows head two.0,
          passes-turn (rows_in body) (rows_in step) (passes-rows body two.1)
              (passes-rows step all.1),
        )

    passes-assert : (b : Bool) (stmt : StmtId) (s : CodeState)
        → Passes label (cond b (Err (AssertFails stmt), s) (Ok Next, s))
    passes-assert true stmt s = tt
    passes-assert false stmt s = tt

    node-form : (y : Node-F InnerNode)
        → never_step label (map-Node Node Bool (never_leaves label) (bare_node y)) ≡ true
        → PassesInTurns (node_step g (map-Node Node InTurns (run_node g) (bare_node y)))
    node-form (Node-F.Set to from) h turns s = tt
    node-form (Node-F.Unary to op t a) h turns s = tt
    node-form (Node-F.Binary to op t a b stmt) h turns s = passes-then
        (or_trap_at stmt (g.operators.binary op t (operand_value s a) (operand_value s b)) s)
        (set_variable to) (λ z s. tt)
    node-form (Node-F.Convert to t a) h turns s = tt
    node-form (Node-F.Load to array index stmt) h turns s = passes-then
        (or_trap_at stmt (cell_at (s.arrays array) (operand_value s index)) s) (set_variable to) (λ z s. tt)
    node-form (Node-F.Save array index value stmt) h turns s = passes-then
        (or_trap_at stmt (with_cell (s.arrays array) (operand_value s index) (operand_value s value)) s)
        (set_array array) (λ zs s. tt)
    node-form (Node-F.Fill array values) h turns s = tt
    node-form (Node-F.Pick place values keep) h turns s = passes-then
        (choice_where (g.relaxes (path_in turns place.path) place.stmt) s)
        (as_picked g.arrays values (rows_in keep.items turns))
        (passes-picked g.arrays values (rows_in keep.items turns) (passes-rows keep.items h turns))
    node-form (Node-F.If when a b) h turns s =
        let both = and_parts (none_in a.items) (none_in b.items) h in
        passes-cond (int_eq (operand_value s when) (pos 0)) (rows_in b.items turns s)
        (rows_in a.items turns s) (passes-rows b.items both.1 turns s) (passes-rows a.items both.0 turns s)
    node-form (Node-F.Block own body) h turns s = passes-block own (rows_in body.items turns s)
        (passes-body own body.items (or_cases (own == label) (none_in body.items) h) turns s)
    node-form (Node-F.Leave own) h turns s = not-true (own == label) h
    node-form (Node-F.Loop false head when body step stmt) h turns s =
        let both = passes-head-and-turn head.items body.items step.items h in
        passes-head_loop g.turns stmt (rows_in head.items)
        (body_and_step (rows_in body.items) (rows_in step.items)) (λ s. operand_value s when) both.0 both.1
        turns s
    node-form (Node-F.Loop true head when body step stmt) h turns s =
        let both = passes-head-and-turn head.items body.items step.items h in
        passes-tail_loop g.turns stmt (rows_in head.items)
        (body_and_step (rows_in body.items) (rows_in step.items)) (λ s. operand_value s when) both.0 both.1
        turns s
    node-form (Node-F.Assert when stmt) h turns s =
        passes-assert (int_eq (operand_value s when) (pos 0)) stmt s
    node-form (Node-F.Beyond stmt) h turns s = tt

    node-layer : (y : Node-F InnerNode) → PassesNode (roll-Node (bare_node y))
    unfolding run_node never_leaves
    node-layer y never turns s =
        subst (Passes label)
        (sym (ap (λ (f : InTurns). f turns s) (fold-roll-Node InTurns (node_step g) (bare_node y))))
        (node-form y (sym (fold-roll-Node Bool (never_step label) (bare_node y)) ∙ never) turns s)

    passes-node : (n : Node) → PassesNode n
    passes-node = ind-Node PassesNode (λ n y is. subst (λ n. PassesNode (roll-Node n)) is (node-layer y))

    passes-nodes : (nodes : List Node) → none_leaves label nodes ≡ true → PassesInTurns (run_nodes g nodes)
    unfolding run_nodes
    passes-nodes [] h turns s = tt
    passes-nodes (n ∷ nodes) h turns s =
        let both = and_parts (never_leaves label n) (none_leaves label nodes) h in
        passes-after (run_node g n turns s) (run_nodes g nodes turns) (passes-node n both.0 turns s)
        (passes-nodes nodes both.1 turns)

  -- a block that is never left is its nodes
  unblocked : (nodes : List Node) → none_leaves label nodes ≡ true
      → (g : Setting) (turns : List ℕ) (t : CodeState)
      → block_act label nodes g turns t ≡ run_nodes g nodes turns t
  unblocked nodes h g turns t =
      passed-block label (run_nodes g nodes turns t) (passes-nodes g nodes h turns t)

  -- A LEAVE that is last

  run-left : (front : List Node) (g : Setting) (turns : List ℕ) (s : CodeState)
      → run_nodes g (front ++ node.Leave label ∷ []) turns s
      ≡ then_do (run_nodes g front turns s) (after_part (leave_act label g turns))
  run-left front g turns s = run-append g turns s front (node.Leave label ∷ [])
      ∙ ap (λ (h : CodeExecution). then_do (run_nodes g front turns s) (after_part h))
      (λ i u. (run-one g turns u (node.Leave label) ∙ run-Leave g (node.Leave label) turns u label refl) i)

  left-block : (x : CodeEnding (Flow ℕ)) (g : Setting) (turns : List ℕ)
      → then_do x (behind_block label)
      ≡ then_do (then_do x (after_part (leave_act label g turns))) (behind_block label)
  left-block (Ok Next, s) g turns =
      ap (λ b. (Ok (cond b Next (Leaves label)), s)) (sym (eq-eqb label label refl))
  left-block (Ok (Leaves other), s) g turns = refl
  left-block (Err h, s) g turns = refl

  pub same-block : (front nodes : List Node) → nodes ≡ front ++ node.Leave label ∷ []
      → AreSameBlock label front nodes
  same-block front nodes is g turns t = left-block (run_nodes g front turns t) g turns
      ∙ ap (λ x. then_do x (behind_block label)) (sym (run-left front g turns t)
      ∙ ap (λ nodes. run_nodes g nodes turns t) (sym is))

  -- of both branches
  then-cond : (b : Bool) (x y : CodeEnding (Flow ℕ)) (f : Flow ℕ → CodeExecution)
      → then_do (cond b x y) f ≡ cond b (then_do x f) (then_do y f)
  then-cond true x y f = refl
  then-cond false x y f = refl

  left-branches : (when : Operand) (a b one other : List Node) → one ≡ a ++ node.Leave label ∷ []
      → other ≡ b ++ node.Leave label ∷ [] → (g : Setting) (turns : List ℕ) (t : CodeState)
      → then_do (if_act when a b g turns t) (after_part (leave_act label g turns))
      ≡ if_act when one other g turns t
  left-branches when a b one other is_one is_other g turns t =
      let zero : Bool = int_eq (operand_value t when) (pos 0) in
      then-cond zero (run_nodes g b turns t) (run_nodes g a turns t) (after_part (leave_act label g turns))
      ∙ ap (λ x. cond zero x (then_do (run_nodes g a turns t) (after_part (leave_act label g turns))))
      (sym (run-left b g turns t) ∙ ap (λ nodes. run_nodes g nodes turns t) (sym is_other))
      ∙ ap (λ x. cond zero (run_nodes g other turns t) x)
      (sym (run-left a g turns t) ∙ ap (λ nodes. run_nodes g nodes turns t) (sym is_one))

  pub adds-branches : (old mid new : List Node) (when : Operand) (a b one other : List Node)
      → one ≡ a ++ node.Leave label ∷ [] → other ≡ b ++ node.Leave label ∷ []
      → Adds old mid (if_act when a b) → Adds mid new (leave_act label) → Adds old new (if_act when one other)
  adds-branches old mid new when a b one other is_one is_other first second =
      let both = adds-then old mid new (if_act when a b) (leave_act label) first second in record {
        nodes = both.nodes;
        is = both.is;
        runs = λ g turns t. both.runs g turns t ∙ left-branches when a b one other is_one is_other g turns t;
      }

  -- THE BODY of a function

  pub adds-unblocked : (old new body nodes : List Node) → none_leaves label nodes ≡ true
      → AreSameBlock label nodes body → new ≡ old ++ nodes → Adds old new (block_act label body)
  adds-unblocked old new body nodes none same is = record {
    nodes = nodes;
    is = is;
    runs = λ g turns t. sym (unblocked nodes none g turns t) ∙ same g turns t;
  }

  pub adds-blocked : (old new body nodes : List Node) → AreSameBlock label nodes body
      → Adds old new (block_act label nodes) → Adds old new (block_act label body)
  adds-blocked old new body nodes same added = record {
    nodes = added.nodes;
    is = added.is;
    runs = λ g turns t. added.runs g turns t ∙ same g turns t;
  }

-- the last element of a list is after the others
pub before-last : {A : Type 0} (xs : List A) (n : ℕ) (x : A) → length xs ≡ suc n → slice_get xs n ≡ Some x
    → xs ≡ take n xs ++ x ∷ []
before-last [] n x count found = absurd (let f : None ≡ Some x = found in cc)
before-last (y ∷ []) zero x count found = ap (λ y. y ∷ []) (let f : Some y ≡ Some x = found in cc)
before-last (y ∷ z ∷ zs) zero x count found = absurd (omega (arith, count))
before-last (y ∷ ys) (suc n) x count found =
    ap (λ ys. y ∷ ys) (before-last ys n x (omega (arith, count)) found)

returned-at : (nodes : List Node) (n : ℕ) → n ≡ length nodes - 1
    → slice_get nodes n ≡ Some (node.Leave return_label)
    → nodes ≡ take n nodes ++ node.Leave return_label ∷ []
returned-at [] n count found = absurd (let f : None ≡ Some (node.Leave return_label) = found in cc)
returned-at (m ∷ nodes) n count found =
    before-last (m ∷ nodes) n (node.Leave return_label) (omega (arith, count)) found

-- what is left if a `return` that was last is taken off
pub returned-last : (nodes rest shown : List Node) (count : ℕ) → shown ≡ nodes → length shown ≡ count
    → EndsInReturn shown → rest ≡ take (count - 1) nodes → nodes ≡ rest ++ node.Leave return_label ∷ []
returned-last nodes rest shown count is many ends taken =
    let found : EndsInReturn nodes = subst EndsInReturn is ends in
    let last : count - 1 ≡ length nodes - 1 = ap (λ n. n - 1) (sym many ∙ ap length is) in
    returned-at nodes (count - 1) last (ap (slice_get nodes) last ∙ found)
    ∙ ap (λ front. front ++ node.Leave return_label ∷ []) (sym taken)
