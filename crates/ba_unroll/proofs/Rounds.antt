-- A loop is its iterations, one inside the other.
use Rattle.std.proofs.Common.{◌≡◌, ℕ, zero, suc, ◌+◌, ◌-◌, ◌<◌, ℤ, Bool, true, false, ◌&&◌, List, [], ◌∷◌, ◌++◌, refl, sym, ◌∙◌, ap, subst, add-one, arith}
use Rattle.std.proofs.lemmas.Bool.{and_parts}
use Rattle.std.specs.Global.{Vec}
use Rattle.ba_code.proofs.Equations.{run-Loop-head, run-Loop-tail}
use Rattle.ba_code.specs.Facts.{Declared, is_operand}
use Rattle.ba_code.specs.Meaning.{Setting, body_and_step, head_behind, head_loop, headed_rounds, past_bound, run_nodes, tail_loop, value_behind}
use Rattle.ba_code.specs.State.{CodeExecution, CodeState, operand_value}
use Rattle.ba_code.specs.declared.nodes.Node.{Node}
use Rattle.ba_code.specs.declared.nodes.Node as node
use Rattle.ba_code.specs.declared.nodes.Operand.{Operand}
use Rattle.ba_unroll.proofs.Adding.{adds-behind, adds-same, adds-then, adds-where, then-then}
use Rattle.ba_unroll.proofs.Branches.{branch-made}
use Rattle.ba_unroll.proofs.Forms as forms
use Rattle.ba_unroll.specs.Unrolling.{Acts, Adds, EndsIn, IsIf, all_inside, and_then, bounded, if_act, loop_act, loop_by, loop_inside, node_act, node_inside, nodes_act, then_act, turn_act, turn_of_head, turns_act}
use Rattle.ba_unroll.specs.declared.turns.Parts.{Parts}
use Rattle.ba_numbers.specs.declared.ids.StmtId.{StmtId}
use Rattle.ba_tree.specs.Acts.{fork, give}
use Rattle.ba_tree.specs.declared.run.Flow.TheVariants.{Next}

-- ROUNDS

module _ (bound : ℕ) (turns : List ℕ) (parts : Parts) (g : Setting) where
  abbrev head : ℕ → CodeExecution
  head k = run_nodes (bounded bound g) parts.head.now (k ∷ turns)

  abbrev turn : ℕ → CodeExecution
  turn k = body_and_step (run_nodes (bounded bound g) parts.body.now)
      (run_nodes (bounded bound g) parts.step.now) (k ∷ turns)

  abbrev when : CodeState → ℤ
  when s = operand_value s parts.when

  abbrev past : CodeExecution
  past = past_bound parts.stmt

  -- the iterations from this one on
  abbrev inside : ℕ → ℕ → CodeExecution
  inside left k = turns_act bound turns parts left k g

  abbrev branch : CodeExecution → CodeExecution
  branch rest s = fork rest (give Next) (when s) s

  turn-then : (left k m : ℕ) → turn_of_head parts.after k ≡ m
      → and_then (turn k) (and_then (head m) (branch (inside left (k + 1)))) ≡ inside (suc left) k
  turn-then left k m is = sym (then-then (turn k) (head m) (branch (inside left (k + 1))))
      ∙ ap (λ (m : ℕ). and_then (and_then (turn k) (head m)) (branch (inside left (k + 1)))) (sym is)

  head-rounds : parts.after ≡ false → (left k : ℕ)
      → headed_rounds head (λ k. when) turn past left k ≡ and_then (head k) (branch (inside left k))
  head-rounds is zero k = refl
  head-rounds is (suc left) k = ap (λ (f : CodeExecution). and_then (head k) (branch f))
      (ap (and_then (turn k)) (head-rounds is left (k + 1))
      ∙ turn-then left k (k + 1) (ap (λ b. turn_of_head b k) is))

  -- after an iteration of a `do` comes the head of that iteration
  abbrev tail_rounds : ℕ → ℕ → CodeExecution
  tail_rounds = headed_rounds (head_behind head) (value_behind when) (λ k. turn (k + 1)) past

  abbrev branch_behind : ℕ → CodeExecution → CodeExecution
  branch_behind k rest s = fork rest (give Next) (value_behind when k s) s

  tail-rounds : parts.after ≡ true → (left k : ℕ)
      → tail_rounds left k ≡ and_then (head_behind head k) (branch_behind k (inside left (k + 1)))
  tail-rounds is zero k = refl
  tail-rounds is (suc left) k =
      let same : suc k ≡ k + 1 = sym (add-one k) in
      let rounds : tail_rounds left (k + 1) ≡ and_then (head (k + 1)) (branch (inside left (k + 1 + 1))) =
      subst (λ (m : ℕ). tail_rounds left m ≡ and_then (head m) (branch (inside left (m + 1)))) same
      (tail-rounds is left (suc k)) in
      ap (λ (f : CodeExecution). and_then (head_behind head k) (branch_behind k f))
      (ap (and_then (turn (k + 1))) rounds
      ∙ turn-then left (k + 1) (k + 1) (ap (λ b. turn_of_head b (k + 1)) is))

  pub head-loop : parts.after ≡ false
      → and_then (head 1) (branch (inside bound 1)) ≡ loop_act bound turns parts g
  unfolding head_loop
  head-loop is = sym (head-rounds is bound 1)
      ∙ sym (ap (λ b. loop_by bound turns b parts.head.now parts.when parts.body.now parts.step.now
      parts.stmt g) is)

  pub tail-loop : parts.after ≡ true → inside bound 1 ≡ loop_act bound turns parts g
  unfolding tail_loop
  tail-loop is = sym (tail-rounds is bound 0)
      ∙ sym (ap (λ b. loop_by bound turns b parts.head.now parts.when parts.body.now parts.step.now
      parts.stmt g) is)

-- NODES

module _ (bound : ℕ) (turns : List ℕ) (parts : Parts) where
  -- what holds where the loop is
  inside-parts : (d : Declared) (labels : List ℕ) → loop_inside parts d labels ≡ true
      → (is_operand d parts.when ≡ true) × (all_inside parts.head.now d labels ≡ true)
      × (all_inside parts.body.now d labels ≡ true) × (all_inside parts.step.now d labels ≡ true)
  inside-parts d labels here =
      let third = and_parts (is_operand d parts.when && all_inside parts.head.now d labels
      && all_inside parts.body.now d labels) (all_inside parts.step.now d labels) here in
      let second = and_parts (is_operand d parts.when && all_inside parts.head.now d labels)
      (all_inside parts.body.now d labels) third.0 in
      let first = and_parts (is_operand d parts.when) (all_inside parts.head.now d labels) second.0 in
      (first.0, first.1, second.1, third.1)

  abbrev row_act : ℕ → Acts
  row_act turn = then_act (then_act (nodes_act bound (turn ∷ turns) parts.body.now)
      (nodes_act bound (turn ∷ turns) parts.step.now))
      (nodes_act bound (turn_of_head parts.after turn ∷ turns) parts.head.now)

  -- the body, the step and the head after them
  pub turn-row : (turn : ℕ) (old body step head : List Node)
      → Adds (nodes_act bound (turn ∷ turns) parts.body.now) (all_inside parts.body.now) old body
      → Adds (nodes_act bound (turn ∷ turns) parts.step.now) (all_inside parts.step.now) body step
      → Adds (nodes_act bound (turn_of_head parts.after turn ∷ turns) parts.head.now)
      (all_inside parts.head.now) step head
      → Adds (row_act turn) (loop_inside parts) old head
  turn-row turn old body step head a b c =
      let bodies = nodes_act bound (turn ∷ turns) parts.body.now in
      let steps = nodes_act bound (turn ∷ turns) parts.step.now in
      let heads = nodes_act bound (turn_of_head parts.after turn ∷ turns) parts.head.now in
      adds-then (then_act bodies steps) heads (loop_inside parts) old step head
      (adds-then bodies steps (loop_inside parts) old body step
      (adds-where bodies (all_inside parts.body.now) (loop_inside parts) old body
      (λ d labels here. (inside-parts d labels here).2) a)
      (adds-where steps (all_inside parts.step.now) (loop_inside parts) body step
      (λ d labels here. (inside-parts d labels here).3) b))
      (adds-where heads (all_inside parts.head.now) (loop_inside parts) step head
      (λ d labels here. (inside-parts d labels here).1) c)

  pub turn-made : (turn : ℕ) (left : Acts) (old rest head new : List Node)
      → (made : Adds left (loop_inside parts) old rest)
      → (row : Adds (row_act turn) (loop_inside parts) rest head)
      → EndsIn (old ++ row.made) (IsIf parts.when made.made []) new
      → Adds (turn_act bound turns parts turn left) (loop_inside parts) old new
  turn-made turn left old rest head new made row ends =
      adds-then (row_act turn) (if_act parts.when left) (loop_inside parts) old (old ++ row.made) new
      (adds-behind old row)
      (branch-made parts.when left (loop_inside parts) old rest (old ++ row.made) new
      (λ d labels here. (inside-parts d labels here).0) made ends)

  -- a loop with its head first
  pub adds-head-loop : (old mid last new : List Node) → parts.after ≡ false
      → Adds (nodes_act bound (1 ∷ turns) parts.head.now) (all_inside parts.head.now) old mid
      → (rest : Adds (turns_act bound turns parts bound 1) (loop_inside parts) mid last)
      → EndsIn mid (IsIf parts.when rest.made []) new
      → Adds (loop_act bound turns parts) (loop_inside parts) old new
  adds-head-loop old mid last new is first rest ends =
      let heads = nodes_act bound (1 ∷ turns) parts.head.now in
      let left = turns_act bound turns parts bound 1 in
      adds-same (then_act heads (if_act parts.when left)) (loop_act bound turns parts)
      (loop_inside parts) old new (λ g. head-loop bound turns parts g is)
      (adds-then heads (if_act parts.when left) (loop_inside parts) old mid new
      (adds-where heads (all_inside parts.head.now) (loop_inside parts) old mid
      (λ d labels here. (inside-parts d labels here).1) first)
      (branch-made parts.when left (loop_inside parts) mid last mid new
      (λ d labels here. (inside-parts d labels here).0) rest ends))

  -- one with its head after each iteration
  pub adds-tail-loop : (old new : List Node) → parts.after ≡ true
      → Adds (turns_act bound turns parts bound 1) (loop_inside parts) old new
      → Adds (loop_act bound turns parts) (loop_inside parts) old new
  adds-tail-loop old new is made =
      adds-same (turns_act bound turns parts bound 1) (loop_act bound turns parts) (loop_inside parts) old new
      (λ g. tail-loop bound turns parts g is) made

  -- the iterations that are left, one more
  pub more-turns : (left n : ℕ) → left < n
      → turn_act bound turns parts (n - left) (turns_act bound turns parts left (n - left + 1))
      ≡ turns_act bound turns parts (left + 1) (n - (left + 1) + 1)
  more-turns left n below =
      let number : n - left ≡ n - (left + 1) + 1 = omega arith in
      ap (turns_act bound turns parts (suc left)) number
      ∙ ap (λ (m : ℕ). turns_act bound turns parts m (n - (left + 1) + 1)) (sym (add-one left))

-- THE NODE OF A LOOP

module _ (bound : ℕ) (turns : List ℕ) (n : Node) (head : Vec Node) (when : Operand) (body step : Vec Node)
    (stmt : StmtId) where
  node-loop : (after : Bool) (g : Setting) → n ≡ node.Loop after head when body step stmt
      → loop_by bound turns after head.items when body.items step.items stmt g ≡ node_act bound turns n g
  node-loop false g is = λ i s. sym (run-Loop-head (bounded bound g) n turns s head when body step stmt is) i
  node-loop true g is = λ i s. sym (run-Loop-tail (bounded bound g) n turns s head when body step stmt is) i

  pub adds-Loop : (parts : Parts) (after : Bool) (old new : List Node)
      → n ≡ node.Loop after head when body step stmt
      → parts.after ≡ after → parts.head.now ≡ head.items → parts.when ≡ when → parts.body.now ≡ body.items
      → parts.step.now ≡ step.items → parts.stmt ≡ stmt
      → Adds (loop_act bound turns parts) (loop_inside parts) old new
      → Adds (node_act bound turns n) (node_inside n) old new
  adds-Loop parts after old new is is_after is_head is_when is_body is_step is_stmt added =
      adds-where (node_act bound turns n) (loop_inside parts) (node_inside n) old new
      (λ d labels here.
      ap (λ (w : Operand). is_operand d w && all_inside parts.head.now d labels && all_inside parts.body.now
      d labels
      && all_inside parts.step.now d labels) is_when
      ∙ ap (λ (ns : List Node). is_operand d when && all_inside ns d labels && all_inside parts.body.now d
      labels
      && all_inside parts.step.now d labels) is_head
      ∙ ap (λ (ns : List Node). is_operand d when && all_inside head.items d labels && all_inside ns d labels
      && all_inside parts.step.now d labels) is_body
      ∙ ap (λ (ns : List Node). is_operand d when && all_inside head.items d labels && all_inside body.items
      d labels
      && all_inside ns d labels) is_step
      ∙ sym (forms.fits-Loop d n labels after head when body step stmt is) ∙ here)
      (adds-same (loop_act bound turns parts) (node_act bound turns n) (loop_inside parts) old new
      (λ g. ap (λ b. loop_by bound turns b parts.head.now parts.when parts.body.now parts.step.now
      parts.stmt g) is_after
      ∙ ap (λ (ns : List Node). loop_by bound turns after ns parts.when parts.body.now parts.step.now
      parts.stmt g) is_head
      ∙ ap (λ (w : Operand). loop_by bound turns after head.items w parts.body.now parts.step.now parts.stmt
      g) is_when
      ∙ ap (λ (ns : List Node). loop_by bound turns after head.items when ns parts.step.now parts.stmt g)
      is_body
      ∙ ap (λ (ns : List Node). loop_by bound turns after head.items when body.items ns parts.stmt g) is_step
      ∙ ap (λ (stmt : StmtId). loop_by bound turns after head.items when body.items step.items stmt g) is_stmt
      ∙ node-loop after g is) added)
