-- Where each variable and each array keeps to one type, conversions of operands change nothing.
use Rattle.std.proofs.Common.{◌≡◌, ℕ, zero, suc, ◌+◌, ℤ, pos, Bool, true, false, ◌&&◌, ◌||◌, cond, Option, None, Some, option_map, Ok, Err, List, [], ◌∷◌, map, length, refl, sym, ◌∙◌, ap, subst, inl, inr}
use Rattle.std.proofs.lemmas.Bool.{and_from, and_parts, cases_eq, eq-eqb, ne_eqb}
use Rattle.std.proofs.lemmas.Bool.Decides.{Decides-int_eq}
use Rattle.std.specs.List.{list_all}
use Rattle.std.specs.Ordering.{int_eq}
use Rattle.std.specs.Prelude.{slice_get, slice_set, slice_index_or, unsigned_abs, ◌==◌, ◌⊎◌}
use Rattle.ba_choices.specs.declared.Choice.{Choice}
use Rattle.ba_choices.specs.declared.Choice.TheVariants.{Keep, Take}
use Rattle.ba_code.proofs.Agreeing.{Agrees, KeptAt, agrees-after, agrees-fork, agrees-itself, agrees-next, agrees-rounds, agrees-then}
use Rattle.ba_code.proofs.Ranges.{at-in, binary-in, binary-same, converted-in, elements-in, in-within, one-in, set-in, unary-in, unary-same, zero-in}
use Rattle.ba_code.specs.Meaning.{InTurns, Setting, as_picked, assert_value, block, body_and_step, choice_where, first_choice, flow_after_block, head_behind, head_loop, if_taken, node_step, nodes_in_order, past_bound, path_in, run_node, run_nodes, tail_loop, taken, value_behind}
use Rattle.ba_code.specs.Operators.{Operators, converting, plain}
use Rattle.ba_code.specs.State.{CodeEnding, CodeExecution, CodeState, cell_at, operand_value, or_trap_at, set_array, set_variable, with_array, with_at, with_cell, with_variable}
use Rattle.ba_code.specs.Types.{KeepsTypes, Types, all_typed, can_hold, element_type, has_type, is_typed, is_within, takes_type, typed_step}
use Rattle.ba_code.specs.declared.nodes.Node.{Node}
use Rattle.ba_code.specs.declared.nodes.Node.TheOpen.{Node-F}
use Rattle.ba_code.specs.declared.nodes.Node.TheFolds.{fold-roll-Node, ind-Node, map-Node}
use Rattle.ba_code.specs.declared.nodes.Node.TheViews.{roll-Node}
use Rattle.ba_code.specs.declared.nodes.Operand.{Operand}
use Rattle.ba_code.specs.declared.nodes.Operand.TheVariants.{Const, Var}
use Rattle.ba_code.specs.declared.nodes.Take as code
use Rattle.ba_code.specs.declared.nodes.Take.TheVariants.{Value, Truth, Cell, Cells, Nothing}
use Rattle.ba_numbers.specs.Numbers.{converted, is_in}
use Rattle.ba_numbers.specs.declared.ids.StmtId.{StmtId}
use Rattle.ba_numbers.specs.declared.numbers.CType.{CType}
use Rattle.ba_tree.specs.Acts.{after_part, give, then_do}
use Rattle.ba_tree.specs.Choices.{all_elements, no_value, one_element, one_truth, one_value}
use Rattle.ba_tree.specs.Facts.{holds}
use Rattle.ba_numbers.specs.Types.{shifts, type_of_binary, type_of_unary}
use Rattle.ba_tree.specs.Meaning.{elements_with}
use Rattle.ba_tree.specs.State.{is_index}
use Rattle.ba_tree.specs.declared.run.Flow.{Flow}
use Rattle.ba_tree.specs.declared.run.Flow.TheVariants.{Next, Leaves}
use Rattle.ba_tree.specs.declared.run.Halt.TheVariants.{AssertFails}
use Rattle.ba_tree.specs.declared.run.Step.{Step}

module _ (types : Types) where
  -- WRITES

  -- what a variable can hold
  held : (o : Option CType) (t u : CType) (z : ℤ) → holds (is_within t) o ≡ true → o ≡ Some u →
      is_in t z ≡ true
      → is_in u z ≡ true
  held None t u z h is k = absurd (cc)
  held (Some own) t u z h is k =
      let e : own ≡ u = cc in in-within t u z (subst (λ own. is_within t own ≡ true) e h) k

  variable-by : (s : CodeState) (n : ℕ) (z : ℤ) (m : ℕ) (u : CType) → KeepsTypes types s
      → (slice_get types.vars n ≡ Some u → is_in u z ≡ true) → slice_get types.vars m ≡ Some u
      → (m ≡ n) ⊎ (m ≡ n → ⊥) → is_in u (with_at s.variables n z m) ≡ true
  variable-by s n z m u k in_z is (inl e) =
      ap (λ b. is_in u (cond b z (s.variables m))) (eq-eqb m n e)
      ∙ in_z (ap (slice_get types.vars) (sym e) ∙ is)
  variable-by s n z m u k in_z is (inr other) =
      ap (λ b. is_in u (cond b z (s.variables m))) (ne_eqb m n other) ∙ k.variables m u is

  pub keeps-variable : (s : CodeState) (n : ℕ) (z : ℤ) → KeepsTypes types s
      → ((u : CType) → slice_get types.vars n ≡ Some u → is_in u z ≡ true) →
      KeepsTypes types (with_variable n z s)
  keeps-variable s n z k in_z = record {
    variables = λ m u is. variable-by s n z m u k (in_z u) is (cases_eq m n);
    arrays = k.arrays;
  }

  array-by : (s : CodeState) (n : ℕ) (zs : List ℤ) (m : ℕ) → KeepsTypes types s
      → list_all (is_in (element_type types n)) zs ≡ true → (m ≡ n) ⊎ (m ≡ n → ⊥)
      → list_all (is_in (element_type types m)) (with_at s.arrays n zs m) ≡ true
  array-by s n zs m k in_zs (inl e) =
      ap (λ b. list_all (is_in (element_type types m)) (cond b zs (s.arrays m))) (eq-eqb m n e)
      ∙ ap (λ n. list_all (is_in (element_type types n)) zs) e ∙ in_zs
  array-by s n zs m k in_zs (inr other) =
      ap (λ b. list_all (is_in (element_type types m)) (cond b zs (s.arrays m))) (ne_eqb m n other)
      ∙ k.arrays m

  pub keeps-array : (s : CodeState) (n : ℕ) (zs : List ℤ) → KeepsTypes types s
      → list_all (is_in (element_type types n)) zs ≡ true → KeepsTypes types (with_array n zs s)
  keeps-array s n zs k in_zs = record {
    variables = k.variables;
    arrays = λ m. array-by s n zs m k in_zs (cases_eq m n);
  }

  -- choices are no part of it
  keeps-left : (s : CodeState) (choices : List Choice) → KeepsTypes types s →
      KeepsTypes types (record s { choices = choices })
  keeps-left s choices k = record { variables = k.variables; arrays = k.arrays }

  -- READS

  own-by : (o : Option CType) (t : CType) (z : ℤ) → holds (λ own. is_within own t) o ≡ true
      → ((u : CType) → o ≡ Some u → is_in u z ≡ true) → is_in t z ≡ true
  own-by None t z h own = absurd (cc)
  own-by (Some u) t z h own = in-within u t z h (own u refl)

  reads-in : (t : CType) (o : Operand) (s : CodeState) → has_type types t o ≡ true → KeepsTypes types s
      → is_in t (operand_value s o) ≡ true
  reads-in t (Const z) s h k = h
  reads-in t (Var n) s h k = own-by (slice_get types.vars n) t (s.variables n) h (k.variables n)

  all-reads-in : (t : CType) (os : List Operand) (s : CodeState) → list_all (has_type types t) os ≡ true
      → KeepsTypes types s → list_all (is_in t) (map (operand_value s) os) ≡ true
  all-reads-in t [] s h k = refl
  all-reads-in t (o ∷ os) s h k =
      let both = and_parts (has_type types t o) (list_all (has_type types t) os) h in
      and_from (is_in t (operand_value s o)) (list_all (is_in t) (map (operand_value s) os))
      (reads-in t o s both.0 k) (all-reads-in t os s both.1 k)

  -- TESTS of what may be there

  holds-at : {A : Type 0} (test : A → Bool) (o : Option A) (a : A) → holds test o ≡ true → o ≡ Some a →
      test a ≡ true
  holds-at test None a h is = absurd (cc)
  holds-at test (Some b) a h is = let e : b ≡ a = cc in subst (λ a. test a ≡ true) e h

  right-in : (b : Bool) (t : CType) (o : Operand) (s : CodeState) → (b || has_type types t o) ≡ true →
      KeepsTypes types s
      → (b || is_in t (operand_value s o)) ≡ true
  right-in true t o s h k = refl
  right-in false t o s h k = reads-in t o s h k

  chosen-cell : (b : Bool) (y z : ℤ) → cond b (Some y) None ≡ Some z → y ≡ z
  chosen-cell true y z is = cc
  chosen-cell false y z is = absurd (let f : None ≡ Some z = is in cc)

  chosen-cells : (b : Bool) (ys zs : List ℤ) → cond b (Some ys) None ≡ Some zs → ys ≡ zs
  chosen-cells true ys zs is = cc
  chosen-cells false ys zs is = absurd (let f : None ≡ Some zs = is in cc)

  -- NODES WITHOUT PARTS

  to-kept : (stmt : StmtId) (to : ℕ) (o : Option ℤ) (s : CodeState)
      → ((z : ℤ) → o ≡ Some z → KeepsTypes types (with_variable to z s))
      → KeptAt types (then_do (or_trap_at stmt o s) (set_variable to))
  to-kept stmt to None s k = tt
  to-kept stmt to (Some z) s k = k z refl

  saved-kept : (stmt : StmtId) (array : ℕ) (o : Option (List ℤ)) (s : CodeState)
      → ((zs : List ℤ) → o ≡ Some zs → KeepsTypes types (with_array array zs s))
      → KeptAt types (then_do (or_trap_at stmt o s) (set_array array))
  saved-kept stmt array None s k = tt
  saved-kept stmt array (Some zs) s k = k zs refl

  abbrev ended : CodeEnding (Flow ℕ) → Type 0
  ended = KeptAt types

  assert-kept : (stmt : StmtId) (b : Bool) (s : CodeState) → KeepsTypes types s
      → ended (cond b (Err (AssertFails stmt), s) (Ok Next, s))
  assert-kept stmt true s k = tt
  assert-kept stmt false s k = k

  -- CHOICES

  first-kept : (s : CodeState) (choices : List Choice) → KeepsTypes types s →
      KeptAt types (first_choice choices s)
  first-kept s [] k = tt
  first-kept s (Keep ∷ choices) k = keeps-left s choices k
  first-kept s (Take zs ∷ choices) k = keeps-left s choices k

  choice-kept : (b : Bool) (s : CodeState) → KeepsTypes types s → KeptAt types (choice_where b s)
  choice-kept false s k = k
  choice-kept true s k = first-kept s s.choices k

  -- the values that fit are in range

  fit-one : (b : Bool) (t : CType) (y z : ℤ) → is_in t y ≡ b → cond b (Some y) None ≡ Some z →
      is_in t z ≡ true
  fit-one true t y z e is = let same : y ≡ z = chosen-cell true y z is in subst (λ z. is_in t z ≡ true) same e
  fit-one false t y z e is = absurd (let f : None ≡ Some z = is in cc)

  fit-value : (t : CType) (zs : List ℤ) (z : ℤ) → one_value t zs ≡ Some z → is_in t z ≡ true
  fit-value t [] z is = absurd (let f : None ≡ Some z = is in cc)
  fit-value t (y ∷ []) z is = fit-one (is_in t y) t y z refl is
  fit-value t (y ∷ x ∷ xs) z is = absurd (let f : None ≡ Some z = is in cc)

  truth-one : (a b : Bool) (t : CType) (y z : ℤ) → (a ≡ true → y ≡ pos 0) → (b ≡ true → y ≡ pos 1)
      → cond (a || b) (Some y) None ≡ Some z → is_in t z ≡ true
  truth-one true b t y z zero_y one_y is =
      let same : y ≡ z = chosen-cell true y z is in ap (is_in t) (sym same ∙ zero_y refl) ∙ zero-in t
  truth-one false true t y z zero_y one_y is =
      let same : y ≡ z = chosen-cell true y z is in ap (is_in t) (sym same ∙ one_y refl) ∙ one-in t
  truth-one false false t y z zero_y one_y is = absurd (let f : None ≡ Some z = is in cc)

  fit-truth : (t : CType) (zs : List ℤ) (z : ℤ) → one_truth zs ≡ Some z → is_in t z ≡ true
  fit-truth t [] z is = absurd (let f : None ≡ Some z = is in cc)
  fit-truth t (y ∷ []) z is = truth-one (int_eq y (pos 0)) (int_eq y (pos 1)) t y z
      (λ e. (Decides-int_eq y (pos 0)).0 e) (λ e. (Decides-int_eq y (pos 1)).0 e) is
  fit-truth t (y ∷ x ∷ xs) z is = absurd (let f : None ≡ Some z = is in cc)

  chosen-pair : (b : Bool) (p q : ℤ × ℤ) → cond b (Some p) None ≡ Some q → p ≡ q
  chosen-pair true p q is = cc
  chosen-pair false p q is = absurd (let f : None ≡ Some q = is in cc)

  fit-pair : (a b : Bool) (t : CType) (i z : ℤ) (q : ℤ × ℤ) → is_in t z ≡ b →
      cond (a && b) (Some (i, z)) None ≡ Some q
      → is_in t q.1 ≡ true
  fit-pair true true t i z q e is =
      let same : (i, z) ≡ q = chosen-pair true (i, z) q is in subst (λ (q : ℤ × ℤ). is_in t q.1 ≡ true) same e
  fit-pair true false t i z q e is = absurd (let f : None ≡ Some q = is in cc)
  fit-pair false b t i z q e is = absurd (let f : None ≡ Some q = is in cc)

  fit-cell : (t : CType) (n : ℕ) (zs : List ℤ) (q : ℤ × ℤ) → one_element t n zs ≡ Some q → is_in t q.1 ≡ true
  fit-cell t n [] q is = absurd (let f : None ≡ Some q = is in cc)
  fit-cell t n (i ∷ []) q is = absurd (let f : None ≡ Some q = is in cc)
  fit-cell t n (i ∷ z ∷ []) q is = fit-pair (is_index n i) (is_in t z) t i z q refl is
  fit-cell t n (i ∷ z ∷ y ∷ zs) q is = absurd (let f : None ≡ Some q = is in cc)

  fit-lists : (a b : Bool) (t : CType) (zs ys : List ℤ) → list_all (is_in t) zs ≡ b
      → cond (a && b) (Some zs) None ≡ Some ys → list_all (is_in t) ys ≡ true
  fit-lists true true t zs ys e is =
      let same : zs ≡ ys = chosen-cells true zs ys is in subst (λ ys. list_all (is_in t) ys ≡ true) same e
  fit-lists true false t zs ys e is = absurd (let f : None ≡ Some ys = is in cc)
  fit-lists false b t zs ys e is = absurd (let f : None ≡ Some ys = is in cc)

  fit-cells : (t : CType) (n : ℕ) (zs ys : List ℤ) → all_elements t n zs ≡ Some ys →
      list_all (is_in t) ys ≡ true
  fit-cells t n zs ys is = fit-lists (length zs == n) (list_all (is_in t) zs) t zs ys refl is

  -- what they do
  did-kept : {A : Type 0} (o : Option A) (f : A → CodeState) (s : CodeState)
      → ((a : A) → o ≡ Some a → KeepsTypes types (f a)) → KeptAt types (if_taken (option_map f o) s)
  did-kept None f s k = tt
  did-kept (Some a) f s k = k a refl

  taken-kept : (take : code.Take) (zs : List ℤ) (s : CodeState) → takes_type types take ≡ true →
      KeepsTypes types s
      → KeptAt types (if_taken (taken types.arrays take zs s) s)
  taken-kept (Value to t) zs s h k = did-kept (one_value t zs) (λ z. with_variable to z s) s
      (λ z is. keeps-variable s to z k (λ u found. held (slice_get types.vars to) t u z h found (fit-value
      t zs z is)))
  taken-kept (Truth to) zs s h k = did-kept (one_truth zs) (λ z. with_variable to z s) s
      (λ z is. keeps-variable s to z k (λ u found. fit-truth u zs z is))
  taken-kept (Cell array) zs s h k = did-kept (one_element (element_type types array) (length (s.arrays
      array)) zs)
      (λ (cell : ℤ × ℤ). with_array array (slice_set (s.arrays array) (unsigned_abs cell.0) cell.1) s) s
      (λ cell is. keeps-array s array (slice_set (s.arrays array) (unsigned_abs cell.0) cell.1) k
      (set-in (element_type types array) (s.arrays array) (unsigned_abs cell.0) cell.1
      (fit-cell (element_type types array) (length (s.arrays array)) zs cell is) (k.arrays array)))
  taken-kept (Cells array) zs s h k = did-kept (all_elements (element_type types array) (length (s.arrays
      array)) zs)
      (λ ys. with_array array (elements_with (length (s.arrays array)) ys) s) s
      (λ ys is. keeps-array s array (elements_with (length (s.arrays array)) ys) k
      (elements-in (element_type types array) (length (s.arrays array)) ys
      (fit-cells (element_type types array) (length (s.arrays array)) zs ys is)))
  taken-kept Nothing zs s h k = did-kept (no_value zs) (λ z. s) s (λ z is. k)

  picked-agrees : (take : code.Take) (f h : CodeExecution) → takes_type types take ≡ true → Agrees types f h
      → (chosen : Option (List ℤ)) →
      Agrees types (as_picked types.arrays take f chosen) (as_picked types.arrays take h chosen)
  picked-agrees take f h t both None = both
  picked-agrees take f h t both (Some zs) = agrees-itself types (λ s. if_taken (taken types.arrays take zs
      s) s)
      (λ s k. taken-kept take zs s t k)

  -- BLOCKS AND LOOPS

  block-agrees : (label : ℕ) (f h : CodeExecution) → Agrees types f h →
      Agrees types (block label f) (block label h)
  block-agrees label f h both = agrees-then types f h (λ flow. give (flow_after_block label flow))
      (λ flow. give (flow_after_block label flow)) both
      (λ flow. agrees-itself types (give (flow_after_block label flow)) (λ s k. k))

  past-agrees : (stmt : StmtId) → Agrees types (past_bound stmt) (past_bound stmt)
  past-agrees stmt = agrees-itself types (past_bound stmt) (λ s k. tt)

  behind-agrees : (f h : ℕ → CodeExecution) → ((k : ℕ) → Agrees types (f k) (h k)) → (k : ℕ)
      → Agrees types (head_behind f k) (head_behind h k)
  behind-agrees f h both zero = agrees-next types
  behind-agrees f h both (suc k) = both (suc k)

  abbrev AgreeInTurns : InTurns → InTurns → Type 0
  AgreeInTurns f h = (turns : List ℕ) → Agrees types (f turns) (h turns)

  turn-agrees : (body body' step step' : InTurns) → AgreeInTurns body body' → AgreeInTurns step step'
      → AgreeInTurns (body_and_step body step) (body_and_step body' step')
  turn-agrees body body' step step' first second turns = agrees-then types (body turns) (body' turns)
      (after_part (step turns)) (after_part (step' turns)) (first turns)
      (agrees-after types (step turns) (step' turns) (second turns))

  head_loop-agrees : (bound : ℕ) (stmt : StmtId) (head head' turn turn' : InTurns) (when : CodeState → ℤ)
      → AgreeInTurns head head' → AgreeInTurns turn turn'
      → AgreeInTurns (head_loop bound stmt head when turn) (head_loop bound stmt head' when turn')
  unfolding head_loop
  head_loop-agrees bound stmt head head' turn turn' when heads turned turns = agrees-rounds types
      (λ k. head (k ∷ turns)) (λ k. head' (k ∷ turns)) (λ k. turn (k ∷ turns)) (λ k. turn' (k ∷ turns)) (λ
      k. when)
      (past_bound stmt) (λ k. heads (k ∷ turns)) (λ k. turned (k ∷ turns)) (past-agrees stmt) bound 1

  tail_loop-agrees : (bound : ℕ) (stmt : StmtId) (head head' turn turn' : InTurns) (when : CodeState → ℤ)
      → AgreeInTurns head head' → AgreeInTurns turn turn'
      → AgreeInTurns (tail_loop bound stmt head when turn) (tail_loop bound stmt head' when turn')
  unfolding tail_loop
  tail_loop-agrees bound stmt head head' turn turn' when heads turned turns = agrees-rounds types
      (head_behind (λ k. head (k ∷ turns))) (head_behind (λ k. head' (k ∷ turns)))
      (λ k. turn ((k + 1) ∷ turns)) (λ k. turn' ((k + 1) ∷ turns)) (value_behind when) (past_bound stmt)
      (behind-agrees (λ k. head (k ∷ turns)) (λ k. head' (k ∷ turns)) (λ k. heads (k ∷ turns)))
      (λ k. turned ((k + 1) ∷ turns)) (past-agrees stmt) bound 0

  -- NODES

  module _ (relaxes : List Step → StmtId → Bool) (bound : ℕ) where
    abbrev setting_with : Operators → Setting
    setting_with operators = record {
      relaxes = relaxes;
      turns = bound;
      arrays = types.arrays;
      operators =
          operators;
    }

    abbrev AgreesNode : Node → Type 0
    AgreesNode n = is_typed types n ≡ true →
        AgreeInTurns (run_node (setting_with plain) n) (run_node (setting_with converting) n)

    abbrev InnerNode : Type 0
    InnerNode = (n : Node) × AgreesNode n

    abbrev bare_node : Node-F InnerNode → Node-F Node
    bare_node = map-Node InnerNode Node (λ n. n.0)

    abbrev node_in : Operators → Node-F Node → InTurns
    node_in operators n = node_step (setting_with operators)
        (map-Node Node InTurns (run_node (setting_with operators)) n)

    abbrev typed_in : Node-F Node → Bool
    typed_in n = typed_step types (map-Node Node Bool (is_typed types) n)

    abbrev rows_in : Operators → List InnerNode → InTurns
    rows_in operators items turns = nodes_in_order turns (map (run_node (setting_with operators)) (map (λ
        n. n.0) items))

    abbrev are_typed : List InnerNode → Bool
    are_typed items = all_typed (map (is_typed types) (map (λ n. n.0) items))

    inner-rows : (items : List InnerNode)
        → are_typed items ≡ true
        → AgreeInTurns
        (rows_in plain items)
        (rows_in converting items)
    inner-rows [] h turns = agrees-next types
    inner-rows (n ∷ items) h turns =
        let both = and_parts (is_typed types n.0) (are_typed items) h in
        agrees-then types (run_node (setting_with plain) n.0 turns) (run_node (setting_with converting) n.0
        turns)
        (after_part (rows_in plain items turns))
        (after_part (rows_in converting items turns))
        (n.1 both.0 turns)
        (agrees-after types
        (rows_in plain items turns)
        (rows_in converting items turns)
        (inner-rows items both.1 turns))

    node-form : (y : Node-F InnerNode) → typed_in (bare_node y) ≡ true
        → AgreeInTurns (node_in plain (bare_node y)) (node_in converting (bare_node y))
    node-form (Node-F.Set to from) h turns = agrees-itself types (λ s. set_variable to (operand_value s
        from) s)
        (λ s k. keeps-variable s to (operand_value s from) k (λ u found. reads-in u from s
        (holds-at (λ t. has_type types t from) (slice_get types.vars to) u h found) k))
    node-form (Node-F.Unary to op t a) h turns =
        let both = and_parts (has_type types t a) (can_hold types to (type_of_unary op t)) h in record {
          same = λ s k. ap (λ z. set_variable to z s) (unary-same op t (operand_value s a) (reads-in t a s
              both.0 k));
          kept = λ s k. keeps-variable s to (plain.unary op t (operand_value s a)) k (λ u found.
              held (slice_get types.vars to) (type_of_unary op t) u (plain.unary op t (operand_value s a))
              both.1 found
              (unary-in op t (operand_value s a)));
        }
    node-form (Node-F.Binary to op t a b stmt) h turns =
        let all = and_parts (has_type types t a && (shifts op || has_type types t b)) (can_hold types to
        (type_of_binary op t)) h in
        let two = and_parts (has_type types t a) (shifts op || has_type types t b) all.0 in record {
          same = λ s k. ap (λ o. then_do (or_trap_at stmt o s) (set_variable to))
              (binary-same op t (operand_value s a) (operand_value s b) (reads-in t a s two.0 k)
              (right-in (shifts op) t b s two.1 k));
          kept = λ s k. to-kept stmt to (plain.binary op t (operand_value s a) (operand_value s b)) s (λ z is.
              keeps-variable s to z k (λ u found. held (slice_get types.vars to) (type_of_binary op t) u z
              all.1 found
              (binary-in op t (operand_value s a) (operand_value s b) z is)));
        }
    node-form (Node-F.Convert to t a) h turns = agrees-itself types (λ s. set_variable to (converted t
        (operand_value s a)) s)
        (λ s k. keeps-variable s to (converted t (operand_value s a)) k (λ u found.
        held (slice_get types.vars to) t u (converted t (operand_value s a)) h found (converted-in t
        (operand_value s a))))
    node-form (Node-F.Load to array index stmt) h turns = agrees-itself types
        (λ s. then_do (or_trap_at stmt (cell_at (s.arrays array) (operand_value s index)) s) (set_variable
        to))
        (λ s k. to-kept stmt to (cell_at (s.arrays array) (operand_value s index)) s (λ z is.
        keeps-variable s to z k (λ u found. held (slice_get types.vars to) (element_type types array) u z h
        found
        (subst (λ z. is_in (element_type types array) z ≡ true)
        (chosen-cell (is_index (length (s.arrays array)) (operand_value s index))
        (slice_index_or (s.arrays array) (unsigned_abs (operand_value s index)) (pos 0)) z is)
        (at-in (element_type types array) (s.arrays array) (unsigned_abs (operand_value s index)) (k.arrays
        array))))))
    node-form (Node-F.Save array index value stmt) h turns = agrees-itself types
        (λ s. then_do (or_trap_at stmt (with_cell (s.arrays array) (operand_value s index) (operand_value s
        value)) s)
        (set_array array))
        (λ s k. saved-kept stmt array (with_cell (s.arrays array) (operand_value s index) (operand_value s
        value)) s
        (λ zs is. keeps-array s array zs k
        (subst (λ zs. list_all (is_in (element_type types array)) zs ≡ true)
        (chosen-cells (is_index (length (s.arrays array)) (operand_value s index))
        (slice_set (s.arrays array) (unsigned_abs (operand_value s index)) (operand_value s value)) zs is)
        (set-in (element_type types array) (s.arrays array) (unsigned_abs (operand_value s index))
        (operand_value s value)
        (reads-in (element_type types array) value s h k) (k.arrays array)))))
    node-form (Node-F.Fill array values) h turns = agrees-itself types
        (λ s. set_array array (elements_with (length (s.arrays array)) (map (operand_value s)
        values.items)) s)
        (λ s k. keeps-array s array (elements_with (length (s.arrays array)) (map (operand_value s)
        values.items)) k
        (elements-in (element_type types array) (length (s.arrays array)) (map (operand_value s) values.items)
        (all-reads-in (element_type types array) values.items s h k)))
    node-form (Node-F.Pick place take keep) h turns =
        let both = and_parts (takes_type types take)
        (are_typed keep.items) h in
        agrees-then types (choice_where (relaxes (path_in turns place.path) place.stmt))
        (choice_where (relaxes (path_in turns place.path) place.stmt))
        (as_picked types.arrays take (rows_in plain keep.items turns))
        (as_picked types.arrays take (rows_in converting keep.items turns))
        (agrees-itself types (choice_where (relaxes (path_in turns place.path) place.stmt))
        (choice-kept (relaxes (path_in turns place.path) place.stmt)))
        (picked-agrees take
        (rows_in plain keep.items turns)
        (rows_in converting keep.items turns)
        both.0 (inner-rows keep.items both.1 turns))
    node-form (Node-F.If when a b) h turns =
        let both = and_parts (are_typed a.items)
        (are_typed b.items) h in
        agrees-fork types
        (rows_in plain a.items turns)
        (rows_in converting a.items turns)
        (rows_in plain b.items turns)
        (rows_in converting b.items turns)
        (λ s. operand_value s when) (inner-rows a.items both.0 turns) (inner-rows b.items both.1 turns)
    node-form (Node-F.Block label body) h turns = block-agrees label
        (rows_in plain body.items turns)
        (rows_in converting body.items turns)
        (inner-rows body.items h turns)
    node-form (Node-F.Leave label) h turns = agrees-itself types (λ s. (Ok (Leaves label), s)) (λ s k. k)
    node-form (Node-F.Loop false head when body step stmt) h turns =
        let all = and_parts (are_typed head.items
        && are_typed body.items)
        (are_typed step.items) h in
        let two = and_parts (are_typed head.items)
        (are_typed body.items) all.0 in
        head_loop-agrees bound stmt
        (rows_in plain head.items)
        (rows_in converting head.items)
        (body_and_step
        (rows_in plain body.items)
        (rows_in plain step.items))
        (body_and_step
        (rows_in converting body.items)
        (rows_in converting step.items))
        (λ s. operand_value s when) (inner-rows head.items two.0)
        (turn-agrees
        (rows_in plain body.items)
        (rows_in converting body.items)
        (rows_in plain step.items)
        (rows_in converting step.items)
        (inner-rows body.items two.1) (inner-rows step.items all.1)) turns
    node-form (Node-F.Loop true head when body step stmt) h turns =
        let all = and_parts (are_typed head.items
        && are_typed body.items)
        (are_typed step.items) h in
        let two = and_parts (are_typed head.items)
        (are_typed body.items) all.0 in
        tail_loop-agrees bound stmt
        (rows_in plain head.items)
        (rows_in converting head.items)
        (body_and_step
        (rows_in plain body.items)
        (rows_in plain step.items))
        (body_and_step
        (rows_in converting body.items)
        (rows_in converting step.items))
        (λ s. operand_value s when) (inner-rows head.items two.0)
        (turn-agrees
        (rows_in plain body.items)
        (rows_in converting body.items)
        (rows_in plain step.items)
        (rows_in converting step.items)
        (inner-rows body.items two.1) (inner-rows step.items all.1)) turns
    node-form (Node-F.Assert when stmt) h turns = agrees-itself types (λ s. assert_value stmt
        (operand_value s when) s)
        (λ s k. assert-kept stmt (int_eq (operand_value s when) (pos 0)) s k)
    node-form (Node-F.Beyond stmt) h turns = agrees-itself types (past_bound stmt) (λ s k. tt)

    node-layer : (y : Node-F InnerNode) → AgreesNode (roll-Node (bare_node y))
    unfolding run_node is_typed
    node-layer y typed turns =
        let h : typed_in (bare_node y) ≡ true = sym (fold-roll-Node Bool (typed_step types) (bare_node y))
        ∙ typed in
        let both : Agrees types (node_in plain (bare_node y) turns) (node_in converting (bare_node y) turns) =
        node-form y h turns in
        let first : run_node (setting_with plain) (roll-Node (bare_node y)) turns ≡ node_in plain
        (bare_node y) turns =
        ap (λ (f : InTurns). f turns) (fold-roll-Node InTurns (node_step (setting_with plain)) (bare_node
        y)) in
        let second : run_node (setting_with converting) (roll-Node (bare_node y)) turns ≡ node_in
        converting (bare_node y) turns =
        ap (λ (f : InTurns). f turns) (fold-roll-Node InTurns (node_step (setting_with converting))
        (bare_node y)) in
        subst (λ f. Agrees types f (run_node (setting_with converting) (roll-Node (bare_node y)) turns))
        (sym first)
        (subst (Agrees types (node_in plain (bare_node y) turns)) (sym second) both)

    agrees-node : (n : Node) → AgreesNode n
    agrees-node = ind-Node AgreesNode (λ n y is. subst (λ n. AgreesNode (roll-Node n)) is (node-layer y))

    -- nodes in a row
    pub typed-agrees : (nodes : List Node) → all_typed (map (is_typed types) nodes) ≡ true
        → AgreeInTurns (run_nodes (setting_with plain) nodes) (run_nodes (setting_with converting) nodes)
    unfolding run_nodes
    typed-agrees [] h turns = agrees-next types
    typed-agrees (n ∷ nodes) h turns =
        let both = and_parts (is_typed types n) (all_typed (map (is_typed types) nodes)) h in
        agrees-then types (run_node (setting_with plain) n turns) (run_node (setting_with converting) n turns)
        (after_part (run_nodes (setting_with plain) nodes turns)) (after_part (run_nodes (setting_with
        converting) nodes turns))
        (agrees-node n both.0 turns)
        (agrees-after types (run_nodes (setting_with plain) nodes turns) (run_nodes (setting_with
        converting) nodes turns)
        (typed-agrees nodes both.1 turns))
