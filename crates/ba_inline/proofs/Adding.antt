-- A node that is put after others.
use Rattle.std.proofs.Common.{◌≡◌, ℕ, Bool, true, false, List, [], ◌∷◌, ◌++◌, refl, ◌∙◌, ap}
use Rattle.std.specs.Global.{Vec}
use Rattle.ba_numbers.specs.declared.ids.StmtId.{StmtId}
use Rattle.ba_numbers.specs.declared.numbers.BinOp.{BinOp}
use Rattle.ba_numbers.specs.declared.numbers.CType.{CType}
use Rattle.ba_numbers.specs.declared.numbers.UnOp.{UnOp}
use Rattle.ba_code.proofs.Equations.{run-Set, run-Unary, run-Binary, run-Convert, run-Load, run-Save, run-Fill, run-Pick, run-If, run-Block, run-Leave, run-Loop-head, run-Loop-tail, run-Assert, run-Beyond}
use Rattle.ba_code.proofs.Rows.{run-one}
use Rattle.ba_code.specs.Meaning.{InTurns, Setting, run_node}
use Rattle.ba_code.specs.State.{CodeState}
use Rattle.ba_code.specs.declared.nodes.Node.{Node}
use Rattle.ba_code.specs.declared.nodes.Node as node
use Rattle.ba_code.specs.declared.nodes.Operand.{Operand}
use Rattle.ba_code.specs.declared.nodes.Take.{Take}
use Rattle.ba_inline.specs.Adding.{assert_act, beyond_act, binary_act, block_act, convert_act, fill_act, if_act, leave_act, load_act, loop_act, pick_act, save_act, set_act, unary_act}
use Rattle.ba_inline.specs.Making.{Adds}
use Rattle.ba_tree.specs.declared.run.Place.{Place}
use Rattle.ba_tree.specs.declared.run.Step.{Step}

adds-one : (old new : List Node) (n : Node) (act : Setting → InTurns) → new ≡ old ++ n ∷ []
    → ((g : Setting) (turns : List ℕ) (t : CodeState) → run_node g n turns t ≡ act g turns t) →
    Adds old new act
adds-one old new n act is runs = record {
  nodes = n ∷ [];
  is = is;
  runs = λ g turns t. run-one g turns t n ∙ runs g turns t;
}

module _ (old new : List Node) where
  pub adds-set : (to : ℕ) (from : Operand) → new ≡ old ++ node.Set to from ∷ []
      → Adds old new (set_act to from)
  adds-set to from is = adds-one old new (node.Set to from) (set_act to from) is
      (λ g turns s. run-Set g (node.Set to from) turns s to from refl)

  pub adds-unary : (to : ℕ) (op : UnOp) (t : CType) (a : Operand) → new ≡ old ++ node.Unary to op t a ∷ []
      → Adds old new (unary_act to op t a)
  adds-unary to op t a is = adds-one old new (node.Unary to op t a) (unary_act to op t a) is
      (λ g turns s. run-Unary g (node.Unary to op t a) turns s to op t a refl)

  pub adds-binary : (to : ℕ) (op : BinOp) (t : CType) (a b : Operand) (stmt : StmtId) →
      new ≡ old ++ node.Binary to op t a b stmt ∷ []
      → Adds old new (binary_act to op t a b stmt)
  adds-binary to op t a b stmt is = adds-one old new (node.Binary to op t a b stmt) (binary_act to op t a b
      stmt) is
      (λ g turns s. run-Binary g (node.Binary to op t a b stmt) turns s to op t a b stmt refl)

  pub adds-convert : (to : ℕ) (t : CType) (a : Operand) → new ≡ old ++ node.Convert to t a ∷ []
      → Adds old new (convert_act to t a)
  adds-convert to t a is = adds-one old new (node.Convert to t a) (convert_act to t a) is
      (λ g turns s. run-Convert g (node.Convert to t a) turns s to t a refl)

  pub adds-load : (to array : ℕ) (index : Operand) (stmt : StmtId) →
      new ≡ old ++ node.Load to array index stmt ∷ []
      → Adds old new (load_act to array index stmt)
  adds-load to array index stmt is = adds-one old new (node.Load to array index stmt) (load_act to array
      index stmt) is
      (λ g turns s. run-Load g (node.Load to array index stmt) turns s to array index stmt refl)

  pub adds-save : (array : ℕ) (index value : Operand) (stmt : StmtId) →
      new ≡ old ++ node.Save array index value stmt ∷ []
      → Adds old new (save_act array index value stmt)
  adds-save array index value stmt is = adds-one old new (node.Save array index value stmt) (save_act array
      index value stmt) is
      (λ g turns s. run-Save g (node.Save array index value stmt) turns s array index value stmt refl)

  pub adds-fill : (array : ℕ) (values : Vec Operand) → new ≡ old ++ node.Fill array values ∷ []
      → Adds old new (fill_act array values.items)
  adds-fill array values is = adds-one old new (node.Fill array values) (fill_act array values.items) is
      (λ g turns s. run-Fill g (node.Fill array values) turns s array values refl)

  pub adds-pick : (place : Place) (path : List Step) (stmt : StmtId) (take : Take) (keep : Vec Node)
      → new ≡ old ++ node.Pick place take keep ∷ [] → place.path ≡ path → place.stmt ≡ stmt
      → Adds old new (pick_act path stmt take keep.items)
  adds-pick place path stmt take keep is is_path is_stmt = adds-one old new (node.Pick place take keep)
      (pick_act path stmt take keep.items) is
      (λ g turns s. run-Pick g (node.Pick place take keep) turns s place take keep refl
      ∙ ap (λ path. pick_act path place.stmt take keep.items g turns s) is_path
      ∙ ap (λ stmt. pick_act path stmt take keep.items g turns s) is_stmt)

  pub adds-if : (when : Operand) (a b : Vec Node) → new ≡ old ++ node.If when a b ∷ []
      → Adds old new (if_act when a.items b.items)
  adds-if when a b is = adds-one old new (node.If when a b) (if_act when a.items b.items) is
      (λ g turns s. run-If g (node.If when a b) turns s when a b refl)

  pub adds-block : (label : ℕ) (body : Vec Node) → new ≡ old ++ node.Block label body ∷ []
      → Adds old new (block_act label body.items)
  adds-block label body is = adds-one old new (node.Block label body) (block_act label body.items) is
      (λ g turns s. run-Block g (node.Block label body) turns s label body refl)

  pub adds-leave : (label : ℕ) → new ≡ old ++ node.Leave label ∷ []
      → Adds old new (leave_act label)
  adds-leave label is = adds-one old new (node.Leave label) (leave_act label) is
      (λ g turns s. run-Leave g (node.Leave label) turns s label refl)

  pub adds-assert : (when : Operand) (stmt : StmtId) → new ≡ old ++ node.Assert when stmt ∷ []
      → Adds old new (assert_act when stmt)
  adds-assert when stmt is = adds-one old new (node.Assert when stmt) (assert_act when stmt) is
      (λ g turns s. run-Assert g (node.Assert when stmt) turns s when stmt refl)

  pub adds-beyond : (stmt : StmtId) → new ≡ old ++ node.Beyond stmt ∷ []
      → Adds old new (beyond_act stmt)
  adds-beyond stmt is = adds-one old new (node.Beyond stmt) (beyond_act stmt) is
      (λ g turns s. run-Beyond g (node.Beyond stmt) turns s stmt refl)

  pub adds-loop : (after : Bool) (head : Vec Node) (when : Operand) (body step : Vec Node) (stmt : StmtId)
      → new ≡ old ++ node.Loop after head when body step stmt ∷ []
      → Adds old new (loop_act after head.items when body.items step.items stmt)
  adds-loop false head when body step stmt is = adds-one old new (node.Loop false head when body step stmt)
      (loop_act false head.items when body.items step.items stmt) is
      (λ g turns s. run-Loop-head g (node.Loop false head when body step stmt) turns s head when body step
      stmt refl)
  adds-loop true head when body step stmt is = adds-one old new (node.Loop true head when body step stmt)
      (loop_act true head.items when body.items step.items stmt) is
      (λ g turns s. run-Loop-tail g (node.Loop true head when body step stmt) turns s head when body step
      stmt refl)
