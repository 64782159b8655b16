-- Nodes without parts are copied.
use Rattle.std.proofs.Common.{◌≡◌, ℕ, true, ◌&&◌, ◌==◌, List, [], ◌∷◌, ◌++◌, map, length, refl, sym, ◌∙◌, ap, subst}
use Rattle.std.specs.Global.{Vec}
use Rattle.std.specs.List.{list_all}
use Rattle.ba_code.proofs.Equations.{run-Set, run-Unary, run-Binary, run-Convert, run-Load, run-Save, run-Fill, run-Leave, run-Assert, run-Beyond}
use Rattle.ba_code.specs.Facts.{is_array, is_operand, is_unrolled}
use Rattle.ba_code.specs.Meaning.{Setting, info_at, run_node}
use Rattle.ba_code.specs.State.{CodeState, operand_value, set_array}
use Rattle.ba_code.specs.declared.nodes.Node.{Node}
use Rattle.ba_code.specs.declared.nodes.Node as node
use Rattle.ba_code.specs.declared.nodes.Operand.{Operand}
use Rattle.ba_unroll.proofs.Adding.{adds-node}
use Rattle.ba_unroll.proofs.Forms as forms
use Rattle.ba_unroll.specs.Unrolling.{Adds, bounded, node_act, node_inside}
use Rattle.ba_numbers.specs.declared.ids.StmtId.{StmtId}
use Rattle.ba_numbers.specs.declared.numbers.BinOp.{BinOp}
use Rattle.ba_numbers.specs.declared.numbers.CType.{CType}
use Rattle.ba_numbers.specs.declared.numbers.UnOp.{UnOp}
use Rattle.ba_tree.specs.Meaning.{elements_with}

module _ (bound : ℕ) (turns : List ℕ) (n : Node) (old : List Node) where
  abbrev AddsCopy : Node → Type 0
  AddsCopy m = (new : List Node) → new ≡ old ++ m ∷ [] → Adds (node_act bound turns n) (node_inside n) old new

  adds-leaf : (m : Node) → n ≡ m
      → ((g : Setting) (s : CodeState) → run_node g m [] s ≡ run_node (bounded bound g) m turns s)
      → is_unrolled m ≡ true → AddsCopy m
  adds-leaf m is same unrolled new put =
      subst (λ (new : List Node). Adds (node_act bound turns n) (node_inside n) old new) (sym put)
      (subst (λ (n : Node). Adds (node_act bound turns n) (node_inside n) old (old ++ m ∷ [])) (sym is)
      (adds-node (node_act bound turns m) (node_inside m) old m same (λ d labels here. here) unrolled))

  pub adds-Set : (to : ℕ) (from : Operand) → n ≡ node.Set to from → AddsCopy (node.Set to from)
  adds-Set to from is = adds-leaf (node.Set to from) is
      (λ g s. run-Set g (node.Set to from) [] s to from refl
      ∙ sym (run-Set (bounded bound g) (node.Set to from) turns s to from refl)) (forms.unrolled-Set to from)

  pub adds-Unary : (to : ℕ) (op : UnOp) (t : CType) (a : Operand) → n ≡ node.Unary to op t a
      → AddsCopy (node.Unary to op t a)
  adds-Unary to op t a is = adds-leaf (node.Unary to op t a) is
      (λ g s. run-Unary g (node.Unary to op t a) [] s to op t a refl
      ∙ sym (run-Unary (bounded bound g) (node.Unary to op t a) turns s to op t a refl))
      (forms.unrolled-Unary to op t a)

  pub adds-Binary : (to : ℕ) (op : BinOp) (t : CType) (a b : Operand) (stmt : StmtId)
      → n ≡ node.Binary to op t a b stmt → AddsCopy (node.Binary to op t a b stmt)
  adds-Binary to op t a b stmt is = adds-leaf (node.Binary to op t a b stmt) is
      (λ g s. run-Binary g (node.Binary to op t a b stmt) [] s to op t a b stmt refl
      ∙ sym (run-Binary (bounded bound g) (node.Binary to op t a b stmt) turns s to op t a b stmt refl))
      (forms.unrolled-Binary to op t a b stmt)

  pub adds-Convert : (to : ℕ) (t : CType) (a : Operand) → n ≡ node.Convert to t a
      → AddsCopy (node.Convert to t a)
  adds-Convert to t a is = adds-leaf (node.Convert to t a) is
      (λ g s. run-Convert g (node.Convert to t a) [] s to t a refl
      ∙ sym (run-Convert (bounded bound g) (node.Convert to t a) turns s to t a refl))
      (forms.unrolled-Convert to t a)

  pub adds-Load : (to array : ℕ) (index : Operand) (stmt : StmtId) → n ≡ node.Load to array index stmt
      → AddsCopy (node.Load to array index stmt)
  adds-Load to array index stmt is = adds-leaf (node.Load to array index stmt) is
      (λ g s. run-Load g (node.Load to array index stmt) [] s to array index stmt refl
      ∙ sym (run-Load (bounded bound g) (node.Load to array index stmt) turns s to array index stmt refl))
      (forms.unrolled-Load to array index stmt)

  pub adds-Save : (array : ℕ) (index value : Operand) (stmt : StmtId) → n ≡ node.Save array index value stmt
      → AddsCopy (node.Save array index value stmt)
  adds-Save array index value stmt is = adds-leaf (node.Save array index value stmt) is
      (λ g s. run-Save g (node.Save array index value stmt) [] s array index value stmt refl
      ∙ sym (run-Save (bounded bound g) (node.Save array index value stmt) turns s array index value stmt
      refl))
      (forms.unrolled-Save array index value stmt)

  pub adds-Leave : (label : ℕ) → n ≡ node.Leave label → AddsCopy (node.Leave label)
  adds-Leave label is = adds-leaf (node.Leave label) is
      (λ g s. run-Leave g (node.Leave label) [] s label refl
      ∙ sym (run-Leave (bounded bound g) (node.Leave label) turns s label refl)) (forms.unrolled-Leave label)

  pub adds-Assert : (when : Operand) (stmt : StmtId) → n ≡ node.Assert when stmt
      → AddsCopy (node.Assert when stmt)
  adds-Assert when stmt is = adds-leaf (node.Assert when stmt) is
      (λ g s. run-Assert g (node.Assert when stmt) [] s when stmt refl
      ∙ sym (run-Assert (bounded bound g) (node.Assert when stmt) turns s when stmt refl))
      (forms.unrolled-Assert when stmt)

  pub adds-Beyond : (stmt : StmtId) → n ≡ node.Beyond stmt → AddsCopy (node.Beyond stmt)
  adds-Beyond stmt is = adds-leaf (node.Beyond stmt) is
      (λ g s. run-Beyond g (node.Beyond stmt) [] s stmt refl
      ∙ sym (run-Beyond (bounded bound g) (node.Beyond stmt) turns s stmt refl)) (forms.unrolled-Beyond stmt)

  -- the values lie elsewhere
  pub adds-Fill : (array : ℕ) (values copies : Vec Operand) → n ≡ node.Fill array values
      → copies.items ≡ values.items
      → AddsCopy (node.Fill array copies)
  adds-Fill array values copies is same new put =
      subst (λ (new : List Node). Adds (node_act bound turns n) (node_inside n) old new) (sym put)
      (adds-node (node_act bound turns n) (node_inside n) old (node.Fill array copies)
      (λ g s. run-Fill g (node.Fill array copies) [] s array copies refl
      ∙ ap (λ (items : List Operand). set_array array
      (elements_with (length (s.arrays array)) (map (operand_value s) items)) s) same
      ∙ sym (run-Fill (bounded bound g) n turns s array values is))
      (λ d labels here. forms.fits-Fill d (node.Fill array copies) labels array copies refl
      ∙ ap (λ (items : List Operand). is_array d array && list_all (is_operand d) items
      && (length items == (info_at d.arrays array).len)) same
      ∙ sym (forms.fits-Fill d n labels array values is) ∙ here)
      (forms.unrolled-Fill array copies))
