-- Nodes with parts.
use Rattle.std.proofs.Common.{◌≡◌, ℕ, true, ◌&&◌, List, [], ◌∷◌, ◌++◌, reverse, refl, sym, ◌∙◌, ap, subst}
use Rattle.std.proofs.lemmas.Bool.{and_from, and_parts}
use Rattle.std.specs.Global.{Vec}
use Rattle.std.specs.List.{list_all}
use Rattle.ba_code.proofs.Equations.{run-Pick, run-If, run-Block, run-Beyond}
use Rattle.ba_code.proofs.Rows.{run-none}
use Rattle.ba_code.specs.Facts.{Declared, is_counted, is_operand, is_take, is_unrolled}
use Rattle.ba_code.specs.Meaning.{as_picked, block, choice_where, path_in, run_nodes}
use Rattle.ba_code.specs.State.{CodeExecution, operand_value}
use Rattle.ba_code.specs.declared.nodes.Node.{Node}
use Rattle.ba_code.specs.declared.nodes.Node as node
use Rattle.ba_code.specs.declared.nodes.Operand.{Operand}
use Rattle.ba_code.specs.declared.nodes.Take.{Take}
use Rattle.ba_unroll.proofs.Adding.{adds-alone, adds-node, made-fits, made-runs, made-unrolled}
use Rattle.ba_unroll.proofs.Forms as forms
use Rattle.ba_unroll.proofs.Paths.{path_in-none}
use Rattle.ba_unroll.specs.Unrolling.{Acts, Adds, EndsIn, IsBlock, IsIf, IsPick, Stands, all_inside, beyond_act, bounded, if_act, node_act, node_inside, nodes_act}
use Rattle.ba_numbers.specs.declared.ids.StmtId.{StmtId}
use Rattle.ba_tree.specs.Acts.{fork, then_do}
use Rattle.ba_tree.specs.declared.run.Place.{Place}
use Rattle.ba_tree.specs.declared.run.Step.{Step}

module _ (bound : ℕ) (turns : List ℕ) (n : Node) (old : List Node) where
  abbrev AddsNode : Node → Type 0
  AddsNode m = (new : List Node) → new ≡ old ++ m ∷ [] → Adds (node_act bound turns n) (node_inside n) old new

  put-node : (m : Node) → Adds (node_act bound turns n) (node_inside n) old (old ++ m ∷ []) → AddsNode m
  put-node m added new put = subst
      (λ (new : List Node). Adds (node_act bound turns n) (node_inside n) old new) (sym put) added

  pub adds-Pick : (place other : Place) (take : Take) (keep made : Vec Node) → n ≡ node.Pick place take keep
      → other.path ≡ reverse (path_in turns place.path) → other.stmt ≡ place.stmt
      → list_all is_counted other.path ≡ true
      → Adds (nodes_act bound turns keep.items) (all_inside keep.items) [] made.items
      → AddsNode (node.Pick other take made)
  adds-Pick place other take keep made is path stmt counted inside = put-node (node.Pick other take made)
      (adds-node (node_act bound turns n) (node_inside n) old (node.Pick other take made)
      (λ g s. run-Pick g (node.Pick other take made) [] s other take made refl
      ∙ ap (λ (path : List Step). then_do (choice_where (g.relaxes path other.stmt) s)
      (as_picked g.arrays take (run_nodes g made.items []))) (path_in-none turns place.path other.path path)
      ∙ ap (λ (stmt : StmtId). then_do (choice_where (g.relaxes (path_in turns place.path) stmt) s)
      (as_picked g.arrays take (run_nodes g made.items []))) stmt
      ∙ ap (λ (f : CodeExecution). then_do (choice_where (g.relaxes (path_in turns place.path) place.stmt) s)
      (as_picked g.arrays take f)) (made-runs (nodes_act bound turns keep.items)
      (all_inside keep.items) made.items inside g)
      ∙ sym (run-Pick (bounded bound g) n turns s place take keep is))
      (λ d labels here.
      let both = and_parts (is_take d take) (all_inside keep.items d labels)
      (sym (forms.fits-Pick d n labels place take keep is) ∙ here) in
      forms.fits-Pick d (node.Pick other take made) labels other take made refl
      ∙ and_from (is_take d take) (all_inside made.items d labels) both.0
      (made-fits (nodes_act bound turns keep.items) (all_inside keep.items) made.items inside d labels both.1))
      (forms.unrolled-Pick other take made
      ∙ and_from (list_all is_counted other.path) (list_all is_unrolled made.items) counted
      (made-unrolled (nodes_act bound turns keep.items) (all_inside keep.items) made.items inside)))

  pub adds-If : (when : Operand) (a b a' b' : Vec Node) → n ≡ node.If when a b
      → Adds (nodes_act bound turns a.items) (all_inside a.items) [] a'.items
      → Adds (nodes_act bound turns b.items) (all_inside b.items) [] b'.items
      → AddsNode (node.If when a' b')
  adds-If when a b a' b' is first second = put-node (node.If when a' b')
      (adds-node (node_act bound turns n) (node_inside n) old (node.If when a' b')
      (λ g s. run-If g (node.If when a' b') [] s when a' b' refl
      ∙ ap (λ (f : CodeExecution). fork f (run_nodes g b'.items []) (operand_value s when) s)
      (made-runs (nodes_act bound turns a.items) (all_inside a.items) a'.items first g)
      ∙ ap (λ (f : CodeExecution). fork (nodes_act bound turns a.items g) f (operand_value s when) s)
      (made-runs (nodes_act bound turns b.items) (all_inside b.items) b'.items second g)
      ∙ sym (run-If (bounded bound g) n turns s when a b is))
      (λ d labels here.
      let both = and_parts (is_operand d when && all_inside a.items d labels) (all_inside b.items d labels)
      (sym (forms.fits-If d n labels when a b is) ∙ here) in
      let more = and_parts (is_operand d when) (all_inside a.items d labels) both.0 in
      forms.fits-If d (node.If when a' b') labels when a' b' refl
      ∙ and_from (is_operand d when && all_inside a'.items d labels) (all_inside b'.items d labels)
      (and_from (is_operand d when) (all_inside a'.items d labels) more.0
      (made-fits (nodes_act bound turns a.items) (all_inside a.items) a'.items first d labels more.1))
      (made-fits (nodes_act bound turns b.items) (all_inside b.items) b'.items second d labels both.1))
      (forms.unrolled-If when a' b'
      ∙ and_from (list_all is_unrolled a'.items) (list_all is_unrolled b'.items)
      (made-unrolled (nodes_act bound turns a.items) (all_inside a.items) a'.items first)
      (made-unrolled (nodes_act bound turns b.items) (all_inside b.items) b'.items second)))

  pub adds-Block : (label : ℕ) (body made : Vec Node) → n ≡ node.Block label body
      → Adds (nodes_act bound turns body.items) (all_inside body.items) [] made.items
      → AddsNode (node.Block label made)
  adds-Block label body made is inside = put-node (node.Block label made)
      (adds-node (node_act bound turns n) (node_inside n) old (node.Block label made)
      (λ g s. run-Block g (node.Block label made) [] s label made refl
      ∙ ap (λ (f : CodeExecution). block label f s)
      (made-runs (nodes_act bound turns body.items) (all_inside body.items) made.items inside g)
      ∙ sym (run-Block (bounded bound g) n turns s label body is))
      (λ d labels here. forms.fits-Block d (node.Block label made) labels label made refl
      ∙ made-fits (nodes_act bound turns body.items) (all_inside body.items) made.items inside d (label ∷ labels)
      (sym (forms.fits-Block d n labels label body is) ∙ here))
      (forms.unrolled-Block label made
      ∙ made-unrolled (nodes_act bound turns body.items) (all_inside body.items) made.items inside))

-- made of the nodes that are last
module _ (bound : ℕ) (turns : List ℕ) (n : Node) (old new : List Node) where
  abbrev AddsIt : Type 0
  AddsIt = Adds (node_act bound turns n) (node_inside n) old new

  ending : {m : Node} {kind : Node → Type 0} → (ends : EndsIn old kind new) → ends.last ≡ m
      → new ≡ old ++ m ∷ []
  ending ends is = ends.is ∙ ap (λ (m : Node). old ++ m ∷ []) is

  pub pick-made : (place : Place) (take : Take) (keep : Vec Node) (mid : List Node)
      → n ≡ node.Pick place take keep
      → (row : Adds (nodes_act bound turns keep.items) (all_inside keep.items) old mid)
      → EndsIn old (IsPick turns place take row.made) new → AddsIt
  pick-made place take keep mid is row ends =
      let of = ends.of_kind in
      adds-Pick bound turns n old place of.at take keep of.nodes is of.path of.stmt of.counted
      (adds-alone of.nodes.items row of.inside) new (ending ends of.is)

  pub if-made : (when : Operand) (a b : Vec Node) (mid last : List Node) → n ≡ node.If when a b
      → (first : Adds (nodes_act bound turns a.items) (all_inside a.items) old mid)
      → (second : Adds (nodes_act bound turns b.items) (all_inside b.items) mid last)
      → EndsIn old (IsIf when first.made second.made) new → AddsIt
  if-made when a b mid last is first second ends =
      let of = ends.of_kind in
      adds-If bound turns n old when a b of.one of.other is (adds-alone of.one.items first of.inside_one)
      (adds-alone of.other.items second of.inside_other) new (ending ends of.is)

  pub block-made : (label : ℕ) (body : Vec Node) (mid : List Node) → n ≡ node.Block label body
      → (row : Adds (nodes_act bound turns body.items) (all_inside body.items) old mid)
      → EndsIn old (IsBlock label row.made) new → AddsIt
  block-made label body mid is row ends =
      let of = ends.of_kind in
      adds-Block bound turns n old label body of.nodes is (adds-alone of.nodes.items row of.inside) new
      (ending ends of.is)

-- the end of a loop, and a branch on its condition

pub adds-beyond : (stmt : StmtId) (stands : Stands) (old : List Node)
    → Adds (beyond_act stmt) stands old (old ++ node.Beyond stmt ∷ [])
adds-beyond stmt stands old = adds-node (beyond_act stmt) stands old (node.Beyond stmt)
    (λ g s. run-Beyond g (node.Beyond stmt) [] s stmt refl)
    (λ d labels here. forms.fits-Beyond d (node.Beyond stmt) labels stmt refl)
    (forms.unrolled-Beyond stmt)

adds-branch : (when : Operand) (act : Acts) (stands : Stands) (old : List Node) (rest none : Vec Node)
    → ((d : Declared) (labels : List ℕ) → stands d labels ≡ true → is_operand d when ≡ true) → none.items ≡ []
    → Adds act stands [] rest.items → Adds (if_act when act) stands old (old ++ node.If when rest none ∷ [])
adds-branch when act stands old rest none read empty made =
    adds-node (if_act when act) stands old (node.If when rest none)
    (λ g s. run-If g (node.If when rest none) [] s when rest none refl
    ∙ ap (λ (f : CodeExecution). fork f (run_nodes g none.items []) (operand_value s when) s)
    (made-runs act stands rest.items made g)
    ∙ ap (λ (ns : List Node). fork (act g) (run_nodes g ns []) (operand_value s when) s) empty
    ∙ ap (λ (f : CodeExecution). fork (act g) f (operand_value s when) s) (λ i s. run-none g [] s i))
    (λ d labels here. forms.fits-If d (node.If when rest none) labels when rest none refl
    ∙ and_from (is_operand d when && all_inside rest.items d labels) (all_inside none.items d labels)
    (and_from (is_operand d when) (all_inside rest.items d labels) (read d labels here)
    (made-fits act stands rest.items made d labels here))
    (ap (λ (ns : List Node). all_inside ns d labels) empty))
    (forms.unrolled-If when rest none
    ∙ and_from (list_all is_unrolled rest.items) (list_all is_unrolled none.items)
    (made-unrolled act stands rest.items made)
    (ap (list_all is_unrolled) empty))

-- a branch made of the nodes that are last
pub branch-made : (when : Operand) (act : Acts) (stands : Stands) (old mid behind new : List Node)
    → ((d : Declared) (labels : List ℕ) → stands d labels ≡ true → is_operand d when ≡ true)
    → (rest : Adds act stands old mid) → EndsIn behind (IsIf when rest.made []) new
    → Adds (if_act when act) stands behind new
branch-made when act stands old mid behind new read rest ends =
    let of = ends.of_kind in
    subst (λ (new : List Node). Adds (if_act when act) stands behind new)
    (sym (ends.is ∙ ap (λ (m : Node). behind ++ m ∷ []) of.is))
    (adds-branch when act stands behind of.one of.other read of.inside_other
    (adds-alone of.one.items rest of.inside_one))
