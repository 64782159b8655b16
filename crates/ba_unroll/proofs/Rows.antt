-- Nodes one after the other.
use Rattle.std.proofs.Common.{◌≡◌, ℕ, ◌+◌, ◌<◌, ◌≤◌, true, List, [], ◌∷◌, ◌++◌, length, take, get_or, vec_len, sym, ◌∙◌, ap, subst, arith}
use Rattle.std.proofs.lemmas.Bool.{and_parts}
use Rattle.std.proofs.lemmas.List.{take_more, take_all}
use Rattle.std.specs.Global.{Vec}
use Rattle.ba_code.proofs.Rows.{run-append, run-none, run-one}
use Rattle.ba_code.specs.Facts.{fits_inside}
use Rattle.ba_code.specs.Meaning.{Setting}
use Rattle.ba_code.specs.State.{CodeExecution}
use Rattle.ba_code.specs.declared.nodes.Node.{Node}
use Rattle.ba_unroll.proofs.Adding.{adds-nothing, adds-same, adds-then, adds-where, inside-append}
use Rattle.ba_unroll.specs.Unrolling.{Adds, all_inside, and_then, bounded, node_act, node_inside, nodes_act, then_act}
use Rattle.ba_tree.specs.Acts.{after_part, then_do}

module _ (bound : ℕ) (turns : List ℕ) where
  abbrev AddsAll : List Node → List Node → List Node → Type 0
  AddsAll ns old new = Adds (nodes_act bound turns ns) (all_inside ns) old new

  pub row-none : (ns out : List Node) → AddsAll (take 0 ns) out out
  row-none ns out = adds-nothing (nodes_act bound turns []) (all_inside []) out
      (λ g i s. run-none (bounded bound g) turns s i)

  run-more : (g : Setting) (ns : List Node) (n : Node)
      → nodes_act bound turns (ns ++ n ∷ []) g ≡ and_then (nodes_act bound turns ns g)
      (node_act bound turns n g)
  run-more g ns n = λ i s. (run-append (bounded bound g) turns s ns (n ∷ [])
      ∙ ap (λ (f : CodeExecution). then_do (nodes_act bound turns ns g s) (after_part f))
      (λ i s. run-one (bounded bound g) turns s n i)) i

  one-more : (ns : List Node) (n : Node) (old mid new : List Node) → AddsAll ns old mid
      → Adds (node_act bound turns n) (node_inside n) mid new → AddsAll (ns ++ n ∷ []) old new
  one-more ns n old mid new row one =
      adds-same (then_act (nodes_act bound turns ns) (node_act bound turns n))
      (nodes_act bound turns (ns ++ n ∷ []))
      (all_inside (ns ++ n ∷ [])) old new
      (λ g. sym (run-more g ns n))
      (adds-then (nodes_act bound turns ns) (node_act bound turns n) (all_inside (ns ++ n ∷ [])) old mid new
      (adds-where (nodes_act bound turns ns) (all_inside ns) (all_inside (ns ++ n ∷ [])) old mid
      (λ d labels here. (and_parts (all_inside ns d labels) (all_inside (n ∷ []) d labels)
      (sym (inside-append d labels ns (n ∷ [])) ∙ here)).0) row)
      (adds-where (node_act bound turns n) (node_inside n) (all_inside (ns ++ n ∷ [])) mid new
      (λ d labels here. (and_parts (fits_inside d n labels) true
      (and_parts (all_inside ns d labels) (all_inside (n ∷ []) d labels)
      (sym (inside-append d labels ns (n ∷ [])) ∙ here)).1).0) one))

  pub row-more : (ns : List Node) (i : ℕ) (n : Node) (old mid new : List Node) → i < length ns
      → n ≡ get_or ns i n
      → AddsAll (take i ns) old mid → Adds (node_act bound turns n) (node_inside n) mid new
      → AddsAll (take (i + 1) ns) old new
  row-more ns i n old mid new below is row one =
      let same : take i ns ++ n ∷ [] ≡ take (i + 1) ns =
      ap (λ (n : Node). take i ns ++ n ∷ []) is ∙ sym (take_more ns i n below) in
      subst (λ (ns : List Node). AddsAll ns old new) same (one-more (take i ns) n old mid new row one)

  pub row-all : (ns : List Node) (i : ℕ) (old new : List Node) → length ns ≤ i → AddsAll (take i ns) old new
      → AddsAll ns old new
  row-all ns i old new past row = subst (λ (ns : List Node). AddsAll ns old new) (take_all i ns past) row

-- of the same nodes
pub row-of : (bound : ℕ) (turns : List ℕ) (ns ms old new : List Node) → ns ≡ ms
    → Adds (nodes_act bound turns ns) (all_inside ns) old new
    → Adds (nodes_act bound turns ms) (all_inside ms) old new
row-of bound turns ns ms old new same row =
    subst (λ (ns : List Node). Adds (nodes_act bound turns ns) (all_inside ns) old new) same row

-- in the same iterations
pub row-in : (bound : ℕ) (ts us : List ℕ) (ns old new : List Node) → ts ≡ us
    → Adds (nodes_act bound ts ns) (all_inside ns) old new
    → Adds (nodes_act bound us ns) (all_inside ns) old new
row-in bound ts us ns old new same row =
    subst (λ (turns : List ℕ). Adds (nodes_act bound turns ns) (all_inside ns) old new) same row

-- how long a list of nodes is
pub nodes-len : (nodes : Vec Node) → vec_len nodes ≡ length nodes.items
nodes-len nodes = omega (arith, nodes.ok.0)
