-- Whether code may end by leaving a block.

use Rattle.std.specs.Prelude.{◌≡◌, ℕ, ◌-◌, Bool, true, not, ◌&&◌, ◌||◌, ◌==◌, Some, List, map, length, slice_get}
use Rattle.std.specs.List.{list_all}
use Rattle.ba_code.specs.Meaning.{Setting}
use Rattle.ba_code.specs.State.{CodeState}
use Rattle.ba_code.specs.declared.nodes.Node.{Node}
use Rattle.ba_code.specs.declared.nodes.Node as node
use Rattle.ba_code.specs.declared.nodes.Node.TheOpen.{Node-F}
use Rattle.ba_code.specs.declared.nodes.Node.TheFolds.{fold-Node}
use Rattle.ba_inline.specs.Adding.{block_act}
use Rattle.ba_inline.specs.Making.{return_label}

-- all are true
abbrev pub all_true : List Bool → Bool
all_true = list_all (λ b. b)

-- a node never leaves by this label, by its parts
abbrev pub never_step : ℕ → Node-F Bool → Bool
never_step label (Node-F.Pick place take keep) = all_true keep.items
never_step label (Node-F.If when a b) = all_true a.items && all_true b.items
never_step label (Node-F.Block own body) = (own == label) || all_true body.items
never_step label (Node-F.Leave own) = not (own == label)
never_step label (Node-F.Loop after head when body step stmt) =
    all_true head.items && all_true body.items && all_true step.items
never_step label _ = true

-- the node has no leave of this label outside of blocks of the label, so it never ends by one
unfoldable pub never_leaves : ℕ → Node → Bool
never_leaves label = fold-Node Bool (never_step label)

-- none of these nodes has one
abbrev pub none_leaves : ℕ → List Node → Bool
none_leaves label nodes = all_true (map (never_leaves label) nodes)

-- the last node is a `return`
abbrev pub EndsInReturn : List Node → Type 0
EndsInReturn nodes = slice_get nodes (length nodes - 1) ≡ Some (node.Leave return_label)

-- blocks of the label with these nodes do the same
abbrev pub AreSameBlock : ℕ → List Node → List Node → Type 0
AreSameBlock label xs ys = (g : Setting) (turns : List ℕ) (t : CodeState)
    → block_act label xs g turns t ≡ block_act label ys g turns t
