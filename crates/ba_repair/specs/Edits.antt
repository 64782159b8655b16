-- THE EDITS of statements: each changes one node.

use Rattle.std.specs.Prelude.{ℕ, ◌+◌, pos, ◌+ℤ◌, ◌-ℤ◌, List, [], ◌∷◌, ◌++◌, map, flat_map, Contains}
use Rattle.ba_numbers.specs.Numbers.{converted}
use Rattle.ba_tree.specs.Trees.{ProgramTree, tree_of}
use Rattle.ba_tree.specs.declared.tree.Program.{Program}
use Rattle.ba_repair.specs.Nodes.{nodes_at}
use Rattle.ba_repair.specs.declared.listing.Change.{Change}
use Rattle.ba_repair.specs.declared.listing.Change.TheVariants as change
use Rattle.ba_repair.specs.declared.listing.Edit.{Edit}
use Rattle.ba_repair.specs.declared.nodes.EditableNode.{EditableNode}
use Rattle.ba_repair.specs.declared.nodes.EditableNode.TheVariants as node

-- THE CHANGES of a node. A constant changes to its value less 1, and then plus 1, each converted to its type.
-- An operator changes to its partner, `&&` to `||`, and `||` to `&&`
abbrev pub changes_of : EditableNode → List Change
changes_of (node.Constant t z) =
    change.Constant z (converted t (z -ℤ pos 1)) ∷ change.Constant z (converted t (z +ℤ pos 1)) ∷ []
changes_of (node.Operator op partner) = change.Operator op partner ∷ []
changes_of node.And = change.ToOr ∷ []
changes_of node.Or = change.ToAnd ∷ []

-- the edits of the statement of a number at nodes that are numbered from k on: by node, and then by change
abbrev pub edits_from : ℕ → ℕ → List EditableNode → List Edit
edits_from n k [] = []
edits_from n k (found ∷ nodes) =
    map (λ c. record { stmt = record { 0 = n }; node = k; change = c }) (changes_of found)
    ++ edits_from n (k + 1) nodes

-- the edits of the statement of a number; its nodes are numbered from 1
abbrev pub edits_at : ProgramTree → ℕ → List Edit
edits_at p n = edits_from n 1 (nodes_at p n)

-- THE EDITS of these statements, statement by statement
abbrev pub edits_of : ProgramTree → List ℕ → List Edit
edits_of p = flat_map (edits_at p)

-- an edit is one of the program's
abbrev pub IsEditOf : Program → Edit → Type 0
IsEditOf p edit = Contains (edits_at (tree_of p) edit.stmt.0) edit
