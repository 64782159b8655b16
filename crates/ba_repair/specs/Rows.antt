-- Rows of nodes, one for each number of a statement.

use Rattle.std.specs.Prelude.{ℕ, ◌==◌, if◌then◌else◌, List, [], ◌∷◌, ◌++◌, slice_index_or}
use Rattle.ba_repair.specs.declared.nodes.EditableNode.{EditableNode}
use Rattle.ba_repair.specs.declared.nodes.StmtNode.{StmtNode}

-- the row of a number, from 0; after the last one rows are empty
abbrev pub row_at : List (List EditableNode) → ℕ → List EditableNode
row_at rows n = slice_index_or rows n []

-- the row of a number with one node more, if it is of the statement of this number
abbrev pub with_node : List EditableNode → ℕ → StmtNode → List EditableNode
with_node row n found = if found.stmt.0 == n then row ++ found.node ∷ [] else row
