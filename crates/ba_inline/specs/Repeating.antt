-- The code of a loop.

use Rattle.std.specs.Prelude.{ℕ, Bool, List, []}
use Rattle.ba_code.specs.declared.nodes.Node.{Node}
use Rattle.ba_code.specs.declared.nodes.Operand.TheVariants.{Var}
use Rattle.ba_inline.specs.Adding.{block_act, loop_act}
use Rattle.ba_inline.specs.Making.{Adds}
use Rattle.ba_inline.specs.Parts.{LoopParts}
use Rattle.ba_numbers.specs.declared.ids.StmtId.{StmtId}
use Rattle.ba_tree.specs.declared.tree.Expr.{Expr}
use Rattle.ba_tree.specs.declared.tree.Stmt.{Stmt}

-- the parts of a loop
abbrev pub parts_of : Bool → StmtId → Expr → Stmt → List Stmt → LoopParts
parts_of after stmt when body step = record { after = after; stmt = stmt; when = when; body = body; step = step }

-- a loop is appended, in a block that a `break` leaves; its body is in a block that a `continue` leaves
pub record AddsLoop (after : Bool) (stmt : StmtId) (to : ℕ) (heads bodies steps old new : List Node) :
    Type 0 where
  pub turned : List Node
  pub loops : List Node
  pub turn : Adds [] turned (block_act 2 bodies)
  pub whole : Adds [] loops (loop_act after heads (Var to) turned steps stmt)
  pub outer : Adds old new (block_act 1 loops)
