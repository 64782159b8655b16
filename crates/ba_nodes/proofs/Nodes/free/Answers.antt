use Rattle.std.proofs.Common.{◌≡◌, ℕ, List, length, slice_get, Some, Ok, Err, Result, IfOk}
use Rattle.std.specs.declared.alloc.AllocError.{AllocError}
use Rattle.ba_nodes.specs.declared.Bit.{Bit}
use Rattle.ba_nodes.specs.declared.Node.{Node}
use Rattle.ba_nodes.specs.declared.Node.TheVariants.{Free}
use Rattle.ba_nodes.specs.Gates.{node_bit, AreOrdered}
use Rattle.ba_nodes.proofs.Adding.{added_free}
use Rattle.ba_nodes.proofs.Nodes.free.Goals as goal

by_result : (old new : List Node) (result : Result Bit AllocError) → AreOrdered new → IfOk result (λ bit. (number : ℕ) × (bit ≡ node_bit number) × (slice_get new number ≡ Some (Free (length old)))) → IfOk result (λ bit. bit ≡ node_bit (length old))
by_result old new (Ok bit) sound made = added_free old new bit sound made
by_result old new (Err error) sound made = tt

pub returns-clause-bit : goal.returns-clause-bit
returns-clause-bit c =
    by_result c.args.self.now c.add.new.self c.add.result c.add.ensures.ordered (rw (← c.in_ok-number.ensures) c.add.ensures.made)
