use Rattle.std.proofs.Common.{◌≡◌, ℕ, take}
use Rattle.ba_repair.specs.Nodes.{nodes_of}
use Rattle.ba_repair.specs.Rows.{row_at}
use Rattle.ba_repair.proofs.rows.Rows.new.Given as goal

abbrev pub invariant-loop-node : goal.invariant-loop-node
invariant-loop-node l = (n : ℕ) → row_at l.rows n ≡ nodes_of n (take l.node-index l.found)
