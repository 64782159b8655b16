use Rattle.std.proofs.Common.{◌≡◌, ◌+◌, ◌-◌, ℕ, length}
use Rattle.ba_repair.specs.Rows.{row_at}
use Rattle.ba_repair.proofs.RowForms.{seen}
use Rattle.ba_repair.proofs.rows.Rows.reach.Given as goal

abbrev pub invariant-loop-alloc : goal.invariant-loop-alloc
invariant-loop-alloc l = (n : ℕ) → row_at (seen l.self-inside.rows.items) n ≡ row_at l.fn.self n

abbrev pub decreases-loop-alloc : goal.decreases-loop-alloc
decreases-loop-alloc l = l.number + 1 - length l.self-inside.rows.items
