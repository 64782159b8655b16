use Rattle.std.proofs.Common.{◌≡◌, ◌++◌, ℕ, pos, replicate}
use Rattle.ba_code.specs.declared.nodes.Operand.TheVariants.{Const}
use Rattle.ba_inline.proofs.leaves.filled_up.Given as goal

abbrev pub invariant-loop : goal.invariant-loop
invariant-loop l = (count : ℕ) × (l.filled.items ≡ l.fn.values.items ++ replicate count (Const (pos 0)))
