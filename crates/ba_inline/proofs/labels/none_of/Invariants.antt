use Rattle.std.proofs.Common.{ℕ, ◌≤◌, length, map, take}
use Rattle.ba_code.specs.State.{operand_value}
use Rattle.ba_inline.specs.Flags.{AreBetween, IsAny, MakesFrom}
use Rattle.ba_inline.proofs.labels.none_of.Given as goal

abbrev pub invariant-loop-flag : goal.invariant-loop-flag
invariant-loop-flag l = (base : ℕ) → base ≤ length l.fn.declared.vars
    → AreBetween base (length l.fn.declared.vars) l.flags
    → MakesFrom (λ s u. IsAny (map (operand_value s) (take l.flag-index l.flags)) (operand_value u l.any))
    base l.any
    l.fn.declared l.declared l.fn.out.items l.out.items
