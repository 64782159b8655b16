use Rattle.std.proofs.Common.{ℕ, ◌≤◌, length, take}
use Rattle.ba_code.specs.State.{operand_value}
use Rattle.ba_inline.specs.Flags.{MakesFlags}
use Rattle.ba_inline.specs.Labels.{tests_of}
use Rattle.ba_inline.specs.Names.{IsBelow}
use Rattle.ba_inline.proofs.labels.tests.Given as goal

abbrev pub invariant-loop-start : goal.invariant-loop-start
invariant-loop-start l = (base : ℕ) → base ≤ length l.fn.declared.vars → IsBelow (length
    l.fn.declared.vars) l.a
    → MakesFlags (λ s. tests_of (take l.start-index l.labels.starts.now) (operand_value s l.a)) base
    l.tests.items
    l.fn.declared l.declared l.fn.out.items l.out.items
