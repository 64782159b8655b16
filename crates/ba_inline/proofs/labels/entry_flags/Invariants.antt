use Rattle.std.proofs.Common.{◌≡◌, ℕ, ◌≤◌, length}
use Rattle.ba_inline.specs.Labels.{MakesEntered}
use Rattle.ba_inline.specs.Names.{IsBelow}
use Rattle.ba_inline.proofs.labels.entry_flags.Given as goal

abbrev pub invariant-loop-place : goal.invariant-loop-place
invariant-loop-place l = (length l.flags.items ≡ l.place)
    × ((base : ℕ) → base ≤ length l.fn.declared.vars → IsBelow (length l.fn.declared.vars) l.fn.a
    → MakesEntered l.labels.starts.now l.labels.other l.fn.a l.place base l.tests.items l.none
    l.flags.items l.flag
    l.fn.declared l.declared l.fn.out.items l.out.items)
