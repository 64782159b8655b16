use Rattle.std.proofs.Common.{ℕ, ◌≤◌, ◌∷◌, length, take}
use Rattle.ba_inline.proofs.EntrySteps.{Joined}
use Rattle.ba_inline.specs.Flags.{AreBetween}
use Rattle.ba_inline.proofs.labels.joined.Given as goal

abbrev pub invariant-loop-index : goal.invariant-loop-index
invariant-loop-index l = (base : ℕ) → base ≤ length l.fn.declared.vars
    → AreBetween base (length l.fn.declared.vars) (l.fn.before ∷ l.none ∷ l.tests)
    → Joined base l.place l.tests l.none l.fn.before (take l.index l.labels.starts.now) l.flag
    l.fn.declared l.declared l.fn.out.items l.out.items
