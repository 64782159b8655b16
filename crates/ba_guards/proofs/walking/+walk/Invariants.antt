use Rattle.std.proofs.Common.{◌≡◌, ℕ, true, take}
use Rattle.std.specs.List.{list_all}
use Rattle.ba_code.specs.Facts.{is_array_info}
use Rattle.ba_code_laws.specs.Tracing.{trace_nodes}
use Rattle.ba_guards.specs.Making.{AreFit, Fits, Means}
use Rattle.ba_guards.specs.Parts.{declared}
use Rattle.ba_guards.proofs.walking.+walk.Given as goal

abbrev pub invariant-guard_nodes-loop-node : goal.invariant-guard_nodes-loop-node
invariant-guard_nodes-loop-node l = (vars : ℕ) → list_all is_array_info l.arrays ≡ true
    → Fits (declared vars l.arrays) l.initial.b → AreFit (declared vars l.arrays) l.nodes
    → Means (declared vars l.arrays) (λ f r. trace_nodes r l.arrays (take l.node-index l.nodes))
    l.initial.b l.b
