use Rattle.std.proofs.Common.{◌≡◌, ℕ, ◌<◌, ◌≤◌, false, is_none}
use Rattle.ba_watch.specs.Trails.{value_of}
use Rattle.ba_lits.specs.Literals.{positive}
use Rattle.ba_search.proofs.order.first_unassigned.Given as goal

abbrev pub invariant-loop-variable : goal.invariant-loop-variable
invariant-loop-variable l = (v : ℕ) → 1 ≤ v → v < l.variable →
    is_none (value_of l.watch.trail (positive v)) ≡ false
