use Rattle.std.proofs.Common.{◌≡◌, ℕ, ◌<◌, true, Some}
use Rattle.ba_lits.specs.Literals.{lit_at}
use Rattle.ba_watch.specs.Trails.{value_of}
use Rattle.ba_search.proofs.deciding.first_untrue.Given as goal

abbrev pub invariant-loop-lit : goal.invariant-loop-lit
invariant-loop-lit l = (k : ℕ) → k < l.lit-index → value_of l.watch.trail (lit_at l.assumptions k) ≡ Some true
