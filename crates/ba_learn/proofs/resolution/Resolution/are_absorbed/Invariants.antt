use Rattle.std.proofs.Common.{ℕ, ◌<◌}
use Rattle.ba_lits.specs.Literals.{lit_at}
use Rattle.ba_watch.specs.Propagation.{lits_in}
use Rattle.ba_learn.specs.Resolving.{is_seen, IsAbsorbed}
use Rattle.ba_learn.proofs.resolution.Resolution.are_absorbed.Given as goal

abbrev pub invariant-loop-index : goal.invariant-loop-index
invariant-loop-index l = (k : ℕ) → k < l.index →
    IsAbsorbed l.watch (is_seen l.self) (lit_at (lits_in l.watch.clauses l.clause) k)
