use Rattle.std.proofs.Common.{◌≡◌, drop, length}
use Rattle.ba_checker.specs.Listed.{firsts, under_any}
use Rattle.ba_checker.proofs.clauses.lists_any.Given as goal

abbrev pub invariant-loop-lit : goal.invariant-loop-lit
invariant-loop-lit l =
    under_any l.store (firsts l.index) l.set (length l.index) (drop l.lit-index l.lits)
    ≡ under_any l.store (firsts l.index) l.set (length l.index) l.lits
