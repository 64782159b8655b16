use Rattle.std.proofs.Common.{◌≡◌, ℕ, Some, length}
use Rattle.ba_arena.specs.Clauses.{IsLive}
use Rattle.ba_arena.proofs.Planning.{left}
use Rattle.solver_tests.proofs.arena.numbers.Given as goal

abbrev pub invariant-loop-next : goal.invariant-loop-next
invariant-loop-next g l = (clause : ℕ) → l.next ≡ Some clause → IsLive l.arena clause

abbrev pub decreases-loop-next : goal.decreases-loop-next
decreases-loop-next g l = left (length l.arena) l.next
