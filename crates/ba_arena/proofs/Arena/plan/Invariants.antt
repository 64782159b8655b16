use Rattle.std.proofs.Common.{length}
use Rattle.ba_arena.proofs.Planning.{IsPlanning, left}
use Rattle.ba_arena.proofs.Arena.plan.Given as goal

abbrev pub invariant-loop-next : goal.invariant-loop-next
invariant-loop-next l = IsPlanning l.initial.self l.self l.place l.next

abbrev pub decreases-loop-next : goal.decreases-loop-next
decreases-loop-next l = left (length l.initial.self) l.next
