use Rattle.std.proofs.Common.{length}
use Rattle.ba_arena.proofs.Planning.{left}
use Rattle.ba_watch.proofs.Deletions.{IsRelinking}
use Rattle.ba_watch.proofs.deletion.relink.Given as goal

abbrev pub invariant-loop-next : goal.invariant-loop-next
invariant-loop-next l = IsRelinking l.initial.arena l.arena (length l.initial.heads.items) l.heads.items
    l.next

abbrev pub decreases-loop-next : goal.decreases-loop-next
decreases-loop-next l = left (length l.initial.arena) l.next
