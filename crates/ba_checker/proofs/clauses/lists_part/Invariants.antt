use Rattle.std.proofs.Common.{◌≡◌, ◌-◌, ◌<◌, ◌≤◌, length, get_or}
use Rattle.ba_checker.specs.Listed.{firsts, any_listed}
use Rattle.ba_checker.proofs.clauses.lists_part.Given as goal

abbrev pub invariant-loop-next : goal.invariant-loop-next
invariant-loop-next l =
    (l.next ≤ length l.index)
    × (0 < l.next → get_or (firsts l.index) (l.next - 1) 0 ≡ l.key)
    × (any_listed l.store (firsts l.index) l.key l.set l.next
    ≡ any_listed l.store (firsts l.index) l.key l.set (length l.index))

abbrev pub decreases-loop-next : goal.decreases-loop-next
decreases-loop-next l = l.next
