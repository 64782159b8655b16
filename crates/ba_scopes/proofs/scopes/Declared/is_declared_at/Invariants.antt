use Rattle.std.proofs.Common.{◌==◌, ℕ}
use Rattle.ba_typing.specs.declared.meanings.Entry.{Entry}
use Rattle.ba_scopes.proofs.Hiding.{Hides, steps_left}
use Rattle.ba_scopes.proofs.scopes.Declared.is_declared_at.Given as goal

abbrev pub invariant-loop-next : goal.invariant-loop-next
invariant-loop-next l = (n : ℕ) × Hides l.self l.fn.within l.name (λ (e : Entry). e.depth == l.depth) l.next
    n

abbrev pub decreases-loop-next : goal.decreases-loop-next
decreases-loop-next l = steps_left l.next
