use Rattle.std.proofs.Common.{◌≡◌}
use Rattle.ba_tree.specs.Run.{with_restored}
use Rattle.ba_tree.specs.State.{State}
use Rattle.ba_interp.specs.Frames.{all_taken}
use Rattle.ba_interp.proofs.frames.restore.Given as goal

abbrev pub invariant-loop-var : goal.invariant-loop-var
invariant-loop-var l = (before : State) → l.fn.taken ≡ all_taken before l.fn.vars
    → (l.var-iterator.b.rest.now ≡ all_taken before l.var-iterator.a.rest.now)
    × (with_restored l.fn.vars before l.fn.machine ≡ with_restored l.var-iterator.a.rest.now before l.machine)
