use Rattle.std.proofs.Common.{◌≡◌}
use Rattle.ba_tree.specs.Run.{bind_all}
use Rattle.ba_interp.proofs.frames.bind_all.Given as goal

abbrev pub invariant-loop-param : goal.invariant-loop-param
invariant-loop-param l =
    bind_all l.params l.arguments l.initial.machine ≡ bind_all l.param-iterator.a.rest.now
    l.param-iterator.b.rest.now l.machine
