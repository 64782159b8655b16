use Rattle.std.proofs.Common.{◌≡◌}
use Rattle.ba_tree.specs.Run.{with_input}
use Rattle.ba_interp.proofs.runs.give_input.Given as goal

abbrev pub invariant-loop-param : goal.invariant-loop-param
invariant-loop-param l =
    with_input l.program l.params l.given l.initial.machine
    ≡ with_input l.program l.param-iterator.a.rest.now l.param-iterator.b.rest.now l.machine
