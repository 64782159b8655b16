use Rattle.std.proofs.Common.{◌≡◌, ◌++◌, drop}
use Rattle.ba_tree.specs.Inputs.{types_for}
use Rattle.ba_inputs.proofs.input.types_for.Given as goal

abbrev pub invariant-loop-param : goal.invariant-loop-param
invariant-loop-param l =
    types_for l.program l.params ≡ l.types.items ++ types_for l.program (drop l.param-index l.params)
