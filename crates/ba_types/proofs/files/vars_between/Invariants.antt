use Rattle.std.proofs.Common.{◌≡◌, ◌-◌, ◌++◌}
use Rattle.ba_typing.specs.Files.{vars_from}
use Rattle.ba_types.proofs.files.vars_between.Given as goal

abbrev pub invariant-loop-n : goal.invariant-loop-n
invariant-loop-n l = l.vars.items ++ vars_from l.n (l.high - l.n) ≡ vars_from l.low (l.high - l.low)
