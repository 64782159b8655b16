use Rattle.std.proofs.Common.{◌≡◌, ◌++◌, replicate}
use Rattle.ba_encode.proofs.softs.add_gap.Given as goal

abbrev pub invariant-loop : goal.invariant-loop
invariant-loop l = l.softs.items ≡ l.initial.softs.items ++ replicate l.counter (l.lit, 0)
