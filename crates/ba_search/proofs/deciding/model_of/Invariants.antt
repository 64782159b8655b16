use Rattle.std.proofs.Common.{◌≡◌}
use Rattle.ba_search.specs.Values.{values_of}
use Rattle.ba_search.proofs.deciding.model_of.Given as goal

abbrev pub invariant-loop-place : goal.invariant-loop-place
invariant-loop-place l = l.values.items ≡ values_of l.watch.trail l.place
