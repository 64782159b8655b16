use Rattle.std.proofs.Common.{◌≡◌, map, take}
use Rattle.ba_learn.specs.Resolving.{number_at}
use Rattle.ba_learn.proofs.resolution.Resolution.hints.Given as goal

abbrev pub invariant-loop-place : goal.invariant-loop-place
invariant-loop-place l = l.hints.items ≡ map (number_at l.watch) (take l.place-index l.place-items)
