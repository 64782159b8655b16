use Rattle.std.proofs.Common.{◌≡◌, ◌∷◌, map, take}
use Rattle.ba_learn.specs.Resolving.{negated_at}
use Rattle.ba_learn.proofs.resolution.Resolution.clause.Given as goal

abbrev pub invariant-loop-place : goal.invariant-loop-place
invariant-loop-place l = l.lits.items ≡ l.fn.lead
    ∷ map (negated_at l.watch) (take l.place-index l.place-items)
