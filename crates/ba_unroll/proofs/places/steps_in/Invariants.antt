use Rattle.std.proofs.Common.{◌≡◌, ◌++◌, drop}
use Rattle.ba_code.specs.Meaning.{filled}
use Rattle.ba_unroll.proofs.places.steps_in.Given as goal

-- what is made so far, and then the rest in the iterations that are left
abbrev pub invariant-loop-step : goal.invariant-loop-step
invariant-loop-step l = l.steps.items ++ filled l.left (drop l.step-index l.path) ≡ filled l.turns l.path
