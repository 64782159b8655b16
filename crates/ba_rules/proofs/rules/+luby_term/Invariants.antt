use Rattle.std.proofs.Common.{◌≤◌, ◌-◌}
use Rattle.ba_rules.proofs.Powers.{IsPower}
use Rattle.ba_rules.proofs.rules.+luby_term.Given as goal

abbrev pub decreases-luby_term : goal.decreases-luby_term
decreases-luby_term l = l.number

-- half is a power of two up to the number
abbrev pub invariant-loop-half : goal.invariant-loop-half
invariant-loop-half l = record { power : IsPower l.half; positive : 1 ≤ l.half; within : l.half ≤ l.number }

abbrev pub decreases-loop-half : goal.decreases-loop-half
decreases-loop-half l = l.number - l.half
