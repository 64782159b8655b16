use Rattle.std.proofs.Common.{◌≡◌, ◌++◌, drop}
use Rattle.ba_derivations.specs.Derivations.{sets_of}
use Rattle.mode_rank.proofs.searches.sets_of.Given as goal

-- the sets so far and those that are left are the whole
abbrev pub invariant-loop-set : goal.invariant-loop-set
invariant-loop-set l = l.sets ++ sets_of (drop l.set-index l.found) ≡ sets_of l.found
