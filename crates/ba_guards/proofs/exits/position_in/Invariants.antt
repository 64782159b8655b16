use Rattle.std.proofs.Common.{◌≡◌, drop}
use Rattle.ba_guards.specs.Continuing.{exit_from, exit_of, labels_of}
use Rattle.ba_guards.proofs.exits.position_in.Given as goal

abbrev pub invariant-loop-index : goal.invariant-loop-index
invariant-loop-index l = exit_of (labels_of l.exits) l.label ≡ exit_from l.index l.found l.label (drop
    l.index (labels_of l.exits))
