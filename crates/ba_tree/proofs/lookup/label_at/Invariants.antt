use Rattle.std.proofs.Common.{◌≡◌, drop}
use Rattle.ba_tree.specs.Meaning.{label_at}
use Rattle.ba_tree.proofs.lookup.label_at.Given as goal

abbrev pub invariant-loop-start : goal.invariant-loop-start
invariant-loop-start l = label_at l.starts l.value l.other ≡ label_at (drop l.start-index l.starts) l.value
    l.other
