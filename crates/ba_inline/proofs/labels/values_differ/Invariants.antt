use Rattle.std.proofs.Common.{◌≡◌, drop}
use Rattle.ba_inline.proofs.Entering.{values_of}
use Rattle.ba_tree.specs.Facts.{values_differ}
use Rattle.ba_inline.proofs.labels.values_differ.Given as goal

abbrev pub invariant-loop-place : goal.invariant-loop-place
invariant-loop-place l = values_differ (values_of l.starts) ≡ values_differ (values_of (drop l.place
    l.starts))
