use Rattle.std.proofs.Common.{length}
use Rattle.ba_search.specs.Iterations.{MarksOnly}
use Rattle.ba_search.proofs.reduction.unmark_reasons.Given as goal

abbrev pub invariant-loop-place : goal.invariant-loop-place
invariant-loop-place l = MarksOnly l.watch l.place (length l.watch.reasons) l.marks.items
