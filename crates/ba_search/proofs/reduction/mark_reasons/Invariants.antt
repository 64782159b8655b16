use Rattle.ba_search.specs.Iterations.{MarksReasons, MarksOnly}
use Rattle.ba_search.proofs.reduction.mark_reasons.Given as goal

abbrev pub invariant-loop-place : goal.invariant-loop-place
invariant-loop-place l = record {
  marked : MarksReasons l.watch l.place l.marks.items;
  only : MarksOnly l.watch 0 l.place l.marks.items;
}
