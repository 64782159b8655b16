use Rattle.std.proofs.Common.{◌-◌, ◌*◌, ◌==◌}
use Rattle.ba_nodes.specs.Gates.{Grows, HasValue}
use Rattle.ba_words.specs.Words.{low_number}
use Rattle.ba_words.proofs.comparisons.equal.Given as goal

abbrev pub invariant-loop-i : goal.invariant-loop-i
invariant-loop-i l = record {
  grows : Grows l.fn.nodes l.nodes (4 * l.i - 1);
  value : HasValue l.nodes l.same (λ free. low_number free l.fn.nodes l.a l.i == low_number free l.fn.nodes l.b l.i);
}
