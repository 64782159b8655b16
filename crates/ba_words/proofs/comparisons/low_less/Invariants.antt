use Rattle.std.proofs.Common.{◌+◌, ◌*◌, ◌≤◌, nat_lt}
use Rattle.ba_nodes.specs.Gates.{Grows, HasValue}
use Rattle.ba_words.specs.Words.{low_number}
use Rattle.ba_words.proofs.comparisons.low_less.Given as goal

abbrev pub invariant-loop-i : goal.invariant-loop-i
invariant-loop-i l = record {
  grows : Grows l.fn.nodes l.nodes (3 * l.i);
  value : HasValue l.nodes l.below (λ free. nat_lt (low_number free l.fn.nodes l.a l.i) (low_number free l.fn.nodes l.b l.i));
}
