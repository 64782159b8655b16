use Rattle.std.proofs.Common.{◌-◌, nat_lt}
use Rattle.ba_nodes.specs.Gates.{Grows, HasValue}
use Rattle.ba_words.specs.Words.{low_number}
use Rattle.ba_words.proofs.comparisons.nonzero.Given as goal

abbrev pub invariant-loop-i : goal.invariant-loop-i
invariant-loop-i l = record {
  grows : Grows l.fn.nodes l.nodes (l.i - 1);
  value : HasValue l.nodes l.some (λ free. nat_lt 0 (low_number free l.fn.nodes l.a l.i));
}
