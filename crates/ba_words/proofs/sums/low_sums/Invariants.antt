use Rattle.std.proofs.Common.{◌-◌, ◌*◌}
use Rattle.ba_nodes.specs.Gates.{Grows}
use Rattle.ba_words.specs.Words.{AddUp}
use Rattle.ba_words.proofs.sums.low_sums.Given as goal

abbrev pub invariant-loop-i : goal.invariant-loop-i
invariant-loop-i l = record {
  grows : Grows l.initial.nodes l.nodes (9 * (l.i - l.from));
  sums : AddUp l.initial.nodes l.a l.b l.initial.carried l.from l.nodes l.sums l.carried l.i;
}
