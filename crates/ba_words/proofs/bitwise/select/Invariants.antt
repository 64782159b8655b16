use Rattle.std.proofs.Common.{◌+◌, ◌*◌, ◌≤◌, if◌then◌else◌}
use Rattle.ba_nodes.specs.Gates.{truth, Grows}
use Rattle.ba_words.specs.Words.{low_number}
use Rattle.ba_words.proofs.Circuits.{LowIs}
use Rattle.ba_words.proofs.bitwise.select.Given as goal

abbrev pub invariant-loop-i : goal.invariant-loop-i
invariant-loop-i l = record {
  grows : Grows l.initial.nodes l.nodes (3 * l.i);
  number : LowIs l.nodes l.word l.i (λ free. if truth free l.initial.nodes l.which then low_number free l.initial.nodes l.yes l.i else low_number free l.initial.nodes l.no l.i);
}
