use Rattle.std.proofs.Common.{◌+◌, ◌≤◌}
use Rattle.ba_nodes.specs.Gates.{Grows}
use Rattle.ba_words.specs.Words.{low_number}
use Rattle.ba_words.proofs.Circuits.{LowIs}
use Rattle.ba_muldiv.proofs.division.bounded.Given as goal

abbrev pub invariant-loop-place : goal.invariant-loop-place
invariant-loop-place l = record {
  grows : Grows l.fn.nodes l.nodes l.place;
  number : LowIs l.nodes l.out l.place (λ free. low_number free l.fn.nodes l.word l.place);
}
