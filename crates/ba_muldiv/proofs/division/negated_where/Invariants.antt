use Rattle.std.proofs.Common.{◌+◌, ◌*◌, ◌^◌, ◌≤◌}
use Rattle.ba_nodes.specs.Gates.{truth, Grows, HasValue}
use Rattle.ba_words.specs.Words.{low_number}
use Rattle.ba_words.proofs.Circuits.{LowIs}
use Rattle.ba_muldiv.proofs.Steps.{is_turned, low_opposite}
use Rattle.ba_muldiv.proofs.division.negated_where.Given as goal

abbrev pub invariant-loop-place : goal.invariant-loop-place
invariant-loop-place l = record {
  grows : Grows l.fn.nodes l.nodes (6 * l.place);
  turned : HasValue l.nodes l.turned (λ free. is_turned (truth free l.fn.nodes l.negative) (low_number free
      l.fn.nodes l.a l.place));
  number : LowIs l.nodes l.word l.place (λ free. low_opposite (truth free l.fn.nodes l.negative) (2 ^
      l.place) (low_number free l.fn.nodes l.a l.place));
}
