use Rattle.std.proofs.Common.{◌+◌, ◌*◌, ◌%◌, ◌^◌, ◌≤◌}
use Rattle.ba_nodes.specs.Gates.{Grows}
use Rattle.ba_words.specs.Words.{number_of, low_number, HasNumber}
use Rattle.ba_words.proofs.shifts.shl.Given as goal

abbrev pub invariant-loop-level : goal.invariant-loop-level
invariant-loop-level l = record {
  grows : Grows l.fn.nodes l.nodes (96 * l.level);
  number : HasNumber l.nodes l.word (λ free. (number_of free l.fn.nodes l.a * 2 ^ low_number free l.fn.nodes l.count l.level) % 2 ^ 32);
}
