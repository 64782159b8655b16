use Rattle.std.proofs.Common.{◌≡◌, ◌-◌, ◌≤◌, [], length, drop}
use Rattle.ba_lex.specs.Lines.{answer, only_tokens, sequence, max_tokens, lines_of, reading}
use Rattle.ba_lex.proofs.read_lines.Given as goal

abbrev pub invariant-loop-from : goal.invariant-loop-from
invariant-loop-from l = record {
  whole : answer (sequence (only_tokens l.out.items) (reading l.macros (lines_of (drop l.from l.pieces)))) ≡ answer (reading [] (lines_of l.pieces));
  room : length l.out.items ≤ max_tokens;
}

abbrev pub decreases-loop-from : goal.decreases-loop-from
decreases-loop-from l = length l.pieces - l.from
