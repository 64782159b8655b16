use Rattle.std.proofs.Common.{◌≡◌, ◌+◌, ◌≤◌, drop}
use Rattle.ba_lex.specs.Pieces.{position_after}
use Rattle.ba_lex.proofs.piece.position_after.Given as goal

abbrev pub invariant-loop-byte : goal.invariant-loop-byte
invariant-loop-byte l = record {
  value : position_after l.here (drop l.byte-index l.piece) ≡ position_after l.fn.at l.piece;
  column : 1 ≤ l.here.column;
  room : l.here.line + l.here.column ≤ l.fn.at.line + l.fn.at.column + l.byte-index;
}
