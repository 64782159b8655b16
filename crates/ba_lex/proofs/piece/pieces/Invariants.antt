use Rattle.std.proofs.Common.{◌≡◌, ◌+◌, ◌≤◌, ◌++◌, length}
use Rattle.ba_lex.specs.Pieces.{cut, pieces_of}
use Rattle.ba_lex.proofs.piece.pieces.Given as goal

abbrev pub invariant-loop-rest : goal.invariant-loop-rest
invariant-loop-rest l = record {
  whole : l.pieces.items ++ cut l.at 0 l.rest ≡ pieces_of l.text;
  short : length l.rest ≤ length l.text;
  column : 1 ≤ l.at.column;
  room : l.at.line + l.at.column + length l.rest ≤ length l.text + 2;
}

abbrev pub decreases-loop-rest : goal.decreases-loop-rest
decreases-loop-rest l = length l.rest
