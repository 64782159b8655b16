use Rattle.std.proofs.Common.{◌≡◌, drop}
use Rattle.ba_lex.specs.Lines.{sequence, only_tokens, line_reading}
use Rattle.ba_lex.proofs.lines.line_tokens.Given as goal

abbrev pub invariant-loop-piece : goal.invariant-loop-piece
invariant-loop-piece l = sequence (only_tokens l.tokens.items) (line_reading (drop l.piece-index l.line)) ≡ line_reading l.line
