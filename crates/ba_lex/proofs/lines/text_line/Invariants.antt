use Rattle.std.proofs.Common.{◌≡◌, ◌≤◌, length, drop}
use Rattle.ba_lex.specs.Storage.{reading_so_far}
use Rattle.ba_lex.specs.declared.lines.TheConstants.{MAX_TOKENS}
use Rattle.ba_lex.proofs.lines.text_line.Given as goal

abbrev pub invariant-loop-piece : goal.invariant-loop-piece
invariant-loop-piece l = record {
  whole : reading_so_far l.macros l.out.items (drop l.piece-index l.line) ≡ reading_so_far l.macros l.initial.out.items l.line;
  room : length l.out.items ≤ MAX_TOKENS;
}
