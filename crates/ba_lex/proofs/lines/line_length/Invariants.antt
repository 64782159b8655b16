use Rattle.std.proofs.Common.{◌≡◌, false, take}
use Rattle.std.specs.List.{list_any}
use Rattle.ba_lex.specs.Lines.{is_line_end}
use Rattle.ba_lex.proofs.lines.line_length.Given as goal

abbrev pub invariant-loop-i : goal.invariant-loop-i
invariant-loop-i l = list_any (λ p. is_line_end p.form) (take l.i l.pieces) ≡ false
