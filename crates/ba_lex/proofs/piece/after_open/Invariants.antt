use Rattle.std.proofs.Common.{◌≡◌, ◌+◌, drop}
use Rattle.std.specs.Prelude.{option_map}
use Rattle.ba_lex.specs.Pieces.{after_open}
use Rattle.ba_lex.proofs.piece.after_open.Given as goal

abbrev pub invariant-loop-i : goal.invariant-loop-i
invariant-loop-i l = option_map (λ n. n + l.i) (after_open (drop l.i l.text)) ≡ after_open l.text
