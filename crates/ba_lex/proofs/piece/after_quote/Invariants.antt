use Rattle.std.proofs.Common.{◌≡◌, ◌+◌, drop, false}
use Rattle.std.specs.Prelude.{option_map}
use Rattle.ba_lex.specs.Pieces.{after_quote}
use Rattle.ba_lex.proofs.piece.after_quote.Given as goal

abbrev pub invariant-loop-i : goal.invariant-loop-i
invariant-loop-i l = option_map (λ n. n + l.i) (after_quote l.quote l.escaped (drop l.i l.text)) ≡ after_quote l.quote false l.text
