use Rattle.std.proofs.Common.{◌≡◌, ◌+◌, [], ◌∷◌, false, length, drop, take, arith, sym, ap, ◌∙◌}
use Rattle.std.proofs.lemmas.Grind.{common_steps}
use Rattle.std.specs.List.{list_any}
use Rattle.ba_lex.specs.Lines.{is_line_end, lines_of}
use Rattle.ba_lex.proofs.LineLemmas.{lines_of-cut, lines_of-last}
use Rattle.ba_lex.proofs.lines.line_length.Goals as goal

pub returns-then-is_line_end-clause-lines : goal.returns-then-is_line_end-clause-lines
returns-then-is_line_end-clause-lines c =
    lines_of-cut c.args.pieces.now c.loop-i.i c.index-pieces-i.result c.loop-i-test.true c.loop-i.invariant (ap (λ q. is_line_end q.form) (sym c.index-pieces-i.is) ∙ sym c.is_line_end.ensures ∙ c.if-is_line_end.true)

pub returns-clause-lines : goal.returns-clause-lines
returns-clause-lines c =
    let ps = c.args.pieces.now in
    let none : list_any (λ p. is_line_end p.form) ps ≡ false = grind (arith, common_steps) in
    let whole : take (length ps) ps ≡ ps = grind (arith, common_steps) in
    let past : drop (length ps + 1) ps ≡ [] = grind (arith, common_steps) in
    lines_of-last ps c.requires none ∙ ap (λ line. line ∷ []) (sym whole) ∙ ap (λ rest. take (length ps) ps ∷ lines_of rest) (sym past)
