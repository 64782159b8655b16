use Rattle.std.proofs.Common.{◌≡◌, ◌∷◌, IfOk, false, take, arith, sym, ap, subst, ◌∙◌}
use Rattle.std.specs.Prelude.{◌==◌}
use Rattle.std.proofs.lemmas.Bool.Decides.{nat_tests}
use Rattle.ba_lex.specs.Pieces.{word_at, number_at}
use Rattle.ba_lex.proofs.CutLemmas.{front_taken, piece_at-letter, piece_at-digit}
use Rattle.ba_lex.proofs.piece.piece_at.Goals as goal

pub returns-then-is_letter-clause-value : goal.returns-then-is_letter-clause-value
returns-then-is_letter-clause-value c =
    let b = c.args.first in
    let bs = c.args.rest.now in
    let hash : (b == 35) ≡ false = grind (arith, nat_tests) in
    let taken = front_taken c.args.text.now b c.word_count.result bs c.requires.parts in
    let counted = ap (λ n. word_at (b ∷ take n bs)) c.word_count.ensures.count in
    let is = piece_at-letter b bs (sym c.is_line_end.ensures ∙ c.if-is_line_end.false) (sym c.is_blank.ensures ∙ c.if-is_blank.false) hash (sym c.is_letter.ensures ∙ c.if-is_letter.true) in
    subst (λ piece. IfOk c.word_at.result (λ found. found ≡ piece)) (ap word_at taken ∙ counted ∙ sym is)
    c.word_at.ensures.value

pub returns-then-is_ascii_digit-clause-value : goal.returns-then-is_ascii_digit-clause-value
returns-then-is_ascii_digit-clause-value c =
    let b = c.args.first in
    let bs = c.args.rest.now in
    let hash : (b == 35) ≡ false = grind (arith, nat_tests) in
    let taken = front_taken c.args.text.now b c.number_count.result bs c.requires.parts in
    let counted = ap (λ n. number_at (b ∷ take n bs)) c.number_count.ensures.count in
    let is = piece_at-digit b bs (sym c.is_line_end.ensures ∙ c.if-is_line_end.false) (sym c.is_blank.ensures ∙ c.if-is_blank.false) hash (sym c.is_letter.ensures ∙ c.if-is_letter.false) (sym c.is_ascii_digit.ensures.value ∙ c.if-is_ascii_digit.true) in
    c.number_at.ensures.value ∙ ap number_at taken ∙ counted ∙ sym is
