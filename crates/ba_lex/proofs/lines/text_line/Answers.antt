use Rattle.std.proofs.Common.{◌≡◌, ◌+◌, ◌∷◌, List, length, drop, Err, arith, sym, ap, ◌∙◌}
use Rattle.std.proofs.lemmas.List.{at_drop_more}
use Rattle.std.proofs.lemmas.Result.{err_from_is_err_and}
use Rattle.ba_lex.specs.Storage.{reading_so_far}
use Rattle.ba_lex.specs.Lines.{answer, Fails}
use Rattle.ba_lex.specs.declared.piece.Piece.{Piece}
use Rattle.ba_lex.specs.declared.piece.Form.{Form}
use Rattle.ba_lex.proofs.LineLemmas.{fails_from, fails_or_memory, reading_so_far-fault, reading_so_far-many}
use Rattle.ba_lex.proofs.lines.text_line.Goals as goal

pub returns-in-Some-clause-err : goal.returns-in-Some-clause-err
returns-in-Some-clause-err c =
    let table = c.args.macros.now in
    let out = c.loop-piece.out.items in
    let i = c.loop-piece.piece-index in
    let line = c.args.line.now in
    let p = c.piece-item.result in
    let left = λ (ps : List Piece). answer (reading_so_far table out ps) in
    let is : answer (reading_so_far table c.args.out.now.items line) ≡ Err c.in-Some.fault =
    ap answer (sym c.loop-piece.invariant.whole)
    ∙ at_drop_more left line i p c.loop-piece-test.true
    ∙ ap (λ (q : Piece). left (q ∷ drop (i + 1) line)) (sym c.piece-item.is)
    ∙ reading_so_far-fault table out (drop (i + 1) line) c.loop-piece.invariant.room p.form p.at c.in-Some.fault (sym c.fault_of.ensures ∙ c.in-Some.is) in
    fails_from c.in-Some.fault _ is

pub returns-in_err-push_tokens-clause-err : goal.returns-in_err-push_tokens-clause-err
returns-in_err-push_tokens-clause-err c =
    let table = c.args.macros.now in
    let out = c.loop-piece.out.items in
    let i = c.loop-piece.piece-index in
    let line = c.args.line.now in
    let p = c.piece-item.result in
    let left = λ (ps : List Piece). answer (reading_so_far table out ps) in
    let e = c.in_err-push_tokens.field-0.0 in
    let fails : Fails e (answer (reading_so_far table c.args.out.now.items line)) =
    fails_or_memory e p.at _ c.in_err-push_tokens.ensures.err (λ many.
    ap answer (sym c.loop-piece.invariant.whole)
    ∙ at_drop_more left line i p c.loop-piece-test.true
    ∙ ap (λ (q : Piece). left (q ∷ drop (i + 1) line)) (sym c.piece-item.is)
    ∙ ap (λ (f : Form). left (record { form = f; at = p.at } ∷ drop (i + 1) line)) c.in-Token.is
    ∙ reading_so_far-many table out (drop (i + 1) line) c.loop-piece.invariant.room c.in-Token.kind p.at
    (let same = ap length c.replacement.ensures in omega (arith, many, same))) in
    let q = err_from_is_err_and c.from_residual.result c.from_residual.ensures.1 in
    rw (q.1, q.2) fails
