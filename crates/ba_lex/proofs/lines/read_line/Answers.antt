use Rattle.std.proofs.Common.{◌≡◌, ◌<◌, ◌∷◌, true, List, length, get_or, take, drop, ◌-◌, sym, ap, subst, ◌∙◌}
use Rattle.std.proofs.lemmas.Result.{IfErr-weaker, err_from_is_err_and}
use Rattle.ba_lex.specs.Lines.{answer, begins_directive, only_tokens, directive, sequence, is_hash, reading, Fails, Gives}
use Rattle.ba_lex.specs.declared.piece.Piece.{Piece}
use Rattle.ba_lex.proofs.LineLemmas.{text_fails, text_goes_on, directive_fails, directive_goes_on, err_gives, first_of, rest_taken}
use Rattle.ba_lex.proofs.lines.read_line.Goals as goal

pub returns-then-begins_directive-clause-err : goal.returns-then-begins_directive-clause-err
returns-then-begins_directive-clause-err c =
    let table = c.args.macros in
    let out = c.args.out.now.items in
    let p = get_or c.args.line.now 0 c.index-line-0.result in
    let ps = drop 1 c.args.line.now in
    let some : 0 < length c.args.line.now = c.begins_directive.ensures.some c.if-begins_directive.true in
    let line = first_of c.args.line.now c.index-line-0.result some in
    let hash : is_hash p.form ≡ true = ap begins_directive (sym line) ∙ sym c.begins_directive.ensures.value ∙ c.if-begins_directive.true in
    let rest = rest_taken c.args.line.now 1 in
    IfErr-weaker c.directive.result _ _
    (λ e fails lines. subst (λ (l : List Piece). Fails e (answer (sequence (only_tokens out) (reading table (l ∷ lines))))) (sym line)
    (directive_fails table out p ps lines e c.requires hash (subst (λ (l : List Piece). Fails e (directive table p.at l)) rest fails)))
    (err_gives (λ m. m) c.directive.result (directive table p.at (take (length c.args.line.now - 1) ps)) c.directive.ensures)

pub returns-in_err-text_line-clause-err : goal.returns-in_err-text_line-clause-err
returns-in_err-text_line-clause-err c =
    let q = err_from_is_err_and c.from_residual.result c.from_residual.ensures.1 in
    let text = sym c.begins_directive.ensures.value ∙ c.if-begins_directive.false in
    rw (q.1, q.2) (λ lines. text_fails c.args.macros c.args.out.now.items c.args.line.now lines c.in_err-text_line.field-0.0 text c.in_err-text_line.ensures.err)

pub returns-then-begins_directive-clause-ok : goal.returns-then-begins_directive-clause-ok
returns-then-begins_directive-clause-ok c =
    let table = c.args.macros in
    let p = get_or c.args.line.now 0 c.index-line-0.result in
    let some : 0 < length c.args.line.now = c.begins_directive.ensures.some c.if-begins_directive.true in
    let line = first_of c.args.line.now c.index-line-0.result some in
    directive_goes_on table c.args.out.now.items c.args.line.now p (drop 1 c.args.line.now) c.directive.result
    line (ap begins_directive (sym line) ∙ sym c.begins_directive.ensures.value ∙ c.if-begins_directive.true)
    (subst (λ (l : List Piece). Gives (λ m. m) c.directive.result (directive table p.at l))
    (rest_taken c.args.line.now 1) c.directive.ensures)

pub returns-clause-ok : goal.returns-clause-ok
returns-clause-ok c =
    text_goes_on c.args.macros c.args.out.now.items c.text_line.new.out.items c.args.line.now
    (sym c.begins_directive.ensures.value ∙ c.if-begins_directive.false) c.in_ok-text_line.ensures.ok.0
