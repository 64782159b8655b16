use Rattle.std.proofs.Common.{◌≡◌, ℕ, zero, suc, ◌-◌, ◌<◌, ◌≤◌, length, List, [], map, get_or, Bor, ap, sym, ◌∙◌, arith}
use Rattle.std.proofs.lemmas.List.{get_or-map}
use Rattle.ba_report.specs.Lines.{line_at}
use Rattle.ba_report.proofs.lines.Lines.at.Goals as goal

-- a line that stands one place below its number is the line of that number
line_read : (lines : List (Bor (List ℕ))) (number : ℕ) (line : Bor (List ℕ)) → 0 < number →
    number ≤ length lines
    → line ≡ get_or lines (number - 1) line → line.now
    ≡ line_at (map (λ (l : Bor (List ℕ)). l.now) lines) number
line_read lines zero line some within is = absurd (omega arith)
line_read lines (suc n) line some within is =
    let below : n < length lines = omega arith in
    let place : suc n - 1 ≡ n = omega arith in
    ap (λ (l : Bor (List ℕ)). l.now) (is ∙ ap (λ k. get_or lines k line) place)
    ∙ sym (get_or-map (λ (l : Bor (List ℕ)). l.now) lines n line [] below)

pub returns-then-count-len : goal.returns-then-count-len
returns-then-count-len c =
    let within : c.args.number ≤ length c.self.inside.lines.items = omega arith in
    line_read c.self.inside.lines.items c.args.number c.index.result.now c.if-count-gt0.true within
    c.index.ensures
    ∙ ap (λ lines. line_at lines c.args.number) c.self.view_is
