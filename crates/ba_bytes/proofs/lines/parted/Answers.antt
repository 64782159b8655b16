use Rattle.std.proofs.Common.{◌+◌, ◌∷◌, take, sym, ap, ◌∙◌}
use Rattle.std.proofs.lemmas.List.{take_rest}
use Rattle.ba_bytes.specs.Lines.{lines_of}
use Rattle.ba_bytes.proofs.TextLines.{lines-none, lines-some}
use Rattle.ba_bytes.proofs.lines.parted.Goals as goal

pub returns-in-Some : goal.returns-in-Some
returns-in-Some c =
    let text = c.args.text.now in
    lines-some text c.in-Some.place (sym c.feed_in.ensures.place ∙ c.in-Some.is)
    ∙ ap (λ rest. take c.in-Some.place text ∷ lines_of rest) (sym (take_rest text (c.in-Some.place + 1)))

pub returns-in-None : goal.returns-in-None
returns-in-None c = lines-none c.args.text.now (sym c.feed_in.ensures.place ∙ c.in-None.is)
