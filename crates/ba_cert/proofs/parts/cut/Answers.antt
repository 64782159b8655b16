use Rattle.std.proofs.Common.{◌∷◌, ◌+◌, take, sym, ap, ◌∙◌}
use Rattle.std.proofs.lemmas.List.{take_rest}
use Rattle.ba_cert.specs.Reading.{parts_of}
use Rattle.ba_cert.proofs.CutLaws.{cut-space, cut-none}
use Rattle.ba_cert.proofs.parts.cut.Goals as goal

pub returns-in-Some : goal.returns-in-Some
returns-in-Some c =
    let line = c.args.line.now in
    let place = c.in-Some.place in
    cut-space line place (sym c.space_in.ensures.place ∙ c.in-Some.is)
    ∙ ap (λ rest. take place line ∷ parts_of rest) (sym (take_rest line (place + 1)))
    ∙ ap (λ parts. take place line ∷ parts) (sym c.new.ensures)

pub returns-in-None : goal.returns-in-None
returns-in-None c = cut-none c.args.line.now (sym c.space_in.ensures.place ∙ c.in-None.is)
