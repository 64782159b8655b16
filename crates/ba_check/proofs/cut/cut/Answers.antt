use Rattle.std.proofs.Common.{◌+◌, take, sym, ◌∙◌, subst}
use Rattle.std.proofs.lemmas.List.{take_rest}
use Rattle.ba_check.specs.Lines.{IsCut}
use Rattle.ba_check.proofs.CodeLaws.{cut-none, cut-some}
use Rattle.ba_check.proofs.cut.cut.Goals as goal

pub returns-in-Some : goal.returns-in-Some
returns-in-Some c =
    let bytes = c.args.bytes.now in
    let place = c.in-Some.place in
    subst (IsCut bytes (take place bytes)) (sym (take_rest bytes (place + 1)))
    (cut-some bytes place (sym c.feed_in.ensures.place ∙ c.in-Some.is))

pub returns-in-None : goal.returns-in-None
returns-in-None c = cut-none c.args.bytes.now (sym c.feed_in.ensures.place ∙ c.in-None.is)
