use Rattle.std.proofs.Common.{◌∙◌, sym}
use Rattle.mode_check.proofs.Feeding.{unfed_comes}
use Rattle.mode_check.proofs.certificates.file_answer.Goals as goal

pub returns-in-Ok-clause-answer : goal.returns-in-Ok-clause-answer
returns-in-Ok-clause-answer g c = λ j named has faithful.
    c.read_answer.ensures j _ _ (c.in-Ok.ensures.fed j named has) faithful

pub returns-in-Some-clause-answer : goal.returns-in-Some-clause-answer
returns-in-Some-clause-answer g c = λ j named has faithful.
    unfed_comes j c.in-Err.unfed c.in-Some.answer _ _ (c.in-Err.ensures.unfed j named has)
    (sym c.unfed_answer.ensures ∙ c.in-Some.is)
