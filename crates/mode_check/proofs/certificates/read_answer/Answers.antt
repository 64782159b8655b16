use Rattle.std.proofs.Common.{Err, inr, subst}
use Rattle.ba_check.specs.Answers.{Tells}
use Rattle.ba_check.specs.Findings.{finding_of}
use Rattle.ba_check.specs.Readers.{seen}
use Rattle.ba_check.specs.declared.error.CheckError.{CheckError}
use Rattle.mode_check.proofs.Feeding.{accepted_by, refused_by}
use Rattle.mode_check.proofs.certificates.read_answer.Goals as goal

pub returns-in-Ok : goal.returns-in-Ok
returns-in-Ok g c = λ j old new fed faithful. accepted_by j old new (seen g.J.RunJudge.accepts c.args.confirm)
    c.in-Ok.confirmed
    c.claim_of.result fed (c.in-Ok.ensures.answers j.head j.problem fed.text fed.read).exactly
    ((c.in-Ok.ensures.answers j.head j.problem fed.text fed.read).truly j.weights faithful)
    c.claim_of.ensures

pub returns-in-Err-Line : goal.returns-in-Err-Line
returns-in-Err-Line g c = λ j old new fed faithful. inr (refused_by j c.in-Err-Line.line c.in-Err-Line.code
    old new
    (seen g.J.RunJudge.accepts c.args.confirm) fed
    (subst (λ (e : CheckError). Tells (Err e) (finding_of j.head j.problem fed.text))
    c.in-Err-Line.field-0-is (c.in-Err-Line.ensures.answers j.head j.problem fed.text fed.read).exactly))
