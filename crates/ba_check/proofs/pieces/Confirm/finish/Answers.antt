use Rattle.std.proofs.Common.{Err, subst}
use Rattle.ba_check.specs.Answers.{Tells}
use Rattle.ba_check.specs.Findings.{finding_by}
use Rattle.ba_check.specs.Readers.{seen}
use Rattle.ba_check.proofs.CodeLaws.{end-tells, refusal-tells}
use Rattle.ba_check.proofs.TruthLaws.{answered}
use Rattle.ba_check.proofs.pieces.Confirm.finish.Goals as goal

pub returns-in-Some-clause-answers : goal.returns-in-Some-clause-answers
returns-in-Some-clause-answers g c = λ h p text has.
    answered h p text (Err c.in-Some.refusal)
    (refusal-tells h p text (seen g.J.RunJudge.accepts c.args.self) c.in-Some.refusal has c.in-Some.is)

pub returns-clause-answers : goal.returns-clause-answers
returns-clause-answers g c = λ h p text has.
    let reader = seen g.J.RunJudge.accepts c.args.self in
    answered h p text c.finish.result
    (end-tells h p text reader c.finish.result has c.in_default.is
    (subst (λ rest. Tells c.finish.result (finding_by reader.course rest)) c.as_slice.ensures.value
    c.finish.ensures))
