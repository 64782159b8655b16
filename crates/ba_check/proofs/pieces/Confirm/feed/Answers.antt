use Rattle.std.proofs.Common.{◌++◌, refl, subst}
use Rattle.ba_check.specs.Findings.{after_lines}
use Rattle.ba_check.specs.Readers.{seen}
use Rattle.ba_check.specs.Readings.{KeepsWith}
use Rattle.ba_check.proofs.CodeLaws.{piece-read, refusal-stays, rest-read}
use Rattle.ba_check.proofs.pieces.Confirm.feed.Goals as goal

pub returns-in-Some-clause-reads : goal.returns-in-Some-clause-reads
returns-in-Some-clause-reads g c = λ h p text has.
    refusal-stays h p text c.args.piece.now (seen g.J.RunJudge.accepts c.args.self.now) c.in-Some.refusal has c.in-Some.is

pub returns-clause-reads : goal.returns-clause-reads
returns-clause-reads g c = λ h p text has.
    let old = seen g.J.RunJudge.accepts c.args.self.now in
    let piece = c.args.piece.now in
    let new = c.take-answer.new.self in
    piece-read h p text piece old old.head old.good new.checked new.rest.items c.refusal_of-self.result has
    c.in_default.is refl refl
    (subst (λ answer. KeepsWith answer new.checked new.rest.items (after_lines old.head old.good old.course)
    (old.rest ++ piece))
    c.refusal_of-self.ensures (c.take-answer.ensures (rest-read h p text old has c.in_default.is)))
