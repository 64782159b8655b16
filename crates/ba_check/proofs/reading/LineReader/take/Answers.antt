use Rattle.std.proofs.Common.{refl}
use Rattle.std.proofs.lemmas.Result.{err_from_is_err_and}
use Rattle.ba_check.specs.Readings.{course_kept}
use Rattle.ba_check.proofs.CodeLaws.{line-more, line-refused, piece-ends}
use Rattle.ba_check.proofs.reading.LineReader.take.Goals as goal

pub returns-in_err-end_line : goal.returns-in_err-end_line
returns-in_err-end_line g c =
    let p = err_from_is_err_and c.from_residual.result c.from_residual.ensures.1 in
    λ plain. rw (p.1, p.2)
    (line-refused c.args.head.now (g.J.RunJudge.accepts c.args.judge.now) (course_kept
    c.args.self.now.checked)
    c.args.self.now.rest.items c.args.piece.now (course_kept c.loop-end.self.checked)
    c.loop-end.self.rest.items
    c.loop-end.left.now (c.loop-end.invariant plain) c.end_line.new.self.checked c.end_line.new.self.checked
    c.end_line.new.self.rest.items c.in-Some.end.now
    c.in-Some.behind.now _ c.in-Some.ensures c.in_err-end_line.ensures.keeps)

pub loop-end-preserved : goal.loop-end-preserved
loop-end-preserved g c = λ plain.
    line-more c.args.head.now (g.J.RunJudge.accepts c.args.judge.now) (course_kept c.args.self.now.checked)
    c.args.self.now.rest.items c.args.piece.now (course_kept c.loop-end.self.checked)
    c.loop-end.self.rest.items
    c.loop-end.left.now (c.loop-end.invariant plain) (course_kept c.end_line.new.self.checked)
    c.end_line.new.self.rest.items c.in-Some.end.now c.in-Some.behind.now c.in-Some.ensures
    c.in_ok-end_line.ensures.empty c.in_ok-end_line.ensures.keeps

pub returns : goal.returns
returns g c = λ plain.
    piece-ends c.args.head.now (g.J.RunJudge.accepts c.args.judge.now) (course_kept c.args.self.now.checked)
    c.args.self.now.rest.items c.args.piece.now (course_kept c.loop-end.self.checked)
    c.loop-end.self.rest.items
    c.loop-end.left.now (c.loop-end.invariant plain) c.loop-end.self.checked
    c.extend_from_slice.new.self.items refl
    c.in_ok-extend_from_slice.ensures.items c.in_default.ensures
