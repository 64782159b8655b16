use Rattle.std.proofs.Common.{Err, []}
use Rattle.std.proofs.lemmas.Result.{err_from_is_err_and}
use Rattle.ba_check.specs.Answers.{head_of, problem_of}
use Rattle.ba_check.proofs.CodeLaws.{tells-first}
use Rattle.ba_check.proofs.ReaderLaws.{read-by, refusal-found}
use Rattle.ba_check.proofs.TruthLaws.{answered}
use Rattle.ba_judge.proofs.Judges.{same-judge}
use Rattle.ba_tree.specs.Least.{judge_of}
use Rattle.ba_check.proofs.whole.confirm.Goals as goal

pub returns-in_err-feed : goal.returns-in_err-feed
returns-in_err-feed c =
    let settings = c.args.settings in
    let h = head_of settings in
    let p = problem_of c.args.program.now c.args.input.now settings c.args.encoded.now in
    let text = c.args.text.now in
    let made = c.new-judge.result in
    let e = err_from_is_err_and c.from_residual-in_err-feed.result c.from_residual-in_err-feed.ensures.1 in
    rw (e.1, e.2)
    (answered h p text (Err c.in_err-feed.field-0.0)
    (refusal-found h p text c.in_err-feed.field-0.0
    (tells-first h p text _ (Err c.in_err-feed.field-0.0)
    (c.in_err-feed.ensures.reads h p []
    (read-by h _ (judge_of c.args.program.now c.args.input.now settings.bounds) settings c.args.encoded.now []
    _
    (same-judge made.program.now c.args.program.now made.input.now c.args.input.now made.bounds
    settings.bounds c.new-judge.ensures.program c.new-judge.ensures.input c.new-judge.ensures.bounds)
    c.in_ok-confirm.ensures.nothing_read))
    c.in_err-feed.ensures.answer)))

pub returns : goal.returns
returns c =
    let settings = c.args.settings in
    let h = head_of settings in
    let p = problem_of c.args.program.now c.args.input.now settings c.args.encoded.now in
    let made = c.new-judge.result in
    c.finish.ensures.answers h p c.args.text.now
    (c.in_ok-feed.ensures.reads h p []
    (read-by h _ (judge_of c.args.program.now c.args.input.now settings.bounds) settings c.args.encoded.now []
    _
    (same-judge made.program.now c.args.program.now made.input.now c.args.input.now made.bounds
    settings.bounds c.new-judge.ensures.program c.new-judge.ensures.input c.new-judge.ensures.bounds)
    c.in_ok-confirm.ensures.nothing_read))
