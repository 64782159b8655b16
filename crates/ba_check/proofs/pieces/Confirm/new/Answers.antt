use Rattle.std.proofs.Common.{refl, ap, ◌∙◌}
use Rattle.ba_check.specs.Answers.{head_of, problem_by}
use Rattle.ba_check.specs.Findings.{Begins}
use Rattle.ba_check.proofs.ReaderLaws.{started}
use Rattle.ba_checker.specs.States.{first_state}
use Rattle.ba_check.proofs.pieces.Confirm.new.Goals as goal

pub returns-clause-nothing_read : goal.returns-clause-nothing_read
returns-clause-nothing_read g c =
    let settings = c.args.settings in
    started (head_of settings)
    (problem_by (g.J.RunJudge.accepts c.args.judge) settings c.args.encoded.now)
    _ c.head_of.ensures refl
    (c.new-2.ensures
    ∙ ap Begins
    (c.in_ok-checker.ensures
    ∙ ap (λ f. first_state f c.as_slice.result.now settings.conflicts settings.sets) c.formula.ensures
    ∙ ap (λ softs. first_state c.args.encoded.now.formula softs settings.conflicts settings.sets)
    (c.as_slice.ensures.value ∙ c.in_ok-softs.ensures)))
    c.new-3.ensures.items refl
