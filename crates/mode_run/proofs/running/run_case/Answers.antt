use Rattle.std.proofs.Common.{◌≡◌, ◌∙◌, Some, ap, subst, sym}
use Rattle.std.proofs.lemmas.Result.{IfErr-weaker, IfOk-weaker, err_from_is_err_and}
use Rattle.ba_tree.specs.Run.{plain_run}
use Rattle.ba_tree_laws.specs.Spelling.{Spells}
use Rattle.ba_answers.specs.declared.file.File.TheVariants as file
use Rattle.ba_cases.specs.AtOnce.{IsNoProgram, Tells, input_of, input_refusal, run_in, weights_refusal}
use Rattle.mode_run.specs.Runs.{end_answer, run_answer}
use Rattle.ba_cases.proofs.Stopping.{answers_runs, sizes_in, stops_inputs, stops_runs, stops_size, stops_unspelled, stops_weights}
use Rattle.mode_run.proofs.running.run_case.Goals as goal

pub returns-in_err-program-clause-err : goal.returns-in_err-program-clause-err
returns-in_err-program-clause-err c =
    let x = c.args.texts.now in
    let q = err_from_is_err_and c.from_residual.result c.from_residual.ensures.1 in
    rw (q.1, q.2) (stops_unspelled x.program (run_answer c.args.bounds x) c.in_err-program.field-0.0
    (subst (λ source. IsNoProgram source c.in_err-program.field-0.0) c.as_slice.ensures
    c.in_err-program.ensures.err))

pub returns-in_err-input-clause-err : goal.returns-in_err-input-clause-err
returns-in_err-input-clause-err c =
    let x = c.args.texts.now in
    let p = c.in_ok-program.program in
    let why = c.in_err-input.field-0.0 in
    let q = err_from_is_err_and c.from_residual-in_err-input.result c.from_residual-in_err-input.ensures.1 in
    rw (q.1, q.2) (stops_inputs x.program (λ p. input_refusal file.Input p x.input) x.weights (sizes_in
    c.args.bounds)
    (λ p. end_answer p (run_in c.args.bounds x p)) p
    (subst (λ source. Spells source p) c.as_slice.ensures c.in_ok-program.ensures.ok) why
    (subst (λ text. Tells why (input_refusal file.Input p text)) c.as_slice-2.ensures
    c.in_err-input.ensures.err))

pub returns-in_err-_weights-clause-err : goal.returns-in_err-_weights-clause-err
returns-in_err-_weights-clause-err c =
    let x = c.args.texts.now in
    let p = c.in_ok-program.program in
    let why = c.in_err-_weights.field-0.0 in
    let q = err_from_is_err_and c.from_residual-in_err-_weights.result
    c.from_residual-in_err-_weights.ensures.1 in
    rw (q.1, q.2) (stops_weights x.program (λ p. input_refusal file.Input p x.input) x.weights (sizes_in
    c.args.bounds)
    (λ p. end_answer p (run_in c.args.bounds x p)) p
    (subst (λ source. Spells source p) c.as_slice.ensures c.in_ok-program.ensures.ok)
    (ap (input_refusal file.Input p) (sym c.as_slice-2.ensures) ∙ c.in_ok-input.ensures.accepted) why
    (subst (λ text. Tells why (weights_refusal text)) c.as_slice-3.ensures c.in_err-_weights.ensures.err))

pub returns-in_err-check_size-clause-err : goal.returns-in_err-check_size-clause-err
returns-in_err-check_size-clause-err c =
    let x = c.args.texts.now in
    let p = c.in_ok-program.program in
    let why = c.in_err-check_size.field-0.0 in
    let q = err_from_is_err_and c.from_residual-in_err-check_size.result
    c.from_residual-in_err-check_size.ensures.1 in
    rw (q.1, q.2) (stops_size x.program (λ p. input_refusal file.Input p x.input) x.weights (sizes_in
    c.args.bounds)
    (λ p. end_answer p (run_in c.args.bounds x p)) p
    (subst (λ source. Spells source p) c.as_slice.ensures c.in_ok-program.ensures.ok)
    (ap (input_refusal file.Input p) (sym c.as_slice-2.ensures) ∙ c.in_ok-input.ensures.accepted)
    (ap weights_refusal (sym c.as_slice-3.ensures) ∙ c.in_ok-_weights.ensures.accepted) why
    c.in_err-check_size.ensures.err)

pub returns-clause-ok : goal.returns-clause-ok
returns-clause-ok c =
    let x = c.args.texts.now in
    let p = c.in_ok-program.program in
    let spells = subst (λ source. Spells source p) c.as_slice.ensures c.in_ok-program.ensures.ok in
    let input = ap (input_refusal file.Input p) (sym c.as_slice-2.ensures) ∙ c.in_ok-input.ensures.accepted in
    let weight = ap weights_refusal (sym c.as_slice-3.ensures) ∙ c.in_ok-_weights.ensures.accepted in
    let ends = c.in_ok-outcome.ensures.outcome ∙ ap (λ i. plain_run p i c.args.bounds)
    (c.in_ok-input.ensures.ok ∙ ap (input_of p) c.as_slice-2.ensures) in
    IfOk-weaker c.end_answer.result _ _
    (λ a is. answers_runs x.program (λ p. input_refusal file.Input p x.input) x.weights (sizes_in
    c.args.bounds)
    (λ p. end_answer p (run_in c.args.bounds x p)) p spells input weight c.in_ok-check_size.ensures.ok a
    (subst (λ end. end_answer p end ≡ Some a) ends is)) c.end_answer.ensures.ok

pub returns-clause-err : goal.returns-clause-err
returns-clause-err c =
    let x = c.args.texts.now in
    let p = c.in_ok-program.program in
    let spells = subst (λ source. Spells source p) c.as_slice.ensures c.in_ok-program.ensures.ok in
    let input = ap (input_refusal file.Input p) (sym c.as_slice-2.ensures) ∙ c.in_ok-input.ensures.accepted in
    let weight = ap weights_refusal (sym c.as_slice-3.ensures) ∙ c.in_ok-_weights.ensures.accepted in
    let ends = c.in_ok-outcome.ensures.outcome ∙ ap (λ i. plain_run p i c.args.bounds)
    (c.in_ok-input.ensures.ok ∙ ap (input_of p) c.as_slice-2.ensures) in
    IfErr-weaker c.end_answer.result _ _
    (λ why told. stops_runs x.program (λ p. input_refusal file.Input p x.input) x.weights (sizes_in
    c.args.bounds)
    (λ p. end_answer p (run_in c.args.bounds x p)) p spells input weight c.in_ok-check_size.ensures.ok why
    (subst (λ end. Tells why (end_answer p end)) ends told)) c.end_answer.ensures.err
