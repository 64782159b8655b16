use Rattle.std.proofs.Common.{◌∙◌, None, ap, subst, sym}
use Rattle.std.proofs.lemmas.Result.{err_from_is_err_and}
use Rattle.ba_tree.specs.Run.{plain_run}
use Rattle.ba_tree_laws.specs.Spelling.{Spells}
use Rattle.ba_answers.specs.declared.file.File.TheVariants as file
use Rattle.ba_cases.specs.AtOnce.{IsNoProgram, Tells, case_answer, input_of, input_refusal, run_in, unfailing, weights_refusal}
use Rattle.ba_cases.proofs.Stopping.{sizes_in, stops_inputs, stops_runs, stops_size, stops_unspelled, stops_weights}
use Rattle.ba_cases.proofs.cases.read_case.Goals as goal

pub returns-in_err-program-clause-err : goal.returns-in_err-program-clause-err
returns-in_err-program-clause-err c =
    let x = c.args.texts.now in
    let q = err_from_is_err_and c.from_residual.result c.from_residual.ensures.1 in
    rw (q.1, q.2) (stops_unspelled x.program (case_answer c.args.bounds x) c.in_err-program.field-0.0
    (subst (λ source. IsNoProgram source c.in_err-program.field-0.0) c.as_slice.ensures
    c.in_err-program.ensures.err))

pub returns-in_err-input-clause-err : goal.returns-in_err-input-clause-err
returns-in_err-input-clause-err c =
    let x = c.args.texts.now in
    let p = c.in_ok-program.program in
    let why = c.in_err-input.field-0.0 in
    let q = err_from_is_err_and c.from_residual-in_err-input.result c.from_residual-in_err-input.ensures.1 in
    rw (q.1, q.2) (stops_inputs x.program (λ p. input_refusal file.Input p x.input) x.weights (sizes_in
    c.args.bounds)
    (λ p. unfailing p None (run_in c.args.bounds x p)) p
    (subst (λ source. Spells source p) c.as_slice.ensures c.in_ok-program.ensures.ok) why
    (subst (λ text. Tells why (input_refusal file.Input p text)) c.as_slice-2.ensures
    c.in_err-input.ensures.err))

pub returns-in_err-weights-clause-err : goal.returns-in_err-weights-clause-err
returns-in_err-weights-clause-err c =
    let x = c.args.texts.now in
    let p = c.in_ok-program.program in
    let why = c.in_err-weights.field-0.0 in
    let q = err_from_is_err_and c.from_residual-in_err-weights.result c.from_residual-in_err-weights.ensures.1
    in
    rw (q.1, q.2) (stops_weights x.program (λ p. input_refusal file.Input p x.input) x.weights (sizes_in
    c.args.bounds)
    (λ p. unfailing p None (run_in c.args.bounds x p)) p
    (subst (λ source. Spells source p) c.as_slice.ensures c.in_ok-program.ensures.ok)
    (ap (input_refusal file.Input p) (sym c.as_slice-2.ensures) ∙ c.in_ok-input.ensures.accepted) why
    (subst (λ text. Tells why (weights_refusal text)) c.as_slice-3.ensures c.in_err-weights.ensures.err))

pub returns-in_err-check_size-clause-err : goal.returns-in_err-check_size-clause-err
returns-in_err-check_size-clause-err c =
    let x = c.args.texts.now in
    let p = c.in_ok-program.program in
    let why = c.in_err-check_size.field-0.0 in
    let q = err_from_is_err_and c.from_residual-in_err-check_size.result
    c.from_residual-in_err-check_size.ensures.1 in
    rw (q.1, q.2) (stops_size x.program (λ p. input_refusal file.Input p x.input) x.weights (sizes_in
    c.args.bounds)
    (λ p. unfailing p None (run_in c.args.bounds x p)) p
    (subst (λ source. Spells source p) c.as_slice.ensures c.in_ok-program.ensures.ok)
    (ap (input_refusal file.Input p) (sym c.as_slice-2.ensures) ∙ c.in_ok-input.ensures.accepted)
    (ap weights_refusal (sym c.as_slice-3.ensures) ∙ c.in_ok-weights.ensures.accepted) why
    c.in_err-check_size.ensures.err)

pub returns-in_err-check_failing-clause-err : goal.returns-in_err-check_failing-clause-err
returns-in_err-check_failing-clause-err c =
    let x = c.args.texts.now in
    let p = c.in_ok-program.program in
    let why = c.in_err-check_failing.field-0.0 in
    let q = err_from_is_err_and c.from_residual-in_err-check_failing.result
    c.from_residual-in_err-check_failing.ensures.1 in
    let ends = c.in_ok-outcome.ensures.outcome ∙ ap (λ i. plain_run p i c.args.bounds)
    (c.in_ok-input.ensures.ok ∙ ap (input_of p) c.as_slice-2.ensures) in
    rw (q.1, q.2) (stops_runs x.program (λ p. input_refusal file.Input p x.input) x.weights (sizes_in
    c.args.bounds)
    (λ p. unfailing p None (run_in c.args.bounds x p)) p
    (subst (λ source. Spells source p) c.as_slice.ensures c.in_ok-program.ensures.ok)
    (ap (input_refusal file.Input p) (sym c.as_slice-2.ensures) ∙ c.in_ok-input.ensures.accepted)
    (ap weights_refusal (sym c.as_slice-3.ensures) ∙ c.in_ok-weights.ensures.accepted)
    c.in_ok-check_size.ensures.ok why
    (subst (λ end. Tells why (unfailing p None end)) ends c.in_err-check_failing.ensures.err))
