use Rattle.std.proofs.Common.{◌∙◌, None, ap, subst, sym}
use Rattle.std.proofs.lemmas.Result.{err_from_is_err_and}
use Rattle.ba_answers.specs.declared.file.File.TheVariants as file
use Rattle.ba_cases.specs.AtOnce.{IsNoProgram, Tells, input_of, input_refusal, unfailing, weights_refusal}
use Rattle.ba_cases.specs.Inputs.{inputs_of, inputs_refusal}
use Rattle.ba_cases.proofs.Stopping.{none_at_once, sizes_in, stops_inputs, stops_runs, stops_size, stops_unspelled, stops_weights}
use Rattle.ba_inputs.specs.Weights.{weights_in}
use Rattle.ba_tree.specs.Run.{plain_run}
use Rattle.ba_tree_laws.specs.Spelling.{Spells}
use Rattle.mode_repair.specs.Cases.{inputs_answer, passing_ends, repair_answer, runs_answer}
use Rattle.mode_repair.proofs.Reading.{none_of_two, tells_first, tells_second}
use Rattle.mode_repair.proofs.cases.read_repair_case.Goals as goal

pub returns-in_err-program-clause-err : goal.returns-in_err-program-clause-err
returns-in_err-program-clause-err c =
    let x = c.args.texts.now in
    let q = err_from_is_err_and c.from_residual.result c.from_residual.ensures.1 in
    rw (q.1, q.2) (stops_unspelled x.program (repair_answer c.args.bounds x) c.in_err-program.field-0.0
    (subst (λ source. IsNoProgram source c.in_err-program.field-0.0) c.as_slice.ensures
    c.in_err-program.ensures.err))

pub returns-in_err-failing-clause-err : goal.returns-in_err-failing-clause-err
returns-in_err-failing-clause-err c =
    let x = c.args.texts.now in
    let p = c.in_ok-program.program in
    let why = c.in_err-failing.field-0.0 in
    let q = err_from_is_err_and c.from_residual-in_err-failing.result c.from_residual-in_err-failing.ensures.1
    in
    rw (q.1, q.2) (stops_inputs x.program (inputs_answer x) x.weights (sizes_in c.args.bounds)
    (runs_answer c.args.bounds x) p
    (subst (λ source. Spells source p) c.as_slice.ensures c.in_ok-program.ensures.ok) why
    (tells_first why (input_refusal file.Failing p x.failing) (inputs_refusal file.Passing 0 p x.passing)
    (subst (λ text. Tells why (input_refusal file.Failing p text)) c.as_slice-2.ensures
    c.in_err-failing.ensures.err)))

pub returns-in_err-passing-clause-err : goal.returns-in_err-passing-clause-err
returns-in_err-passing-clause-err c =
    let x = c.args.texts.now in
    let p = c.in_ok-program.program in
    let why = c.in_err-passing.field-0.0 in
    let q = err_from_is_err_and c.from_residual-in_err-passing.result c.from_residual-in_err-passing.ensures.1
    in
    rw (q.1, q.2) (stops_inputs x.program (inputs_answer x) x.weights (sizes_in c.args.bounds)
    (runs_answer c.args.bounds x) p
    (subst (λ source. Spells source p) c.as_slice.ensures c.in_ok-program.ensures.ok) why
    (tells_second why (input_refusal file.Failing p x.failing) (inputs_refusal file.Passing 0 p x.passing)
    (ap (input_refusal file.Failing p) (sym c.as_slice-2.ensures) ∙ c.in_ok-failing.ensures.accepted)
    (subst (λ text. Tells why (inputs_refusal file.Passing 0 p text)) c.as_slice-3.ensures
    c.in_err-passing.ensures.err)))

pub returns-in_err-weights-clause-err : goal.returns-in_err-weights-clause-err
returns-in_err-weights-clause-err c =
    let x = c.args.texts.now in
    let p = c.in_ok-program.program in
    let why = c.in_err-weights.field-0.0 in
    let q = err_from_is_err_and c.from_residual-in_err-weights.result c.from_residual-in_err-weights.ensures.1
    in
    rw (q.1, q.2) (stops_weights x.program (inputs_answer x) x.weights (sizes_in c.args.bounds)
    (runs_answer c.args.bounds x) p
    (subst (λ source. Spells source p) c.as_slice.ensures c.in_ok-program.ensures.ok)
    (none_of_two (input_refusal file.Failing p x.failing) (inputs_refusal file.Passing 0 p x.passing)
    (ap (input_refusal file.Failing p) (sym c.as_slice-2.ensures) ∙ c.in_ok-failing.ensures.accepted)
    (ap (inputs_refusal file.Passing 0 p) (sym c.as_slice-3.ensures) ∙ c.in_ok-passing.ensures.accepted)) why
    (subst (λ text. Tells why (weights_refusal text)) c.as_slice-4.ensures c.in_err-weights.ensures.err))

pub returns-in_err-check_size-clause-err : goal.returns-in_err-check_size-clause-err
returns-in_err-check_size-clause-err c =
    let x = c.args.texts.now in
    let p = c.in_ok-program.program in
    let why = c.in_err-check_size.field-0.0 in
    let q = err_from_is_err_and c.from_residual-in_err-check_size.result
    c.from_residual-in_err-check_size.ensures.1 in
    rw (q.1, q.2) (stops_size x.program (inputs_answer x) x.weights (sizes_in c.args.bounds)
    (runs_answer c.args.bounds x) p
    (subst (λ source. Spells source p) c.as_slice.ensures c.in_ok-program.ensures.ok)
    (none_of_two (input_refusal file.Failing p x.failing) (inputs_refusal file.Passing 0 p x.passing)
    (ap (input_refusal file.Failing p) (sym c.as_slice-2.ensures) ∙ c.in_ok-failing.ensures.accepted)
    (ap (inputs_refusal file.Passing 0 p) (sym c.as_slice-3.ensures) ∙ c.in_ok-passing.ensures.accepted))
    (ap weights_refusal (sym c.as_slice-4.ensures) ∙ c.in_ok-weights.ensures.accepted) why
    c.in_err-check_size.ensures.err)

pub returns-in_err-check_failing-clause-err : goal.returns-in_err-check_failing-clause-err
returns-in_err-check_failing-clause-err c =
    let x = c.args.texts.now in
    let p = c.in_ok-program.program in
    let why = c.in_err-check_failing.field-0.0 in
    let q = err_from_is_err_and c.from_residual-in_err-check_failing.result
    c.from_residual-in_err-check_failing.ensures.1 in
    let ends = c.in_ok-outcome.ensures.outcome ∙ ap (λ i. plain_run p i c.args.bounds)
    (c.in_ok-failing.ensures.ok ∙ ap (input_of p) c.as_slice-2.ensures) in
    rw (q.1, q.2) (stops_runs x.program (inputs_answer x) x.weights (sizes_in c.args.bounds)
    (runs_answer c.args.bounds x) p
    (subst (λ source. Spells source p) c.as_slice.ensures c.in_ok-program.ensures.ok)
    (none_of_two (input_refusal file.Failing p x.failing) (inputs_refusal file.Passing 0 p x.passing)
    (ap (input_refusal file.Failing p) (sym c.as_slice-2.ensures) ∙ c.in_ok-failing.ensures.accepted)
    (ap (inputs_refusal file.Passing 0 p) (sym c.as_slice-3.ensures) ∙ c.in_ok-passing.ensures.accepted))
    (ap weights_refusal (sym c.as_slice-4.ensures) ∙ c.in_ok-weights.ensures.accepted)
    c.in_ok-check_size.ensures.ok why
    (tells_first why (unfailing p None (plain_run p (input_of p x.failing) c.args.bounds)) (passing_ends
    c.args.bounds p (inputs_of p x.passing))
    (subst (λ end. Tells why (unfailing p None end)) ends c.in_err-check_failing.ensures.err)))

pub returns-in_err-check_passes-clause-err : goal.returns-in_err-check_passes-clause-err
returns-in_err-check_passes-clause-err c =
    let x = c.args.texts.now in
    let p = c.in_ok-program.program in
    let why = c.in_err-check_passes.field-0.0 in
    let q = err_from_is_err_and c.from_residual-in_err-check_passes.result
    c.from_residual-in_err-check_passes.ensures.1 in
    let ends = c.in_ok-outcome.ensures.outcome ∙ ap (λ i. plain_run p i c.args.bounds)
    (c.in_ok-failing.ensures.ok ∙ ap (input_of p) c.as_slice-2.ensures) in
    let read = c.in_ok-passing.ensures.ok ∙ ap (inputs_of p) c.as_slice-3.ensures in
    rw (q.1, q.2) (stops_runs x.program (inputs_answer x) x.weights (sizes_in c.args.bounds)
    (runs_answer c.args.bounds x) p
    (subst (λ source. Spells source p) c.as_slice.ensures c.in_ok-program.ensures.ok)
    (none_of_two (input_refusal file.Failing p x.failing) (inputs_refusal file.Passing 0 p x.passing)
    (ap (input_refusal file.Failing p) (sym c.as_slice-2.ensures) ∙ c.in_ok-failing.ensures.accepted)
    (ap (inputs_refusal file.Passing 0 p) (sym c.as_slice-3.ensures) ∙ c.in_ok-passing.ensures.accepted))
    (ap weights_refusal (sym c.as_slice-4.ensures) ∙ c.in_ok-weights.ensures.accepted)
    c.in_ok-check_size.ensures.ok why
    (tells_second why (unfailing p None (plain_run p (input_of p x.failing) c.args.bounds)) (passing_ends
    c.args.bounds p (inputs_of p x.passing))
    (ap (unfailing p None) (sym ends) ∙ c.in_ok-check_failing.ensures.ok)
    (subst (λ inputs. Tells why (passing_ends c.args.bounds p inputs)) (c.as_slice-5.ensures ∙ read)
    c.in_err-check_passes.ensures.err)))

pub returns-clause-ok : goal.returns-clause-ok
returns-clause-ok c =
    let x = c.args.texts.now in
    let p = c.in_ok-program.program in
    let spells = subst (λ source. Spells source p) c.as_slice.ensures c.in_ok-program.ensures.ok in
    let ends = c.in_ok-outcome.ensures.outcome ∙ ap (λ i. plain_run p i c.args.bounds)
    (c.in_ok-failing.ensures.ok ∙ ap (input_of p) c.as_slice-2.ensures) in
    let read = c.in_ok-passing.ensures.ok ∙ ap (inputs_of p) c.as_slice-3.ensures in
    record {
      spells = spells;
      failing = c.in_ok-failing.ensures.ok ∙ ap (input_of p) c.as_slice-2.ensures;
      passing = read;
      fits = c.in_ok-failing.ensures.fits;
      weights = c.in_ok-weights.ensures.ok ∙ ap (weights_in p) c.as_slice-4.ensures;
      weighed = c.in_ok-weights.ensures.weighed;
      undecided = none_at_once x.program (inputs_answer x) x.weights (sizes_in c.args.bounds)
          (runs_answer c.args.bounds x) p spells
          (none_of_two (input_refusal file.Failing p x.failing) (inputs_refusal file.Passing 0 p x.passing)
          (ap (input_refusal file.Failing p) (sym c.as_slice-2.ensures) ∙ c.in_ok-failing.ensures.accepted)
          (ap (inputs_refusal file.Passing 0 p) (sym c.as_slice-3.ensures) ∙
          c.in_ok-passing.ensures.accepted))
          (ap weights_refusal (sym c.as_slice-4.ensures) ∙ c.in_ok-weights.ensures.accepted)
          c.in_ok-check_size.ensures.ok
          (none_of_two (unfailing p None (plain_run p (input_of p x.failing) c.args.bounds)) (passing_ends
          c.args.bounds p (inputs_of p x.passing))
          (ap (unfailing p None) (sym ends) ∙ c.in_ok-check_failing.ensures.ok)
          (ap (passing_ends c.args.bounds p) (sym (c.as_slice-5.ensures ∙ read)) ∙
          c.in_ok-check_passes.ensures.ok));
    }
