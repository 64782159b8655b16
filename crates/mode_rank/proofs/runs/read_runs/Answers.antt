use Rattle.std.proofs.Common.{◌∙◌, ap, subst, sym}
use Rattle.std.proofs.lemmas.Result.{err_from_is_err_and}
use Rattle.ba_answers.specs.declared.file.File.TheVariants as file
use Rattle.ba_cases.specs.AtOnce.{IsNoProgram, Tells, weights_refusal}
use Rattle.ba_cases.proofs.Stopping.{none_at_once, sizes_in, stops_inputs, stops_runs, stops_size, stops_unspelled, stops_weights}
use Rattle.ba_inputs.specs.Weights.{weights_in}
use Rattle.ba_tree_laws.specs.Spelling.{Spells}
use Rattle.ba_cases.specs.Inputs.{ends_answer, inputs_of, inputs_refusal}
use Rattle.mode_rank.specs.Inputs.{rank_answer}
use Rattle.mode_rank.proofs.runs.read_runs.Goals as goal

pub returns-in_err-program-clause-err : goal.returns-in_err-program-clause-err
returns-in_err-program-clause-err c =
    let x = c.args.texts.now in
    let q = err_from_is_err_and c.from_residual.result c.from_residual.ensures.1 in
    rw (q.1, q.2) (stops_unspelled x.program (rank_answer c.args.bounds x) c.in_err-program.field-0.0
    (subst (λ source. IsNoProgram source c.in_err-program.field-0.0) c.as_slice.ensures
    c.in_err-program.ensures.err))

pub returns-in_err-inputs-clause-err : goal.returns-in_err-inputs-clause-err
returns-in_err-inputs-clause-err c =
    let x = c.args.texts.now in
    let p = c.in_ok-program.program in
    let why = c.in_err-inputs.field-0.0 in
    let q = err_from_is_err_and c.from_residual-in_err-inputs.result c.from_residual-in_err-inputs.ensures.1
    in
    rw (q.1, q.2) (stops_inputs x.program (λ p. inputs_refusal file.Inputs 1 p x.input) x.weights (sizes_in
    c.args.bounds)
    (λ p. ends_answer c.args.bounds p (inputs_of p x.input)) p
    (subst (λ source. Spells source p) c.as_slice.ensures c.in_ok-program.ensures.ok) why
    (subst (λ text. Tells why (inputs_refusal file.Inputs 1 p text)) c.as_slice-2.ensures
    c.in_err-inputs.ensures.err))

pub returns-in_err-weights-clause-err : goal.returns-in_err-weights-clause-err
returns-in_err-weights-clause-err c =
    let x = c.args.texts.now in
    let p = c.in_ok-program.program in
    let why = c.in_err-weights.field-0.0 in
    let q = err_from_is_err_and c.from_residual-in_err-weights.result c.from_residual-in_err-weights.ensures.1
    in
    rw (q.1, q.2) (stops_weights x.program (λ p. inputs_refusal file.Inputs 1 p x.input) x.weights (sizes_in
    c.args.bounds)
    (λ p. ends_answer c.args.bounds p (inputs_of p x.input)) p
    (subst (λ source. Spells source p) c.as_slice.ensures c.in_ok-program.ensures.ok)
    (ap (inputs_refusal file.Inputs 1 p) (sym c.as_slice-2.ensures) ∙ c.in_ok-inputs.ensures.accepted) why
    (subst (λ text. Tells why (weights_refusal text)) c.as_slice-3.ensures c.in_err-weights.ensures.err))

pub returns-in_err-check_size-clause-err : goal.returns-in_err-check_size-clause-err
returns-in_err-check_size-clause-err c =
    let x = c.args.texts.now in
    let p = c.in_ok-program.program in
    let why = c.in_err-check_size.field-0.0 in
    let q = err_from_is_err_and c.from_residual-in_err-check_size.result
    c.from_residual-in_err-check_size.ensures.1 in
    rw (q.1, q.2) (stops_size x.program (λ p. inputs_refusal file.Inputs 1 p x.input) x.weights (sizes_in
    c.args.bounds)
    (λ p. ends_answer c.args.bounds p (inputs_of p x.input)) p
    (subst (λ source. Spells source p) c.as_slice.ensures c.in_ok-program.ensures.ok)
    (ap (inputs_refusal file.Inputs 1 p) (sym c.as_slice-2.ensures) ∙ c.in_ok-inputs.ensures.accepted)
    (ap weights_refusal (sym c.as_slice-3.ensures) ∙ c.in_ok-weights.ensures.accepted) why
    c.in_err-check_size.ensures.err)

pub returns-in_err-check_runs-clause-err : goal.returns-in_err-check_runs-clause-err
returns-in_err-check_runs-clause-err c =
    let x = c.args.texts.now in
    let p = c.in_ok-program.program in
    let why = c.in_err-check_runs.field-0.0 in
    let q = err_from_is_err_and c.from_residual-in_err-check_runs.result
    c.from_residual-in_err-check_runs.ensures.1 in
    let read = c.as_slice-4.ensures ∙ c.in_ok-inputs.ensures.ok ∙ ap (inputs_of p) c.as_slice-2.ensures in
    rw (q.1, q.2) (stops_runs x.program (λ p. inputs_refusal file.Inputs 1 p x.input) x.weights (sizes_in
    c.args.bounds)
    (λ p. ends_answer c.args.bounds p (inputs_of p x.input)) p
    (subst (λ source. Spells source p) c.as_slice.ensures c.in_ok-program.ensures.ok)
    (ap (inputs_refusal file.Inputs 1 p) (sym c.as_slice-2.ensures) ∙ c.in_ok-inputs.ensures.accepted)
    (ap weights_refusal (sym c.as_slice-3.ensures) ∙ c.in_ok-weights.ensures.accepted)
    c.in_ok-check_size.ensures.ok why
    (subst (λ inputs. Tells why (ends_answer c.args.bounds p inputs)) read c.in_err-check_runs.ensures.err))

pub returns-clause-ok : goal.returns-clause-ok
returns-clause-ok c =
    let x = c.args.texts.now in
    let p = c.in_ok-program.program in
    let spells = subst (λ source. Spells source p) c.as_slice.ensures c.in_ok-program.ensures.ok in
    let read = c.in_ok-inputs.ensures.ok ∙ ap (inputs_of p) c.as_slice-2.ensures in
    record {
      spells = spells;
      inputs = read;
      fit = c.in_ok-inputs.ensures.fit;
      weights = c.in_ok-weights.ensures.ok ∙ ap (weights_in p) c.as_slice-3.ensures;
      weighed = c.in_ok-weights.ensures.weighed;
      undecided = none_at_once x.program (λ p. inputs_refusal file.Inputs 1 p x.input) x.weights (sizes_in
          c.args.bounds)
          (λ p. ends_answer c.args.bounds p (inputs_of p x.input)) p spells
          (ap (inputs_refusal file.Inputs 1 p) (sym c.as_slice-2.ensures) ∙ c.in_ok-inputs.ensures.accepted)
          (ap weights_refusal (sym c.as_slice-3.ensures) ∙ c.in_ok-weights.ensures.accepted)
          c.in_ok-check_size.ensures.ok
          (ap (ends_answer c.args.bounds p) (sym (c.as_slice-4.ensures ∙ read)) ∙
          c.in_ok-check_runs.ensures.ok);
    }
