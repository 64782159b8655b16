use Rattle.std.proofs.Common.{◌≡◌, ◌≢◌, ◌∙◌, true, None, length, map, ap, subst, sym}
use Rattle.std.proofs.lemmas.List.Elements.{All-from_recursion, All-map, All-same}
use Rattle.std.proofs.lemmas.Result.{err_from_is_err_and}
use Rattle.ba_answers.specs.declared.file.File.TheVariants as file
use Rattle.ba_cases.specs.AllCases.{all_answer, size_refusal_of_all}
use Rattle.ba_cases.specs.AtOnce.{IsNoProgram, Tells, weights_refusal}
use Rattle.ba_cases.specs.Inputs.{ends_answer, inputs_of, inputs_refusal}
use Rattle.ba_cases.proofs.SeveralInputs.{none_done, some_input}
use Rattle.ba_cases.proofs.Stopping.{none_at_once, stops_inputs, stops_runs, stops_size, stops_unspelled, stops_weights}
use Rattle.ba_inputs.specs.Weights.{weights_in}
use Rattle.ba_inputs.specs.declared.inputs.InputLine.{InputLine}
use Rattle.ba_tree.specs.Run.{fits, plain_run}
use Rattle.ba_tree.specs.declared.run.Input.{Input}
use Rattle.ba_tree.specs.declared.run.Outcome.TheVariants as outcome
use Rattle.ba_tree_laws.specs.Spelling.{Spells}
use Rattle.ba_cases.proofs.all_cases.read_case_of_all.Goals as goal

abbrev alone : InputLine → Input
alone entry = entry.input

pub returns-in_err-program-clause-err : goal.returns-in_err-program-clause-err
returns-in_err-program-clause-err c =
    let x = c.args.texts.now in
    let q = err_from_is_err_and c.from_residual.result c.from_residual.ensures.1 in
    rw (q.1, q.2) (stops_unspelled x.program (all_answer c.args.bounds x) c.in_err-program.field-0.0
    (subst (λ source. IsNoProgram source c.in_err-program.field-0.0) c.as_slice.ensures
    c.in_err-program.ensures.err))

pub returns-in_err-inputs-clause-err : goal.returns-in_err-inputs-clause-err
returns-in_err-inputs-clause-err c =
    let x = c.args.texts.now in
    let b = c.args.bounds in
    let p = c.in_ok-program.program in
    let why = c.in_err-inputs.field-0.0 in
    let q = err_from_is_err_and c.from_residual-in_err-inputs.result c.from_residual-in_err-inputs.ensures.1
    in
    rw (q.1, q.2) (stops_inputs x.program (λ p. inputs_refusal file.Inputs 1 p x.input) x.weights
    (λ p. size_refusal_of_all p b (length (inputs_of p x.input)))
    (λ p. ends_answer b p (inputs_of p x.input)) p
    (subst (λ source. Spells source p) c.as_slice.ensures c.in_ok-program.ensures.ok) why
    (subst (λ text. Tells why (inputs_refusal file.Inputs 1 p text)) c.as_slice-2.ensures
    c.in_err-inputs.ensures.err))

pub returns-in_err-weights-clause-err : goal.returns-in_err-weights-clause-err
returns-in_err-weights-clause-err c =
    let x = c.args.texts.now in
    let b = c.args.bounds in
    let p = c.in_ok-program.program in
    let why = c.in_err-weights.field-0.0 in
    let q = err_from_is_err_and c.from_residual-in_err-weights.result c.from_residual-in_err-weights.ensures.1
    in
    rw (q.1, q.2) (stops_weights x.program (λ p. inputs_refusal file.Inputs 1 p x.input) x.weights
    (λ p. size_refusal_of_all p b (length (inputs_of p x.input)))
    (λ p. ends_answer b p (inputs_of p x.input)) p
    (subst (λ source. Spells source p) c.as_slice.ensures c.in_ok-program.ensures.ok)
    (ap (inputs_refusal file.Inputs 1 p) (sym c.as_slice-2.ensures) ∙ c.in_ok-inputs.ensures.accepted) why
    (subst (λ text. Tells why (weights_refusal text)) c.as_slice-3.ensures c.in_err-weights.ensures.err))

pub returns-in_err-check_size_of_all-clause-err : goal.returns-in_err-check_size_of_all-clause-err
returns-in_err-check_size_of_all-clause-err c =
    let x = c.args.texts.now in
    let b = c.args.bounds in
    let p = c.in_ok-program.program in
    let why = c.in_err-check_size_of_all.field-0.0 in
    let q = err_from_is_err_and c.from_residual-in_err-check_size_of_all.result
    c.from_residual-in_err-check_size_of_all.ensures.1 in
    let read = c.in_ok-inputs.ensures.ok ∙ ap (inputs_of p) c.as_slice-2.ensures in
    rw (q.1, q.2) (stops_size x.program (λ p. inputs_refusal file.Inputs 1 p x.input) x.weights
    (λ p. size_refusal_of_all p b (length (inputs_of p x.input)))
    (λ p. ends_answer b p (inputs_of p x.input)) p
    (subst (λ source. Spells source p) c.as_slice.ensures c.in_ok-program.ensures.ok)
    (ap (inputs_refusal file.Inputs 1 p) (sym c.as_slice-2.ensures) ∙ c.in_ok-inputs.ensures.accepted)
    (ap weights_refusal (sym c.as_slice-3.ensures) ∙ c.in_ok-weights.ensures.accepted) why
    (subst (λ count. Tells why (size_refusal_of_all p b count)) (c.len.ensures ∙ ap length read)
    c.in_err-check_size_of_all.ensures.err))

pub returns-in_err-check_runs-clause-err : goal.returns-in_err-check_runs-clause-err
returns-in_err-check_runs-clause-err c =
    let x = c.args.texts.now in
    let b = c.args.bounds in
    let p = c.in_ok-program.program in
    let why = c.in_err-check_runs.field-0.0 in
    let q = err_from_is_err_and c.from_residual-in_err-check_runs.result
    c.from_residual-in_err-check_runs.ensures.1 in
    let read = c.in_ok-inputs.ensures.ok ∙ ap (inputs_of p) c.as_slice-2.ensures in
    rw (q.1, q.2) (stops_runs x.program (λ p. inputs_refusal file.Inputs 1 p x.input) x.weights
    (λ p. size_refusal_of_all p b (length (inputs_of p x.input)))
    (λ p. ends_answer b p (inputs_of p x.input)) p
    (subst (λ source. Spells source p) c.as_slice.ensures c.in_ok-program.ensures.ok)
    (ap (inputs_refusal file.Inputs 1 p) (sym c.as_slice-2.ensures) ∙ c.in_ok-inputs.ensures.accepted)
    (ap weights_refusal (sym c.as_slice-3.ensures) ∙ c.in_ok-weights.ensures.accepted)
    (subst (λ count. size_refusal_of_all p b count ≡ None) (c.len.ensures ∙ ap length read)
    c.in_ok-check_size_of_all.ensures.ok) why
    (subst (λ inputs. Tells why (ends_answer b p inputs)) (c.as_slice-4.ensures ∙ read)
    c.in_err-check_runs.ensures.err))

pub returns-clause-ok : goal.returns-clause-ok
returns-clause-ok c =
    let x = c.args.texts.now in
    let b = c.args.bounds in
    let p = c.in_ok-program.program in
    let spells = subst (λ source. Spells source p) c.as_slice.ensures c.in_ok-program.ensures.ok in
    let read = c.in_ok-inputs.ensures.ok ∙ ap (inputs_of p) c.as_slice-2.ensures in
    let accepted = ap (inputs_refusal file.Inputs 1 p) (sym c.as_slice-2.ensures)
    ∙ c.in_ok-inputs.ensures.accepted in
    let entries = c.in_ok-inputs.inputs in
    let moved = c.in_ok-without_lines.ensures in
    let ends = ap (ends_answer b p) (sym c.as_slice-4.ensures) ∙ c.in_ok-check_runs.ensures.ok in
    record {
      spells = spells;
      inputs = moved ∙ ap (map alone) read;
      some = λ none. some_input file.Inputs p x.input accepted
          (sym (moved ∙ ap (map alone) read) ∙ none);
      fit = All-same (λ (i : Input). fits p i ≡ true) _ (map alone entries) moved
          (All-map (λ (i : Input). fits p i ≡ true) alone entries c.in_ok-inputs.ensures.fit);
      weights = c.in_ok-weights.ensures.ok ∙ ap (weights_in p) c.as_slice-3.ensures;
      weighed = c.in_ok-weights.ensures.weighed;
      failing = All-same (λ (i : Input). plain_run p i b ≢ outcome.Done) _ (map alone entries) moved
          (All-map (λ (i : Input). plain_run p i b ≢ outcome.Done) alone entries
          (All-from_recursion (λ (entry : InputLine). plain_run p entry.input b ≢ outcome.Done) entries
          (none_done b p entries ends)));
      undecided = none_at_once x.program (λ p. inputs_refusal file.Inputs 1 p x.input) x.weights
          (λ p. size_refusal_of_all p b (length (inputs_of p x.input)))
          (λ p. ends_answer b p (inputs_of p x.input)) p spells accepted
          (ap weights_refusal (sym c.as_slice-3.ensures) ∙ c.in_ok-weights.ensures.accepted)
          (subst (λ count. size_refusal_of_all p b count ≡ None) (c.len.ensures ∙ ap length read)
          c.in_ok-check_size_of_all.ensures.ok)
          (ap (ends_answer b p) (sym read) ∙ ends);
    }
