use Rattle.std.proofs.Common.{◌≡◌, Some, length, ap, sym, ◌∙◌, arith}
use Rattle.std.specs.List.{zip}
use Rattle.ba_bytes.specs.Pieces.{pieces_of}
use Rattle.ba_tree.specs.Run.{main_of}
use Rattle.ba_tree.specs.Inputs.{IsInputOf, fault_of, first_where, is_outside, types_for, values_for}
use Rattle.ba_tree.proofs.Kept.{input-kept}
use Rattle.ba_inputs.proofs.InputSteps.{fault-count, fault-outside, is-input, only-none}
use Rattle.ba_inputs.proofs.input.read_input.Goals as goal

pub returns-then-len-clause-err : goal.returns-then-len-clause-err
returns-then-len-clause-err c =
    let is = c.in_ok-types.ensures ∙ ap (types_for c.args.program.now) c.main_params-params.ensures in
    let differs : length c.in_ok-numbers.numbers.items ≡ length c.in_ok-types.types.items → ⊥ = λ same.
    c.if-len.true (omega (arith, same, c.in_ok-numbers.numbers.ok.0, c.in_ok-types.types.ok.0)) in
    ap (λ ts. fault_of ts (pieces_of c.args.text.now)) (sym is)
    ∙ fault-count _ (pieces_of c.args.text.now) _ c.in_ok-numbers.ensures.ok differs

pub returns-in-Some-clause-err : goal.returns-in-Some-clause-err
returns-in-Some-clause-err c =
    let is = c.in_ok-types.ensures ∙ ap (types_for c.args.program.now) c.main_params-params.ensures in
    let same : length c.in_ok-numbers.numbers.items ≡ length c.in_ok-types.types.items =
    omega (arith, c.if-len.false, c.in_ok-numbers.numbers.ok.0, c.in_ok-types.types.ok.0) in
    let first = c.in-Some.ensures ∙ ap (λ ts. first_where is_outside (zip ts c.as_slice-2.result.now))
    c.as_slice.ensures.value
    ∙ ap (λ zs. first_where is_outside (zip c.in_ok-types.types.items zs)) c.as_slice-2.ensures.value in
    ap (λ ts. fault_of ts (pieces_of c.args.text.now)) (sym is)
    ∙ fault-outside _ (pieces_of c.args.text.now) _ (Some c.in-Some.number) c.in_ok-numbers.ensures.ok same
    first

-- the input at the end
the_input : (c : goal.After-drop-numbers-2) → IsInputOf c.args.program.now c.args.text.now (record {
  values
      = c.from_vec.result;
})
the_input c =
    let is = c.in_ok-types.ensures ∙ ap (types_for c.args.program.now) c.main_params-params.ensures in
    let same : length c.in_ok-numbers.numbers.items ≡ length c.in_ok-types.types.items =
    omega (arith, c.if-len.false, c.in_ok-numbers.numbers.ok.0, c.in_ok-types.types.ok.0) in
    let made = c.from_vec.ensures ∙ c.in_ok-values.ensures
    ∙ ap (λ vs. values_for c.args.program.now vs c.as_slice-3.result.now) c.main_params-params.ensures
    ∙ ap (values_for c.args.program.now (main_of c.args.program.now).params) c.as_slice-3.ensures.value in
    let first = ap (λ ts. first_where is_outside (zip ts c.as_slice-2.result.now)) c.as_slice.ensures.value
    ∙ ap (λ zs. first_where is_outside (zip c.in_ok-types.types.items zs)) c.as_slice-2.ensures.value in
    is-input c.args.program.now c.args.text.now _ _ c.first_outside.result c.from_vec.result
    c.in_ok-numbers.ensures.ok is same
    (c.first_outside.ensures ∙ first)
    (only-none c.first_outside.result c.in_default.not-Some) made

pub returns-clause-ok : goal.returns-clause-ok
returns-clause-ok c = the_input c

pub returns-clause-fits : goal.returns-clause-fits
returns-clause-fits c =
    input-kept c.args.program.now c.args.text.now (record { values = c.from_vec.result }) (the_input c)
