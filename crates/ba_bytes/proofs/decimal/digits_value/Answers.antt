use Rattle.std.proofs.Common.{◌+◌, ◌-◌, ◌*◌, ◌^◌, min, take, get_or, sym, ap, ◌∙◌}
use Rattle.std.specs.Char.{digit_value}
use Rattle.std.specs.Str.Parse.{digits_value}
use Rattle.std.proofs.lemmas.Int.Digits.{digits_value_more}
use Rattle.ba_bytes.proofs.Saturation.{saturated_digit}
use Rattle.ba_bytes.proofs.decimal.digits_value.Goals as goal

pub loop-digit-preserved : goal.loop-digit-preserved
loop-digit-preserved c =
    let greatest = 2 ^ 64 - 1 in
    let digits = c.args.digits.now in
    let i = c.loop-digit.digit-index in
    let before = digits_value 10 (take i digits) in
    let digit = digit_value (get_or digits i 0) in
    c.saturating_add-value.ensures
    ∙ ap (λ m. min (m + c.from.result) greatest) (c.saturating_mul.ensures ∙ ap (λ v. min (v * 10) greatest) c.loop-digit.invariant)
    ∙ ap (λ d. min (min (min before greatest * 10) greatest + d) greatest) (c.from.ensures ∙ c.digit_value.ensures.value)
    ∙ saturated_digit before digit greatest
    ∙ ap (λ v. min v greatest) (sym (digits_value_more 10 digits i c.loop-digit-test.true))
