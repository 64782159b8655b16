use Rattle.std.proofs.Common.{ℤ, ◌+ℤ◌, pos, SFits, w64, to_z-of_z, rules, sym, ◌∙◌, ap}
use Rattle.std.specs.Prelude.{unwrap_or}
use Rattle.ba_numbers.specs.Numbers.{converted, value_of}
use Rattle.ba_numbers.specs.declared.numbers.CType.TheVariants.{I32}
use Rattle.ba_typing.specs.Declarations.{following}
use Rattle.ba_statements.proofs.declarations.following.Goals as goal

pub returns-in-Some : goal.returns-in-Some
unfolding value_of
returns-in-Some c =
    let z = c.in-Some.value in
    let given : SFits w64 z = search rules in
    let fits : SFits w64 c.unwrap_or.result = search rules in
    to_z-of_z fits ∙ c.unwrap_or.ensures ∙ ap (λ z. unwrap_or z (pos 0)) c.apply.ensures.value
    ∙ ap (λ (z : ℤ). converted I32 (z +ℤ pos 1)) (to_z-of_z given) ∙ sym (ap following c.in-Some.is)
