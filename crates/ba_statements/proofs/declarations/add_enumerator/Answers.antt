use Rattle.std.proofs.Common.{ℤ, SFits, w64, to_z-of_z, rules, ◌∙◌, ap}
use Rattle.std.specs.Prelude.{unwrap_or}
use Rattle.ba_statements.proofs.Enumerating.{enumerator-is}
use Rattle.ba_statements.proofs.declarations.add_enumerator.Goals as goal

pub returns : goal.returns
returns c =
    let next = c.following.result in
    let fits : SFits w64 c.unwrap_or-value.result = search rules in
    let given : SFits w64 next = search rules in
    enumerator-is c.args.functions.now c.args.last c.args.enumerator.now c.args.scope.now
    c.add_constant.new.scope
    c.args.work.now c.add_constant.new.work c.optional_value.new.tally c.in_ok-written.written next _
    c.name_of-name.result c.in_ok-written.ensures c.following.ensures
    (to_z-of_z fits ∙ c.unwrap_or-value.ensures ∙ ap (λ (z : ℤ). unwrap_or c.in_ok-written.written z)
    (to_z-of_z given))
    c.name_of-name.ensures c.in_ok-add_constant.ensures
