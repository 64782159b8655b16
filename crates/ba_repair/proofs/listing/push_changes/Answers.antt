use Rattle.std.proofs.Common.{rules, pos, ◌+ℤ◌, ◌-ℤ◌, SFits, w64, to_z-of_z, ◌∙◌, ap}
use Rattle.std.proofs.lemmas.Result.{on_ok_weaker}
use Rattle.ba_numbers.specs.Numbers.{converted}
use Rattle.ba_repair.proofs.EditLists.{constant-edits}
use Rattle.ba_repair.proofs.listing.push_changes.Goals as goal

pub returns-in_ok-push_edit-in-Constant : goal.returns-in_ok-push_edit-in-Constant
returns-in_ok-push_edit-in-Constant c =
    let fits : SFits w64 c.in-Constant.value = search rules in
    let less : SFits w64 c.less_one-to.result = search rules in
    let more : SFits w64 c.plus_one-to.result = search rules in
    on_ok_weaker c.push_edit-in-Constant.result
    (λ second. constant-edits c.args.stmt c.args.number c.args.node c.in-Constant.t c.in-Constant.value
    _ _ _ _ _ _ _
    c.in-Constant.is c.in_ok-push_edit-in-Constant.ensures second (to_z-of_z fits) (to_z-of_z fits)
    (to_z-of_z less ∙ c.less_one-to.ensures ∙ ap (λ z. converted c.in-Constant.t (z -ℤ pos 1)) (to_z-of_z fits))
    (to_z-of_z more ∙ c.plus_one-to.ensures ∙ ap (λ z. converted c.in-Constant.t (z +ℤ pos 1)) (to_z-of_z fits)))
    c.push_edit-in-Constant.ensures
