use Rattle.std.proofs.Common.{SFits, w64, of_z, to_z, to_z-of_z, rules, sym, ◌∙◌, ap, subst}
use Rattle.ba_code.specs.Facts.{is_param}
use Rattle.ba_code.specs.Run.{with_param}
use Rattle.ba_guards.proofs.Beginning.{starts-array, starts-variable}
use Rattle.ba_guards.specs.Parts.{declared}
use Rattle.ba_guards.specs.Starting.{Starts}
use Rattle.ba_guards.proofs.starting.give.Goals as goal

pub returns-in_ok-set-in-Var : goal.returns-in_ok-set-in-Var
returns-in_ok-set-in-Var c = λ vars s here there all.
    let d = declared vars c.args.arrays.now in
    let fits : SFits w64 c.value_at.result = search rules in
    subst (λ p. Starts d c.set.new.b (with_param p c.args.values.now s)) (sym c.in-Var.is)
    (starts-variable d c.args.b.now c.set.new.b c.in-Var.number c.args.values.now
    (to_z w64 (of_z w64 c.value_at.result)) s here (ap (is_param d) (sym c.in-Var.is) ∙ there) all
    (to_z-of_z fits ∙ c.value_at.ensures) c.in_ok-set-in-Var.ensures)

pub returns-in_ok-fill-in-Array : goal.returns-in_ok-fill-in-Array
returns-in_ok-fill-in-Array c = λ vars s here there all.
    let d = declared vars c.args.arrays.now in
    subst (λ p. Starts d c.fill.new.b (with_param p c.args.values.now s)) (sym c.in-Array.is)
    (starts-array d c.args.b.now c.fill.new.b c.in-Array.number c.length_of.result c.args.values.now
    c.as_slice.result.now s here
    (ap (is_param d) (sym c.in-Array.is) ∙ there) all c.length_of.ensures
    (c.as_slice.ensures.value ∙ c.in_ok-constants-in-Array.ensures) c.in_ok-fill-in-Array.ensures)
