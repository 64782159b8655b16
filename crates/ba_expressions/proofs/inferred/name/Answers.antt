use Rattle.std.proofs.Common.{◌≡◌, SFits, w64, to_z, of_z, to_z-of_z, rules, sym, subst}
use Rattle.ba_numbers.specs.declared.numbers.CType.TheVariants.{I32}
use Rattle.ba_typing.specs.Expressions.{typed_constant, typed_name}
use Rattle.ba_expressions.specs.Inferring.{Infers}
use Rattle.ba_expressions.proofs.Inferences.{if-ok, other-name}
use Rattle.ba_expressions.proofs.inferred.name.Goals as goal

pub returns-in_ok-j-in-Constant : goal.returns-in_ok-j-in-Constant
returns-in_ok-j-in-Constant c =
    let z = c.in-Constant.value in
    let fits : SFits w64 z = search rules in
    let same : to_z w64 (of_z w64 z) ≡ z = to_z-of_z fits in
    subst (λ m. Infers c.called.result (typed_name c.args.at c.args.name m)) (sym c.in-Constant.is)
    (c.called.ensures (typed_constant c.args.at I32 z)
    (subst (λ z. Infers c.in_ok-j-in-Constant.j (typed_constant c.args.at I32 z)) same
    c.in_ok-j-in-Constant.ensures))

pub returns-in_default : goal.returns-in_default
returns-in_default c = if-ok c.name_of_variable.result _ _ (λ j is.
    subst (Infers j) (other-name c.args.at c.args.name c.args.meaning.now c.in_default.not-Constant) is)
    c.name_of_variable.ensures
