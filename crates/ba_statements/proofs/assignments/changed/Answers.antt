use Rattle.std.proofs.Common.{Option, sym, subst}
use Rattle.ba_numbers.specs.declared.numbers.BinOp.{BinOp}
use Rattle.ba_statements.specs.Adding.{typed_target_of}
use Rattle.ba_expressions.specs.Inferring.{Infers}
use Rattle.ba_typing.specs.Statements.{changed}
use Rattle.ba_expressions.proofs.Inferences.{if-ok}
use Rattle.ba_statements.proofs.assignments.changed.Goals as goal

pub returns-in-None : goal.returns-in-None
returns-in-None c e is = let place = typed_target_of c.args.target.now c.args.scope.now c.args.before.calls in
    subst (λ (o : Option BinOp). Infers c.args.value (changed o place.expression e)) (sym c.in-None.is) is

pub returns-in_ok-left-in-Some : goal.returns-in_ok-left-in-Some
returns-in_ok-left-in-Some c =
    let place = typed_target_of c.args.target.now c.args.scope.now c.args.before.calls in
    if-ok c.value.result _ _ (λ j made e is.
    subst (λ (o : Option BinOp). Infers j (changed o place.expression e)) (sym c.in-Some.is)
    (made place.expression e c.in_ok-left-in-Some.ensures is)) c.value.ensures
