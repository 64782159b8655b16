use Rattle.std.proofs.lemmas.Result.{on_ok_weaker}
use Rattle.ba_typing.specs.Names.{type_specified}
use Rattle.ba_types.proofs.FileSteps.{variables-filed}
use Rattle.ba_types.proofs.files.add_external_form.Goals as goal

pub returns-in-Variables : goal.returns-in-Variables
returns-in-Variables c =
    let x = c.args.external.now in
    on_ok_weaker c.add_optional_declarators.result (λ added.
    variables-filed x.form c.args.signature.now c.args.earlier.now c.args.scope.now
    c.add_optional_declarators.new.scope c.args.work.now c.add_optional_declarators.new.work c.args.inits.now
    c.add_optional_declarators.new.stmts c.args.functions.now c.type_specified-t.result
    (type_specified x.specifiers) c.in-Variables.declarators c.in-Variables.semicolon c.in-Variables.is
    c.type_specified-t.ensures added) c.add_optional_declarators.ensures
