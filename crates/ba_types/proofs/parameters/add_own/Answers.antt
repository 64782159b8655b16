use Rattle.std.proofs.Common.{List, ◌∙◌, ap}
use Rattle.std.proofs.lemmas.Result.{on_ok_weaker}
use Rattle.ba_statements.specs.Adding.{state_with, behind_part}
use Rattle.ba_typing.specs.Declarations.{add_variable}
use Rattle.ba_typing.specs.Files.{param_length}
use Rattle.ba_typing.specs.declared.meanings.Signature.{Signature}
use Rattle.ba_types.proofs.ParameterSteps.{own-is}
use Rattle.ba_types.proofs.parameters.add_own.Goals as goal

pub returns : goal.returns
returns c =
    let p = c.args.parameter.now in let scope = c.args.scope.now in let w = c.args.work.now in
    let w1 = c.add_own_length.new.work in
    let expression = param_length c.args.is_main c.args.at p.length scope w.tally.calls in
    on_ok_weaker c.add_variable.result (λ declares stmts.
    own-is c.args.is_main c.args.at c.args.t p scope c.add_variable.new.scope w w1 c.add_variable.new.work
    stmts
    c.in_ok-length.length c.name_of_param-name.result c.unwrap_or.result c.param_shape.result
    c.in_ok-length.ensures c.name_of_param-name.ensures c.unwrap_or.ensures
    (c.param_shape.ensures expression c.in_ok-length.ensures.0)
    (declares stmts
    ∙ ap (λ (ss : List Signature). behind_part (add_variable ss c.args.at c.name_of_param-name.result
    (record { t = c.unwrap_or.result; shape = c.param_shape.result }))
    (state_with scope w1 stmts)) c.new-functions.ensures))
    c.add_variable.ensures
