use Rattle.std.proofs.Common.{Bool, ◌∙◌, ap}
use Rattle.ba_typing.specs.Faults.{fault_if}
use Rattle.ba_typing.specs.Files.{param_length}
use Rattle.ba_expressions.specs.Inferring.{with_faults}
use Rattle.ba_typing.specs.declared.fault.Cause.TheVariants.{BadLength}
use Rattle.ba_types.proofs.ParameterSteps.{checked-is}
use Rattle.ba_types.proofs.parameters.check_length.Goals as goal

pub returns : goal.returns
returns c stmts =
    let w = c.args.work.now in let scope = c.args.scope.now in let t = c.length_of_param.new.tally in
    checked-is c.args.at (param_length c.args.is_main c.args.at c.args.length.now scope w.tally.calls)
    c.in_ok-found.found scope w t c.add_if.new.self stmts c.in_ok-found.ensures
    (c.add_if.ensures ∙ ap (λ (b : Bool). with_faults t (fault_if b BadLength c.args.at)) c.is_bad.ensures)
