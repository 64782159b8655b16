use Rattle.std.proofs.Common.{Bool, sym, ◌∙◌, ap}
use Rattle.std.proofs.lemmas.Result.{on_ok_weaker}
use Rattle.ba_statements.specs.Adding.{state_with, behind_part}
use Rattle.ba_types.specs.Filing.{declaring_param}
use Rattle.ba_types.proofs.ParameterSteps.{looked-is}
use Rattle.ba_types.proofs.parameters.declare_param.Goals as goal

pub returns-else-owner : goal.returns-else-owner
returns-else-owner c = let o = c.args.owner in let w = c.args.work.now in let scope = c.args.scope.now in
    on_ok_weaker c.check_length.result (λ checked stmts.
    looked-is o.is_main c.args.at c.args.t c.args.parameter.now scope w c.check_length.new.work stmts
    (checked stmts)
    ∙ ap (λ (b : Bool). behind_part (declaring_param o.is_main b c.args.at c.args.t c.args.parameter.now)
    (state_with scope w stmts)) (sym c.if-owner.false)) c.check_length.ensures
