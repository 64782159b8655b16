use Rattle.std.proofs.Common.{rules, subst}
use Rattle.std.proofs.lemmas.List.{get_or_default, take_all}
use Rattle.ba_inline.proofs.Parameters.{params-more}
use Rattle.ba_inline.specs.Starting.{AreParams}
use Rattle.ba_inline.proofs.starting.params_of.Goals as goal

pub loop-var-preserved : goal.loop-var-preserved
loop-var-preserved c =
    let vs = c.args.vars.now in
    let i = c.loop-var.var-index in
    params-more c.args.setting.now.program.now c.args.scope.now c.args.globals c.args.declared.now vs i _
    c.in_ok-param_of.field-0 c.loop-var.params.items c.push.new.self.items c.loop-var.invariant
    c.in_ok-param_of.ensures
    (search rules) (get_or_default vs i _ _ (search rules)) c.in_ok-push.ensures.items

pub returns : goal.returns
returns c = subst (λ vs. AreParams c.args.setting.now.program.now c.args.scope.now c.args.globals
    c.args.declared.now vs
    c.loop-var.params.items) (take_all c.loop-var.var-index c.args.vars.now (search rules))
    c.loop-var.invariant
