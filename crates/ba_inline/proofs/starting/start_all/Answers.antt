use Rattle.std.proofs.Common.{rules, subst}
use Rattle.std.proofs.lemmas.List.{get_or_default, take_all}
use Rattle.ba_inline.proofs.Started.{starts-more, starts-nothing}
use Rattle.ba_inline.specs.Starting.{Starts}
use Rattle.ba_inline.proofs.starting.start_all.Goals as goal

pub loop-var-init : goal.loop-var-init
loop-var-init c = starts-nothing c.args.setting.now.program.now c.args.scope.now c.args.declared.now

pub loop-var-preserved : goal.loop-var-preserved
loop-var-preserved c =
    let vs = c.args.vars.now in
    let i = c.loop-var.var-index in
    starts-more c.args.setting.now.program.now c.args.scope.now c.loop-var.scope c.start_one.new.scope vs i _
    c.args.declared.now c.loop-var.declared c.start_one.new.declared c.loop-var.invariant
    c.in_ok-start_one.ensures
    (search rules) (get_or_default vs i _ _ (search rules))

pub returns : goal.returns
returns c = subst (λ vs. Starts c.args.setting.now.program.now c.args.scope.now c.loop-var.scope vs
    c.args.declared.now
    c.loop-var.declared) (take_all c.loop-var.var-index c.args.vars.now (search rules)) c.loop-var.invariant
