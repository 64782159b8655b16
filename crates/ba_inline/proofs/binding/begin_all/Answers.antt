use Rattle.std.proofs.Common.{rules, ◌++◌, take, subst}
use Rattle.std.proofs.lemmas.List.{get_or_default, take_all}
use Rattle.ba_inline.proofs.Rows.{begun-more}
use Rattle.ba_inline.specs.Binding.{Binds}
use Rattle.ba_tree.specs.Run.{begin_all}
use Rattle.ba_inline.proofs.binding.begin_all.Goals as goal

pub loop-var-preserved : goal.loop-var-preserved
loop-var-preserved c = λ names own begun low base scope binds.
    let p = c.args.setting.now.program.now in
    let vs = c.args.vars.now in
    let i = c.loop-var.var-index in
    begun-more p names c.begin_one.new.scope low c.begin_one.new.declared base c.begin_one.new.out.items
    own vs i _ begun
    (c.in_ok-begin_one.ensures names (own ++ take i vs) (λ t. begin_all p (take i vs) (begun t)) low base
    scope
    (c.loop-var.invariant names own begun low base scope binds)) (search rules) (get_or_default vs i _ _
    (search rules))

pub returns : goal.returns
returns c = λ names own begun low base scope binds.
    subst (λ vs. Binds c.args.setting.now.program.now names (own ++ vs)
    (λ t. begin_all c.args.setting.now.program.now vs (begun t)) c.loop-var.scope low c.loop-var.declared base
    c.loop-var.out.items) (take_all c.loop-var.var-index c.args.vars.now (search rules))
    (c.loop-var.invariant names own begun low base scope binds)
