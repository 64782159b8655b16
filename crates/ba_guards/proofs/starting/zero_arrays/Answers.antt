use Rattle.std.proofs.Common.{[], sym, subst, arith}
use Rattle.std.proofs.lemmas.List.{take_all}
use Rattle.ba_guards.proofs.Beginning.{next-zeros, zeros-none}
use Rattle.ba_guards.specs.Starting.{AreZero}
use Rattle.ba_guards.proofs.starting.zero_arrays.Goals as goal

pub loop-info-init : goal.loop-info-init
loop-info-init c = λ fit infos. subst (λ ws. AreZero c.args.words.now c.args.words.now ws []) (sym
    c.new-versions.ensures)
    (zeros-none c.args.words.now fit)

pub loop-info-preserved : goal.loop-info-preserved
loop-info-preserved c = λ fit infos.
    next-zeros c.args.words.now c.loop-info.words c.zeros.new.self c.loop-info.versions c.push.new.self
    c.args.arrays.now
    c.loop-info.info-index _ c.in_ok-version.version (c.loop-info.invariant fit infos) infos
    c.loop-info-test.true
    c.in_ok-version.ensures c.in_ok-push.ensures

pub returns : goal.returns
returns c = λ fit infos. subst (AreZero c.args.words.now c.loop-info.words c.loop-info.versions)
    (take_all c.loop-info.info-index c.args.arrays.now (omega arith)) (c.loop-info.invariant fit infos)
