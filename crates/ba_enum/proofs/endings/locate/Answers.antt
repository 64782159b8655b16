use Rattle.std.proofs.Common.{◌^◌, ◌<◌, subst}
use Rattle.ba_steps.specs.declared.step.CertStep.TheVariants.{EndLocated}
use Rattle.ba_checker.specs.States.{State}
use Rattle.ba_enum.proofs.EndLaws.{last_allowed, last_ends, last_formed}
use Rattle.ba_enum.proofs.LeadLaws.{leaves_none, leaves_one, leaves_tried}
use Rattle.ba_enum.proofs.endings.locate.Goals as goal

pub returns-in_err-sets-clause-leaves : goal.returns-in_err-sets-clause-leaves
returns-in_err-sets-clause-leaves g c =
    leaves_none (g.L.ProofLog.log c.args.log.now)

pub put-requires-clause-allowed : goal.put-requires-clause-allowed
put-requires-clause-allowed g c =
    last_allowed (g.L.ProofLog.log c.args.log.now).accepts (g.L.ProofLog.log c.args.log.now).checker
    c.args.found
    c.args.core.lits c.args.core.hints c.args.core.back
    c.requires.core c.requires.found.sets c.requires.may_put.ready

pub returns-in_err-put-clause-leaves : goal.returns-in_err-put-clause-leaves
returns-in_err-put-clause-leaves g c =
    let old = g.L.ProofLog.log c.args.log.now in
    let new = g.L.ProofLog.log c.put.new.log in
    leaves_tried old new (EndLocated c.args.core.lits c.args.core.hints)
    (last_allowed old.accepts old.checker c.args.found c.args.core.lits c.args.core.hints c.args.core.back
    c.requires.core c.requires.found.sets c.requires.may_put.ready)
    c.in_err-put.ensures.taken_or_asleep c.in_err-put.ensures.refused

pub returns-clause-ends : goal.returns-clause-ends
returns-clause-ends g c =
    let old = g.L.ProofLog.log c.args.log.now in
    let new = g.L.ProofLog.log c.put.new.log in
    let few : old.checker.variables < 2 ^ 62 =
    subst (λ (s : State). s.variables < 2 ^ 62) c.checker.ensures c.keeps_facts.ensures.few in
    last_ends old new c.args.found c.in_ok-sets.sets
    c.args.core.lits c.args.core.hints c.args.core.back c.args.weight
    c.requires.core c.requires.found.sets c.requires.may_put.ready c.requires.weight c.in_ok-sets.ensures.same
    c.in_ok-sets.ensures.order c.in_ok-sets.ensures.count
    (last_formed old.checker c.args.found c.args.core.lits c.args.core.hints c.args.core.back
    c.requires.core few)
    c.in_ok-put.ensures.taken c.in_ok-put.ensures.told

pub returns-clause-leaves : goal.returns-clause-leaves
returns-clause-leaves g c =
    let old = g.L.ProofLog.log c.args.log.now in
    let new = g.L.ProofLog.log c.put.new.log in
    leaves_one old new (EndLocated c.args.core.lits c.args.core.hints)
    (last_allowed old.accepts old.checker c.args.found c.args.core.lits c.args.core.hints c.args.core.back
    c.requires.core c.requires.found.sets c.requires.may_put.ready)
    c.in_ok-put.ensures.taken c.in_ok-put.ensures.told
