use Rattle.std.proofs.Common.{subst}
use Rattle.ba_steps.specs.declared.step.CertStep.TheVariants.{EndNoRepair, EndTooMany, EndSpent}
use Rattle.ba_enum.specs.Turning.{IsEnd}
use Rattle.ba_enum.proofs.EndLaws.{none_allowed, many_allowed, spent_allowed}
use Rattle.ba_enum.proofs.LeadLaws.{leaves_one, leaves_tried}
use Rattle.ba_enum.proofs.endings.finish.Goals as goal

pub returns-in_err-put-in-NoModel-clause-leaves : goal.returns-in_err-put-in-NoModel-clause-leaves
returns-in_err-put-in-NoModel-clause-leaves g c =
    let old = g.L.ProofLog.log c.args.log.now in
    let new = g.L.ProofLog.log c.put.new.log in
    let end = subst (IsEnd old.checker c.args.found) c.in-NoModel.is c.requires.end in
    leaves_tried old new (EndNoRepair c.in-NoModel.hints)
    (none_allowed old.accepts old.checker c.args.found c.in-NoModel.hints end.0 end.2 end.3
    c.requires.found.sets
    c.requires.may_put.ready)
    c.in_err-put-in-NoModel.ensures.taken_or_asleep c.in_err-put-in-NoModel.ensures.refused

pub returns-in_ok-put-in-NoModel-clause-leaves : goal.returns-in_ok-put-in-NoModel-clause-leaves
returns-in_ok-put-in-NoModel-clause-leaves g c =
    let old = g.L.ProofLog.log c.args.log.now in
    let new = g.L.ProofLog.log c.put.new.log in
    let end = subst (IsEnd old.checker c.args.found) c.in-NoModel.is c.requires.end in
    leaves_one old new (EndNoRepair c.in-NoModel.hints)
    (none_allowed old.accepts old.checker c.args.found c.in-NoModel.hints end.0 end.2 end.3
    c.requires.found.sets
    c.requires.may_put.ready)
    c.in_ok-put-in-NoModel.ensures.taken c.in_ok-put-in-NoModel.ensures.told

pub returns-in_err-put-in-TooMany-clause-leaves : goal.returns-in_err-put-in-TooMany-clause-leaves
returns-in_err-put-in-TooMany-clause-leaves g c =
    let old = g.L.ProofLog.log c.args.log.now in
    let new = g.L.ProofLog.log c.put-in-TooMany.new.log in
    leaves_tried old new EndTooMany
    (many_allowed old.accepts old.checker c.args.found (subst (IsEnd old.checker c.args.found) c.in-TooMany.is
    c.requires.end) c.requires.found.sets c.requires.may_put.ready)
    c.in_err-put-in-TooMany.ensures.taken_or_asleep c.in_err-put-in-TooMany.ensures.refused

pub returns-in_ok-put-in-TooMany-clause-leaves : goal.returns-in_ok-put-in-TooMany-clause-leaves
returns-in_ok-put-in-TooMany-clause-leaves g c =
    let old = g.L.ProofLog.log c.args.log.now in
    let new = g.L.ProofLog.log c.put-in-TooMany.new.log in
    leaves_one old new EndTooMany
    (many_allowed old.accepts old.checker c.args.found (subst (IsEnd old.checker c.args.found) c.in-TooMany.is
    c.requires.end) c.requires.found.sets c.requires.may_put.ready)
    c.in_ok-put-in-TooMany.ensures.taken c.in_ok-put-in-TooMany.ensures.told

pub returns-in_err-put-in-Spent-clause-leaves : goal.returns-in_err-put-in-Spent-clause-leaves
returns-in_err-put-in-Spent-clause-leaves g c =
    let old = g.L.ProofLog.log c.args.log.now in
    let new = g.L.ProofLog.log c.put-in-Spent.new.log in
    leaves_tried old new EndSpent
    (spent_allowed old.accepts old.checker (subst (IsEnd old.checker c.args.found) c.in-Spent.is
    c.requires.end)
    c.requires.may_put.ready)
    c.in_err-put-in-Spent.ensures.taken_or_asleep c.in_err-put-in-Spent.ensures.refused

pub returns-in_ok-put-in-Spent-clause-leaves : goal.returns-in_ok-put-in-Spent-clause-leaves
returns-in_ok-put-in-Spent-clause-leaves g c =
    let old = g.L.ProofLog.log c.args.log.now in
    let new = g.L.ProofLog.log c.put-in-Spent.new.log in
    leaves_one old new EndSpent
    (spent_allowed old.accepts old.checker (subst (IsEnd old.checker c.args.found) c.in-Spent.is
    c.requires.end)
    c.requires.may_put.ready)
    c.in_ok-put-in-Spent.ensures.taken c.in_ok-put-in-Spent.ensures.told
