use Rattle.std.proofs.lemmas.Result.{on_ok_weaker}
use Rattle.ba_learn.proofs.ReasonLaws.{reason_live}
use Rattle.ba_learn.proofs.ResolveLaws.{may_meet_reason, met_reason}
use Rattle.ba_learn.proofs.resolution.Resolution.resolve.Goals as goal

pub meet_all-requires-clause-live : goal.meet_all-requires-clause-live
meet_all-requires-clause-live c = reason_live c.args.watch.now c.args.place c.reason_at-reason.result
    c.keeps_facts.ensures c.requires.within c.reason_at-reason.ensures

pub meet_all-requires-clause-may : goal.meet_all-requires-clause-may
meet_all-requires-clause-may c = may_meet_reason c.args.watch.now c.args.self.now _ c.args.place
    c.reason_at-reason.result c.keeps_facts.ensures c.reason_at-reason.ensures c.requires.within
    c.requires.may c.in_ok-push_resolved.ensures

pub returns : goal.returns
returns c = on_ok_weaker c.meet_all.result
    (met_reason c.args.watch.now c.args.self.now _ c.meet_all.new.self c.args.place
    c.reason_at-reason.result c.reason_at-reason.ensures c.in_ok-push_resolved.ensures) c.meet_all.ensures
