use Rattle.std.proofs.Common.{ℕ, ◌+◌, ◌-◌, ◌≡◌, ap, subst, sym, ◌∙◌, ◌++◌, ◌∷◌, []}
use Rattle.std.proofs.lemmas.Result.{on_ok_weaker}
use Rattle.ba_learn.specs.Resolving.{Work, IsWork, Resolves, with_resolved}
use Rattle.ba_learn.proofs.ReasonLaws.{reason_live, reason_below}
use Rattle.ba_learn.proofs.ResolveLaws.{pending_reason, resolved_resolves, resolved_work}
use Rattle.ba_learn.proofs.resolution.Resolution.resolve_pending.Goals as goal

-- one pending place fewer, and one resolved more
less : {v w : Work} (place : ℕ) → v ≡ w → with_resolved (record v { pending = v.pending - 1 }) place
    ≡ record w { pending = w.pending - 1; resolved = w.resolved ++ place ∷ [] }
less place is = ap (λ (w : Work).
    record w { pending = w.pending - 1; resolved = w.resolved ++ place ∷ [] }) is

pub reason_at-reason-requires-clause-reason : goal.reason_at-reason-requires-clause-reason
reason_at-reason-requires-clause-reason c =
    let r = c.requires in
    pending_reason c.args.watch.now c.args.self.now c.args.place r.work r.start r.floor
    (r.work.ranged c.args.place r.seen) r.others

pub meet_all-requires-clause-live : goal.meet_all-requires-clause-live
meet_all-requires-clause-live c = reason_live c.args.watch.now c.args.place c.reason_at-reason.result
    c.keeps_facts.ensures (c.requires.work.ranged c.args.place c.requires.seen) c.reason_at-reason.ensures

pub meet_all-requires-clause-may : goal.meet_all-requires-clause-may
meet_all-requires-clause-may c = (
  c.args.place + 1,
  c.requires.work,
  reason_below c.args.watch.now c.args.place c.reason_at-reason.result c.keeps_facts.ensures
      (c.requires.work.ranged c.args.place c.requires.seen) c.reason_at-reason.ensures,
)

pub returns-clause-resolves : goal.returns-clause-resolves
returns-clause-resolves c =
    let r = c.requires in
    on_ok_weaker c.push_resolved.result
    (λ is. subst (Resolves c.args.watch.now c.args.self.now) (sym (is ∙ less c.args.place c.self.view_is))
    (resolved_resolves c.args.watch.now c.args.self.now c.meet_all.new.self c.args.place
    c.reason_at-reason.result c.keeps_facts.ensures c.reason_at-reason.ensures r.work r.seen r.floor
    c.in_ok-meet_all.ensures))
    c.push_resolved.ensures

pub returns-clause-work : goal.returns-clause-work
returns-clause-work c =
    let r = c.requires in
    on_ok_weaker c.push_resolved.result
    (λ is. subst (IsWork c.args.watch.now c.args.place) (sym (is ∙ less c.args.place c.self.view_is))
    (resolved_work c.args.watch.now c.args.self.now c.meet_all.new.self c.args.place
    c.reason_at-reason.result c.keeps_facts.ensures c.reason_at-reason.ensures r.work r.seen r.floor
    c.in_ok-meet_all.ensures r.shallow))
    c.push_resolved.ensures
