use Rattle.std.proofs.Common.{◌∙◌, map, sym, ap, subst}
use Rattle.ba_arena.specs.Clauses.{Clauses, AreReferences}
use Rattle.ba_arena.specs.Compaction.{compacted, forwarded}
use Rattle.ba_arena.specs.Words.{clauses_of, AreWords, IsWiped}
use Rattle.ba_arena.proofs.Compactions.{compacts, moved-is, led-is, planned_outside}
use Rattle.ba_arena.proofs.Arena.compact.Goals as goal

pub rewrite-requires-clause-words : goal.rewrite-requires-clause-words
rewrite-requires-clause-words c = subst AreWords (sym c.as_slice.ensures.value) c.wipe.ensures.words

pub rewrite-requires-clause-wiped : goal.rewrite-requires-clause-wiped
rewrite-requires-clause-wiped c = subst IsWiped (sym c.as_slice.ensures.value) c.wipe.ensures.wiped

pub rewrite-requires-clause-kept : goal.rewrite-requires-clause-kept
rewrite-requires-clause-kept c =
    subst (λ (cs : Clauses). AreReferences cs c.args.kept.now)
    (sym (ap (clauses_of 0) c.as_slice.ensures.value ∙ (c.wipe.ensures.clauses ∙ c.self.view_is)))
    (planned_outside c.args.self.now c.plan.new.self c.plan.ensures c.args.kept.now c.requires.kept)

pub rewrite-requires-2-clause-words : goal.rewrite-requires-2-clause-words
rewrite-requires-2-clause-words c = subst AreWords (sym c.as_slice-2.ensures.value) c.wipe.ensures.words

pub rewrite-requires-2-clause-wiped : goal.rewrite-requires-2-clause-wiped
rewrite-requires-2-clause-wiped c = subst IsWiped (sym c.as_slice-2.ensures.value) c.wipe.ensures.wiped

pub rewrite-requires-2-clause-kept : goal.rewrite-requires-2-clause-kept
rewrite-requires-2-clause-kept c =
    subst (λ (cs : Clauses). AreReferences cs c.args.others.now)
    (sym (ap (clauses_of 0) c.as_slice-2.ensures.value ∙ (c.wipe.ensures.clauses ∙ c.self.view_is)))
    (planned_outside c.args.self.now c.plan.new.self c.plan.ensures c.args.others.now c.requires.others)

pub move_down-requires : goal.move_down-requires
move_down-requires c = c.wipe.ensures.words

pub returns-clause-compacts : goal.returns-clause-compacts
returns-clause-compacts c =
    compacts c.args.self.now c.plan.new.self c.plan.ensures _ (c.move_down.ensures.clauses
    ∙ ap compacted (c.wipe.ensures.clauses ∙ c.self.view_is))

pub returns-clause-kept : goal.returns-clause-kept
returns-clause-kept c =
    c.rewrite.ensures ∙ (ap (λ (cs : Clauses). map (forwarded cs) c.args.kept.now)
    (ap (clauses_of 0) c.as_slice.ensures.value ∙ (c.wipe.ensures.clauses ∙ c.self.view_is))
    ∙ led-is c.args.self.now c.plan.new.self c.plan.ensures c.args.kept.now)

pub returns-clause-others : goal.returns-clause-others
returns-clause-others c =
    c.rewrite-2.ensures ∙ (ap (λ (cs : Clauses). map (forwarded cs) c.args.others.now)
    (ap (clauses_of 0) c.as_slice-2.ensures.value ∙ (c.wipe.ensures.clauses ∙ c.self.view_is))
    ∙ led-is c.args.self.now c.plan.new.self c.plan.ensures c.args.others.now)

pub returns-clause-live : goal.returns-clause-live
returns-clause-live c =
    c.follow.ensures ∙ moved-is c.args.self.now c.plan.new.self c.plan.ensures c.args.live.now c.requires.live
