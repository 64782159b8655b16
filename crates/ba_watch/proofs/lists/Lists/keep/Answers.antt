use Rattle.std.proofs.Common.{◌≡◌, ℕ, Option, ap, ◌∙◌}
use Rattle.ba_arena.specs.Clauses.{Clauses, changed, linked}
use Rattle.ba_watch.proofs.ListSteps.{keep_step, pending_live}
use Rattle.ba_watch.proofs.lists.Lists.keep.Goals as goal

pub link-next-requires-clause-live : goal.link-next-requires-clause-live
link-next-requires-clause-live c = pending_live _ _ _ _ _ c.args.self.now.threaded c.requires.next

pub set_link-requires-clause-live : goal.set_link-requires-clause-live
set_link-requires-clause-live c = pending_live _ _ _ _ _ c.args.self.now.threaded c.requires.next

pub invariant_of-self : goal.invariant_of-self
invariant_of-self c =
    let with_link : Option ℕ → Clauses = λ link. changed (linked c.args.place link) c.args.self.now.arena
    c.args.clause in
    let linked_is : c.set_link.new.self ≡ with_link c.index.result.now =
    c.set_link.ensures ∙ ap with_link c.get-head.ensures in
    record {
      threaded = rw c.some.ensures (keep_step c.args.self.now.arena c.set_link.new.self
          c.args.self.now.heads.items c.args.self.now.visited c.args.clause c.args.place
          c.args.self.now.pending c.link-next.result c.index.result.now c.args.self.now.threaded
          c.requires.next c.requires.place c.requires.watched c.requires.within c.link-next.ensures
          c.index.ensures linked_is).0;
    }

pub returns-clause-pending : goal.returns-clause-pending
returns-clause-pending c =
    let with_link : Option ℕ → Clauses = λ link. changed (linked c.args.place link) c.args.self.now.arena
    c.args.clause in
    let linked_is : c.set_link.new.self ≡ with_link c.index.result.now =
    c.set_link.ensures ∙ ap with_link c.get-head.ensures in
    (keep_step c.args.self.now.arena c.set_link.new.self c.args.self.now.heads.items c.args.self.now.visited
    c.args.clause c.args.place c.args.self.now.pending c.link-next.result c.index.result.now
    c.args.self.now.threaded c.requires.next c.requires.place c.requires.watched c.requires.within
    c.link-next.ensures c.index.ensures linked_is).1
