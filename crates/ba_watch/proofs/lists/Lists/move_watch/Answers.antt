use Rattle.ba_watch.proofs.ListSteps.{move_step}
use Rattle.std.proofs.Common.{◌≡◌, ℕ, Option, ap, ◌∙◌}
use Rattle.ba_arena.specs.Clauses.{Clauses, lits_at, changed, linked}
use Rattle.ba_lits.specs.Literals.{index_of}
use Rattle.ba_watch.specs.Threads.{index_at}
use Rattle.ba_watch.proofs.lists.Lists.move_watch.Goals as goal

pub invariant_of-self : goal.invariant_of-self
invariant_of-self c =
    let index : c.index-index.result ≡ index_at (lits_at c.args.self.now.arena c.args.clause) c.args.other =
    c.index-index.ensures.index ∙ ap index_of c.lit.ensures in
    let with_link : Option ℕ → Clauses = λ link. changed (linked c.args.place link) c.swap.new.self
    c.args.clause in
    let linked_is : c.set_link.new.self ≡ with_link c.index.result.now =
    c.set_link.ensures ∙ ap with_link c.get-head.ensures in
    record {
      threaded = rw c.some.ensures (move_step c.args.self.now.arena c.swap.new.self c.set_link.new.self
          c.args.self.now.heads.items c.args.self.now.visited c.index-index.result c.args.clause
          c.args.place c.args.other c.args.self.now.pending c.link-next.result c.index.result.now
          c.args.self.now.threaded c.requires.next c.requires.place c.requires.unwatched c.requires.other
          c.requires.watched index c.requires.within c.link-next.ensures c.index.ensures c.swap.ensures
          linked_is).0;
    }

pub returns-clause-pending : goal.returns-clause-pending
returns-clause-pending c =
    let index : c.index-index.result ≡ index_at (lits_at c.args.self.now.arena c.args.clause) c.args.other =
    c.index-index.ensures.index ∙ ap index_of c.lit.ensures in
    let with_link : Option ℕ → Clauses = λ link. changed (linked c.args.place link) c.swap.new.self
    c.args.clause in
    let linked_is : c.set_link.new.self ≡ with_link c.index.result.now =
    c.set_link.ensures ∙ ap with_link c.get-head.ensures in
    (move_step c.args.self.now.arena c.swap.new.self c.set_link.new.self c.args.self.now.heads.items
    c.args.self.now.visited c.index-index.result c.args.clause c.args.place c.args.other
    c.args.self.now.pending c.link-next.result c.index.result.now c.args.self.now.threaded
    c.requires.next c.requires.place c.requires.unwatched c.requires.other c.requires.watched index
    c.requires.within c.link-next.ensures c.index.ensures c.swap.ensures linked_is).1
