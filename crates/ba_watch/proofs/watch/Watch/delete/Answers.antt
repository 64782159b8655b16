use Rattle.std.proofs.Common.{length, subst, sym}
use Rattle.ba_watch.specs.Propagation.{State}
use Rattle.ba_watch.specs.Deletion.{MayDelete}
use Rattle.ba_watch.proofs.Sounds.{state}
use Rattle.ba_watch.proofs.DeletedSound.{alone_in, reasons_kept, waiting_live, Sound-delete}
use Rattle.ba_watch.proofs.watch.Watch.delete.Goals as goal

pub delete_all-requires-clause-alone : goal.delete_all-requires-clause-alone
delete_all-requires-clause-alone c =
    let i = c.self.inside in
    let may : MayDelete (state i.lists.arena i.trail i.settled) c.args.numbers.now =
    subst (λ (s : State). MayDelete s c.args.numbers.now) (sym c.self.view_is) c.requires in
    alone_in i.lists.arena (length i.lists.heads.items) i.lists.pending i.trail i.head i.waiting.items
    i.settled
    c.args.numbers.now c.self.invariant.0 may

pub delete_all-requires-clause-reasons : goal.delete_all-requires-clause-reasons
delete_all-requires-clause-reasons c =
    let i = c.self.inside in
    let may : MayDelete (state i.lists.arena i.trail i.settled) c.args.numbers.now =
    subst (λ (s : State). MayDelete s c.args.numbers.now) (sym c.self.view_is) c.requires in
    reasons_kept i.lists.arena (length i.lists.heads.items) i.lists.pending i.trail i.head i.waiting.items
    i.settled
    c.args.numbers.now c.self.invariant.0 may

pub delete_all-requires-clause-waiting : goal.delete_all-requires-clause-waiting
delete_all-requires-clause-waiting c =
    let i = c.self.inside in
    let may : MayDelete (state i.lists.arena i.trail i.settled) c.args.numbers.now =
    subst (λ (s : State). MayDelete s c.args.numbers.now) (sym c.self.view_is) c.requires in
    waiting_live i.lists.arena (length i.lists.heads.items) i.lists.pending i.trail i.head i.waiting.items
    i.settled
    c.args.numbers.now c.self.invariant.0 may

pub invariant_of-self : goal.invariant_of-self
invariant_of-self c =
    let i = c.self.inside in
    let may : MayDelete (state i.lists.arena i.trail i.settled) c.args.numbers.now =
    subst (λ (s : State). MayDelete s c.args.numbers.now) (sym c.self.view_is) c.requires in (
      Sound-delete i.lists.arena (length i.lists.heads.items) i.lists.pending i.trail i.head i.waiting.items
          i.settled
          c.args.numbers.now c.self.invariant.0 may c.delete_all.new.lists.arena c.delete_all.new.trail
          c.delete_all.new.waiting.items c.delete_all.new.references.items c.delete_all.ensures.deletes
          (length c.delete_all.new.lists.heads.items) c.delete_all.new.lists.pending
          c.delete_all.ensures.heads
          c.delete_all.ensures.pending,
      c.delete_all.ensures.deletes.referenced,
    )
