use Rattle.std.proofs.Common.{refl, subst, ◌∙◌, List, ℕ}
use Rattle.ba_watch.specs.Threads.{pending_of}
use Rattle.ba_watch.specs.Propagation.{IsUnderway}
use Rattle.ba_watch.proofs.Visits.{Underway-start, Underway-next, none_from, nothing_pending}
use Rattle.ba_watch.proofs.propagation.propagate_literal.Goals as goal

pub loop-lists-init : goal.loop-lists-init
loop-lists-init c = record {
  visited = refl;
  heads = refl;
  underway = Underway-start c.args.lists.now.arena c.args.trail.now c.args.lists.now.visited _
      c.requires.taken;
}

pub loop-lists-preserved : goal.loop-lists-preserved
loop-lists-preserved c =
    let e = c.visit_next-conflict.ensures in
    let i = c.loop-lists.invariant in
    record {
      visited = e.visited ∙ i.visited;
      heads = e.heads ∙ i.heads;
      underway = Underway-next c.args.lists.now.arena c.loop-lists.lists.arena
          c.visit_next-conflict.new.lists.arena c.args.trail.now c.loop-lists.trail
          c.visit_next-conflict.new.trail c.args.lists.now.visited c.loop-lists.lists.visited
          c.in-Some.clause _ _ c.loop-lists.conflict c.visit_next-conflict.result i.underway i.visited
          e.pending
          (e.underway c.args.lists.now.arena c.args.trail.now
          (pending_of c.visit_next-conflict.new.lists.arena c.visit_next-conflict.new.lists.visited
          c.visit_next-conflict.new.lists.pending));
    }

pub returns-clause-underway : goal.returns-clause-underway
returns-clause-underway c =
    subst (λ (xs : List ℕ). IsUnderway c.args.lists.now.arena c.loop-lists.lists.arena c.args.trail.now
    c.loop-lists.trail c.args.lists.now.visited xs c.loop-lists.conflict)
    (nothing_pending c.loop-lists.lists.arena c.loop-lists.lists.visited c.loop-lists.lists.pending
    (none_from c.loop-lists.lists.pending c.in_default.not-Some)) c.loop-lists.invariant.underway
