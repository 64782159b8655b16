use Rattle.std.proofs.Common.{◌<◌, refl, sym, ap, subst, ◌∙◌, arith, length}
use Rattle.ba_lits.specs.Literals.{negate}
use Rattle.ba_arena.specs.Clauses.{Clauses, lits_at}
use Rattle.ba_watch.specs.Propagation.{IsVisiting, Propagates}
use Rattle.ba_watch.proofs.Visits.{none_from}
use Rattle.ba_watch.proofs.Complete.{Propagates-none, Visiting-start, turn_next, turn_propagates}
use Rattle.ba_watch.proofs.propagation.propagate_all.Goals as goal

pub loop-head-init : goal.loop-head-init
loop-head-init c = record {
  facts = c.requires.facts;
  idle = c.requires.idle;
  heads = refl;
  propagates = Propagates-none c.args.lists.now.arena c.args.trail.now;
}

pub returns-in-Some-clause-propagates : goal.returns-in-Some-clause-propagates
returns-in-Some-clause-propagates c =
    let i = c.loop-head.invariant in
    let u = c.loop-head.trail in
    let inside : c.loop-head.head < length u.lits = omega (arith, c.loop-head-test.true, c.len.ensures.len) in
    let s : IsVisiting (lits_at c.take.new.self.arena) u.variables u.lits u.reasons c.loop-head.head
    c.take.new.self.visited =
    subst (λ (a : Clauses). IsVisiting (lits_at a) u.variables u.lits u.reasons c.loop-head.head
    c.take.new.self.visited) (sym c.take.ensures.arena)
    (Visiting-start _ _ _ _ _ _ c.negated-lit.result i.facts inside (c.negated-lit.ensures
    ∙ ap negate c.lit.ensures) (c.take.ensures.visited ∙ c.index.ensures.index)) in
    turn_propagates c.args.lists.now.arena _ _ c.args.trail.now _ _ _ _ _ s
    c.propagate_literal.ensures.underway (subst (λ (a : Clauses). Propagates c.args.lists.now.arena a
    c.args.trail.now u) (sym c.take.ensures.arena) i.propagates)

pub loop-head-preserved : goal.loop-head-preserved
loop-head-preserved c =
    let i = c.loop-head.invariant in
    let u = c.loop-head.trail in
    let inside : c.loop-head.head < length u.lits = omega (arith, c.loop-head-test.true, c.len.ensures.len) in
    let s : IsVisiting (lits_at c.take.new.self.arena) u.variables u.lits u.reasons c.loop-head.head
    c.take.new.self.visited =
    subst (λ (a : Clauses). IsVisiting (lits_at a) u.variables u.lits u.reasons c.loop-head.head
    c.take.new.self.visited) (sym c.take.ensures.arena)
    (Visiting-start _ _ _ _ _ _ c.negated-lit.result i.facts inside (c.negated-lit.ensures
    ∙ ap negate c.lit.ensures) (c.take.ensures.visited ∙ c.index.ensures.index)) in
    record {
      facts = turn_next c.args.lists.now.arena _ _ c.args.trail.now _ _ _ _ _ s
          c.propagate_literal.ensures.underway (none_from c.propagate_literal.result c.in_default.not-Some);
      idle = c.propagate_literal.ensures.pending;
      heads = c.propagate_literal.ensures.heads ∙ (c.take.ensures.heads ∙ i.heads);
      propagates = turn_propagates c.args.lists.now.arena _ _ c.args.trail.now _ _ _ _ _ s
          c.propagate_literal.ensures.underway (subst (λ (a : Clauses). Propagates c.args.lists.now.arena a
          c.args.trail.now u) (sym c.take.ensures.arena) i.propagates);
    }
