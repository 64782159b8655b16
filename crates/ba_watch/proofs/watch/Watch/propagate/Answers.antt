use Rattle.std.proofs.Common.{rules, ◌≡◌, subst, refl, sym, not, ap, ◌∙◌, length, [], true, false}
use Rattle.ba_watch.specs.Propagation.{State, Extends}
use Rattle.ba_watch.proofs.Sounds.{state, extends, complete_now, if_none, IfNone-from}
use Rattle.ba_watch.proofs.References.{referenced_clauses}
use Rattle.ba_watch.proofs.watch.Watch.propagate.Goals as goal

pub returns-then-is_none-clause-extends : goal.returns-then-is_none-clause-extends
returns-then-is_none-clause-extends c =
    let i = c.self.inside in
    subst (λ (s : State). Extends s (state c.propagate_all-conflict.new.lists.arena
    c.propagate_all-conflict.new.trail true)) c.self.view_is
    (extends i.lists.arena _ i.trail c.assign_units-conflict.new.trail _ i.settled true
    c.assign_units-conflict.ensures.assigns c.propagate_all-conflict.ensures.propagates)

pub returns-then-is_none-clause-none : goal.returns-then-is_none-clause-none
returns-then-is_none-clause-none c =
    let e = c.propagate_all-conflict.ensures in
    let w_is = if_none (c.assign_units-conflict.new.waiting.items ≡ []) c.assign_units-conflict.result
    c.assign_units-conflict.ensures.none (sym c.is_some.ensures ∙ c.if-is_some.false) in
    let h_is = if_none (c.propagate_all-conflict.new.head ≡ length c.propagate_all-conflict.new.trail.lits)
    c.propagate_all-conflict.result e.none (c.is_none.ensures ∙ ap not c.if-is_none.true) in
    IfNone-from _ c.propagate_all-conflict.result (
      refl,
      complete_now _ _ _ _ _ _ e.facts (e.propagates.units
          c.assign_units-conflict.new.waiting.items c.assign_units-conflict.ensures.units) w_is h_is,
    )

pub returns-else-is_none-clause-extends : goal.returns-else-is_none-clause-extends
returns-else-is_none-clause-extends c =
    let i = c.self.inside in
    subst (λ (s : State). Extends s (state c.propagate_all-conflict.new.lists.arena
    c.propagate_all-conflict.new.trail false)) c.self.view_is
    (extends i.lists.arena _ i.trail c.assign_units-conflict.new.trail _ i.settled false
    c.assign_units-conflict.ensures.assigns c.propagate_all-conflict.ensures.propagates)

pub invariant_of-self-then-is_none : goal.invariant_of-self-then-is_none
invariant_of-self-then-is_none c = (
  search rules,
  referenced_clauses c.self.inside.lists.arena c.propagate_all-conflict.new.lists.arena
      c.self.inside.references.items
      c.propagate_all-conflict.ensures.propagates.clauses c.self.invariant.1,
)

pub invariant_of-self-else-is_none : goal.invariant_of-self-else-is_none
invariant_of-self-else-is_none c = (
  search rules,
  referenced_clauses c.self.inside.lists.arena c.propagate_all-conflict.new.lists.arena
      c.self.inside.references.items
      c.propagate_all-conflict.ensures.propagates.clauses c.self.invariant.1,
)
