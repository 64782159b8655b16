use Rattle.std.proofs.Common.{◌≡◌, ◌<◌, ◌≤◌, length, false, ◌++◌, ◌∷◌, [], ℕ, List, refl, subst, sym, ap, ◌∙◌}
use Rattle.std.proofs.lemmas.List.Sorted.{IsPermutation-refl}
use Rattle.ba_lits.specs.Literals.{lit_at}
use Rattle.ba_watch.specs.Trails.{decided}
use Rattle.ba_watch.specs.Propagation.{State, AddsClause}
use Rattle.ba_watch.proofs.Sounds.{state}
use Rattle.ba_watch.proofs.NewClauses.{Sound-short, added_state}
use Rattle.ba_watch.proofs.References.{referenced_more, referenced_same}
use Rattle.ba_watch.proofs.watch.Watch.add_short.Goals as goal

pub invariant_of-self-2 : goal.invariant_of-self-2
invariant_of-self-2 c =
    let i = c.self.inside in
    let range : (j : ℕ) → j < length c.args.lits.now →
    (lit_at c.args.lits.now j).variable ≤ i.trail.variables =
    subst (λ (s : State). (j : ℕ) → j < length c.args.lits.now →
    (lit_at c.args.lits.now j).variable ≤ s.variables) (sym c.self.view_is) c.requires.clause.within in
    let level : decided i.trail.reasons ≡ 0 = subst (λ (s : State). decided s.reasons ≡ 0)
    (sym c.self.view_is) c.requires.level in (
      Sound-short i.lists.arena c.add_short.new.self.arena c.in_ok-clause.clause c.args.lits.now
          c.args.number c.in_ok-clause.ensures.ok _ _ _ _ _ _ _ _ _ _ i.settled c.self.invariant.0
          c.in_ok-clause.ensures.pending c.in_ok-clause.ensures.heads c.requires.short range level
          (c.in_ok-push.ensures.items ∙ ap (λ (xs : List ℕ). xs ++ c.in_ok-clause.clause ∷ [])
          c.in_ok-reserve.ensures.items),
      referenced_more i.lists.arena c.add_short.new.self.arena c.make_room.new.references.items _
          c.in_ok-clause.clause
          c.args.lits.now c.args.number c.in_ok-clause.ensures.ok c.in_ok-make_room.ensures.room refl
          (referenced_same i.lists.arena i.references.items c.make_room.new.references.items
          c.in_ok-make_room.ensures.same
          c.self.invariant.1),
    )

pub returns-clause-ok : goal.returns-clause-ok
returns-clause-ok c =
    let i = c.self.inside in
    subst (λ (s : State). AddsClause s (state c.add_short.new.self.arena i.trail false)
    c.in_ok-clause.clause c.args.lits.now c.args.number) c.self.view_is
    (added_state i.lists.arena c.add_short.new.self.arena c.in_ok-clause.clause c.args.lits.now
    c.args.number c.in_ok-clause.ensures.ok i.trail i.settled c.args.lits.now
    (IsPermutation-refl c.args.lits.now))
