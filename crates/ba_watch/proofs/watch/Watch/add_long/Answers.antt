use Rattle.std.proofs.Common.{false, suc, drop, ◌≡◌, ◌<◌, ◌≤◌, ◌⊎◌, ℕ, min, length, arith, refl, subst, sym, ap, ◌∙◌}
use Rattle.std.specs.List.{swap}
use Rattle.std.proofs.lemmas.List.{get_or_read}
use Rattle.ba_lits.specs.Literals.{Literal, lit_at, no_literal}
use Rattle.ba_watch.specs.Trails.{decided}
use Rattle.ba_watch.specs.Propagation.{State, AddsClause, IsAsserting, rank_of}
use Rattle.ba_watch.proofs.Sounds.{state}
use Rattle.ba_watch.proofs.NewClauses.{Sound-long, added_state, present_long, front_first, front_second, front_permuted, front_each, front_length, of_min, of_max}
use Rattle.ba_watch.proofs.References.{referenced_more, referenced_same}
use Rattle.ba_watch.proofs.watch.Watch.add_long.Goals as goal

pub invariant_of-self-2 : goal.invariant_of-self-2
invariant_of-self-2 c =
    let i = c.self.inside in
    let lits = c.args.lits.now in
    let a = c.latest-first.result in
    let b = c.latest-second.result in
    let a_in : a < length lits = c.latest-first.ensures.within in
    let b_in : b < length lits = c.latest-second.ensures.within in
    let order : c.min.result < c.max.result = omega
    (arith, c.min.ensures, c.max.ensures, c.latest-second.ensures.other) in
    let within : c.max.result < length lits = omega (arith, c.max.ensures, a_in, b_in) in
    let range : (j : ℕ) → j < length lits → (lit_at lits j).variable ≤ i.trail.variables =
    subst (λ (s : State). (j : ℕ) → j < length lits →
    (lit_at lits j).variable ≤ s.variables) (sym c.self.view_is) c.requires.clause.within in
    let level : (decided i.trail.reasons ≡ 0) ⊎ IsAsserting (state i.lists.arena i.trail i.settled) lits =
    subst (λ (s : State). (decided s.reasons ≡ 0) ⊎ IsAsserting s lits) (sym c.self.view_is)
    c.requires.level in
    let first_latest : (k : ℕ) → k < length lits →
    rank_of i.trail.lits (lit_at lits k) ≤ rank_of i.trail.lits (lit_at lits a) =
    λ k k_in. c.latest-first.ensures.latest k k_in (omega (arith, k_in)) in
    let read : c.index-lits-second.result ≡ lit_at lits b =
    get_or_read lits b c.index-lits-second.result b_in c.index-lits-second.is no_literal in
    let k_is : c.min-self-inside.result ≡ min i.head (rank_of i.trail.lits (lit_at lits b)) =
    c.min-self-inside.ensures ∙ ap (λ (x : ℕ). min i.head x) (c.rank.ensures
    ∙ ap (rank_of i.trail.lits) read) in
    let late_b : c.min-self-inside.result ≤ rank_of i.trail.lits (lit_at lits b) = omega (arith, k_is) in
    let late_a : c.min-self-inside.result ≤ rank_of i.trail.lits (lit_at lits a) =
    omega (arith, late_b, first_latest b b_in) in (
      Sound-long i.lists.arena c.add_long.new.self.arena c.in_ok-clause.clause
          (swap (swap lits 0 c.min.result) 1 c.max.result) c.args.number c.in_ok-clause.ensures.ok _ _ _ _ _
          _ _ _ c.min-self-inside.result _ i.settled c.self.invariant.0 c.in_ok-clause.ensures.pending
          c.in_ok-clause.ensures.heads
          (omega (arith, front_length lits c.min.result c.max.result, c.requires.long))
          (front_each (λ (l : Literal). l.variable ≤ i.trail.variables) lits c.min.result c.max.result order
          within range)
          (omega (arith, k_is))
          (subst (λ (x : ℕ). decided (drop (suc x) i.trail.reasons) ≡ 0) (sym k_is)
          (present_long (state i.lists.arena i.trail i.settled) lits i.head a b
          c.self.invariant.0.facts.trail_is.same_length c.self.invariant.0.facts.head_le
          c.self.invariant.0.facts.present level first_latest c.latest-second.ensures.latest a_in))
          (subst (λ (l : Literal). c.min-self-inside.result ≤ rank_of i.trail.lits l)
          (sym (front_first lits c.min.result c.max.result order within))
          (subst (λ (n : ℕ). c.min-self-inside.result ≤ rank_of i.trail.lits (lit_at lits n))
          (sym c.min.ensures) (of_min (λ (n : ℕ). c.min-self-inside.result ≤ rank_of i.trail.lits
          (lit_at lits n)) a b late_a late_b)))
          (subst (λ (l : Literal). c.min-self-inside.result ≤ rank_of i.trail.lits l)
          (sym (front_second lits c.min.result c.max.result order within))
          (subst (λ (n : ℕ). c.min-self-inside.result ≤ rank_of i.trail.lits (lit_at lits n))
          (sym c.max.ensures) (of_max (λ (n : ℕ). c.min-self-inside.result ≤ rank_of i.trail.lits
          (lit_at lits n)) a b late_a late_b))),
      referenced_more i.lists.arena c.add_long.new.self.arena c.make_room.new.references.items _
          c.in_ok-clause.clause
          (swap (swap lits 0 c.min.result) 1 c.max.result) c.args.number c.in_ok-clause.ensures.ok
          c.in_ok-make_room.ensures.room refl
          (referenced_same i.lists.arena i.references.items c.make_room.new.references.items
          c.in_ok-make_room.ensures.same
          c.self.invariant.1),
    )

pub returns-clause-ok : goal.returns-clause-ok
returns-clause-ok c =
    let i = c.self.inside in
    let a = c.latest-first.result in
    let b = c.latest-second.result in
    let order : c.min.result < c.max.result = omega
    (arith, c.min.ensures, c.max.ensures, c.latest-second.ensures.other) in
    let within : c.max.result < length c.args.lits.now =
    omega (arith, c.max.ensures, c.latest-first.ensures.within, c.latest-second.ensures.within) in
    subst (λ (s : State). AddsClause s (state c.add_long.new.self.arena i.trail false) c.in_ok-clause.clause
    c.args.lits.now c.args.number) c.self.view_is
    (added_state i.lists.arena c.add_long.new.self.arena c.in_ok-clause.clause _ c.args.number
    c.in_ok-clause.ensures.ok i.trail i.settled c.args.lits.now
    (front_permuted c.args.lits.now c.min.result c.max.result order within))
