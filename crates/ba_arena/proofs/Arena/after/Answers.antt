use Rattle.std.proofs.Common.{◌≡◌, ◌<◌, ◌+◌, ◌^◌, ℕ, List, length, get_or, sym, subst, ◌∙◌, arith}
use Rattle.std.proofs.lemmas.Grind.{get_or_default_zero}
use Rattle.ba_arena.specs.Clauses.{lits_at}
use Rattle.ba_arena.specs.Compaction.{IsFirstFrom}
use Rattle.ba_arena.specs.Words.{clauses_of, IsCut}
use Rattle.ba_arena.proofs.Reading.{here, len_read}
use Rattle.ba_arena.proofs.Cuts.{after-cut, after-first, after-room}
use Rattle.ba_arena.proofs.Arena.after.Goals as goal

pub index-requires : goal.index-requires
index-requires c =
    let h = here c.self.inside.words.items c.clause.inside.index c.self.invariant
    (rw (c.self.view_is, c.clause.view_is) c.requires) in
    omega (arith, c.self.inside.words.ok.0, h.room)

pub live_from-requires : goal.live_from-requires
live_from-requires c =
    let h = here c.self.inside.words.items c.clause.inside.index c.self.invariant
    (rw (c.self.view_is, c.clause.view_is) c.requires) in
    subst (λ (ws : List ℕ). IsCut ws (c.clause.inside.index + 4 + c.index.result.now)) (sym c.as_slice.ensures.value)
    (after-cut c.self.inside.words.items c.clause.inside.index c.index.result.now c.self.invariant h c.index.ensures)

pub returns-clause-first : goal.returns-clause-first
returns-clause-first c =
    let h = here c.self.inside.words.items c.clause.inside.index c.self.invariant
    (rw (c.self.view_is, c.clause.view_is) c.requires) in
    let first : IsFirstFrom (clauses_of 0 c.self.inside.words.items) (c.clause.inside.index + 4 + c.index.result.now) c.live_from.result =
    subst (λ (ws : List ℕ). IsFirstFrom (clauses_of 0 ws) (c.clause.inside.index + 4 + c.index.result.now) c.live_from.result)
    c.as_slice.ensures.value c.live_from.ensures.first in
    rw (c.to_reference.ensures, ← c.self.view_is, ← c.clause.view_is)
    (after-first c.self.inside.words.items c.clause.inside.index c.index.result.now c.live_from.result c.self.invariant h
    c.index.ensures first)

pub returns-clause-room : goal.returns-clause-room
returns-clause-room c =
    let h = here c.self.inside.words.items c.clause.inside.index c.self.invariant
    (rw (c.self.view_is, c.clause.view_is) c.requires) in
    let first : IsFirstFrom (clauses_of 0 c.self.inside.words.items) (c.clause.inside.index + 4 + c.index.result.now) c.live_from.result =
    subst (λ (ws : List ℕ). IsFirstFrom (clauses_of 0 ws) (c.clause.inside.index + 4 + c.index.result.now) c.live_from.result)
    c.as_slice.ensures.value c.live_from.ensures.first in
    let count = len_read c.self.inside.words.items c.clause.inside.index c.index.result.now h c.index.ensures in
    rw (c.to_reference.ensures, ← c.self.view_is, ← c.clause.view_is)
    (after-room (clauses_of 0 c.self.inside.words.items) (c.clause.inside.index + 4 + c.index.result.now)
    (c.clause.inside.index + 4 + length (lits_at (clauses_of 0 c.self.inside.words.items) c.clause.inside.index))
    c.live_from.result (omega (arith, count)) first)

pub returns-clause-below : goal.returns-clause-below
returns-clause-below c =
    let h = here c.self.inside.words.items c.clause.inside.index c.self.invariant
    (rw (c.self.view_is, c.clause.view_is) c.requires) in
    let count = len_read c.self.inside.words.items c.clause.inside.index c.index.result.now h c.index.ensures in
    let x_is : c.index.result.now ≡ get_or c.self.inside.words.items c.clause.inside.index 0 =
    c.index.ensures ∙ get_or_default_zero c.self.inside.words.items c.clause.inside.index c.index.result.now (omega (arith, h.room)) in
    let few : c.clause.inside.index + 4 + length (lits_at (clauses_of 0 c.self.inside.words.items) c.clause.inside.index) < 2 ^ 32 =
    omega (arith, count, x_is, h.room, c.self.invariant.few) in
    rw (← c.self.view_is, ← c.clause.view_is) few
