use Rattle.std.proofs.Common.{arith}
use Rattle.ba_arena.proofs.Reading.{here}
use Rattle.ba_arena.proofs.Writing.{mark_dead-is, mark_dead-words}
use Rattle.ba_arena.proofs.Arena.mark_dead.Goals as goal

pub index_mut-requires : goal.index_mut-requires
index_mut-requires c =
    let h = here c.self.inside.words.items c.clause.inside.index c.self.invariant
    (rw (c.self.view_is, c.clause.view_is) c.requires) in
    omega (arith, c.self.inside.words.ok.0, h.room)

pub invariant_of-self : goal.invariant_of-self
invariant_of-self c =
    let h = here c.self.inside.words.items c.clause.inside.index c.self.invariant
    (rw (c.self.view_is, c.clause.view_is) c.requires) in
    mark_dead-words _ _ c.self.invariant h

pub returns : goal.returns
returns c =
    let h = here c.self.inside.words.items c.clause.inside.index c.self.invariant
    (rw (c.self.view_is, c.clause.view_is) c.requires) in
    rw (← c.self.view_is, ← c.clause.view_is) (mark_dead-is _ _ h)
