use Rattle.std.proofs.Common.{arith}
use Rattle.ba_arena.proofs.Reading.{here, number_read}
use Rattle.ba_arena.proofs.Arena.number.Goals as goal

pub index-requires : goal.index-requires
index-requires c =
    let h = here c.self.inside.words.items c.clause.inside.index c.self.invariant
    (rw (c.self.view_is, c.clause.view_is) c.requires) in
    omega (arith, c.self.inside.words.ok.0, h.room)

pub returns : goal.returns
returns c =
    let h = here c.self.inside.words.items c.clause.inside.index c.self.invariant
    (rw (c.self.view_is, c.clause.view_is) c.requires) in
    rw (← c.self.view_is, ← c.clause.view_is) (number_read _ _ _ h c.index.ensures)
