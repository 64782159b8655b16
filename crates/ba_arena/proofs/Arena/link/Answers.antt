use Rattle.std.proofs.Common.{◌∙◌, arith}
use Rattle.ba_arena.proofs.Reading.{here, link_read}
use Rattle.ba_arena.proofs.Arena.link.Goals as goal

pub index-requires : goal.index-requires
index-requires c =
    let h = here c.self.inside.words.items c.clause.inside.index c.self.invariant
    (rw (c.self.view_is, c.clause.view_is) c.requires.live) in
    omega (arith, c.self.inside.words.ok.0, h.room, c.requires.which)

pub returns : goal.returns
returns c =
    let h = here c.self.inside.words.items c.clause.inside.index c.self.invariant
    (rw (c.self.view_is, c.clause.view_is) c.requires.live) in
    rw (← c.self.view_is, ← c.clause.view_is)
    (c.from_word.ensures ∙ link_read _ _ c.args.which _ h c.requires.which c.index.ensures)
