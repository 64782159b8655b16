use Rattle.std.proofs.Common.{arith}
use Rattle.ba_arena.proofs.Reading.{here}
use Rattle.ba_arena.proofs.Writing.{set_link-is, set_link-words, link-word}
use Rattle.ba_arena.proofs.Arena.set_link.Goals as goal

pub index_mut-requires : goal.index_mut-requires
index_mut-requires c =
    let h = here c.self.inside.words.items c.clause.inside.index c.self.invariant
    (rw (c.self.view_is, c.clause.view_is) c.requires.live) in
    omega (arith, c.self.inside.words.ok.0, h.room, c.requires.which)

pub invariant_of-self : goal.invariant_of-self
invariant_of-self c =
    let h = here c.self.inside.words.items c.clause.inside.index c.self.invariant
    (rw (c.self.view_is, c.clause.view_is) c.requires.live) in
    set_link-words _ _ c.args.which c.to_word.result c.self.invariant h c.requires.which

pub returns : goal.returns
returns c =
    let h = here c.self.inside.words.items c.clause.inside.index c.self.invariant
    (rw (c.self.view_is, c.clause.view_is) c.requires.live) in
    rw (← c.self.view_is, ← c.clause.view_is)
    (set_link-is _ _ c.args.which c.to_word.result c.args.next h c.requires.which
    (link-word _ _ c.to_word.ensures))
