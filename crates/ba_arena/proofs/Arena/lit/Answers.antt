use Rattle.std.proofs.Common.{◌<◌, length, arith}
use Rattle.ba_arena.specs.Clauses.{lits_at}
use Rattle.ba_arena.specs.Words.{clauses_of}
use Rattle.ba_arena.proofs.Reading.{here_with_lit, lit_room, lit_read, lit_counted, lit_below}
use Rattle.ba_arena.proofs.Arena.lit.Goals as goal

-- the literal is read within the clause's words
pub overflow_add-clause-inside-2 : goal.overflow_add-clause-inside-2
overflow_add-clause-inside-2 c =
    let within : c.args.place < length (lits_at (clauses_of 0 c.self.inside.words.items) c.clause.inside.index) =
    rw (c.self.view_is, c.clause.view_is) c.requires in
    let room = lit_room c.self.inside.words.items c.clause.inside.index c.args.place c.self.invariant within in
    omega (arith, c.self.inside.words.ok.0, c.self.inside.words.small, room)

pub index-requires : goal.index-requires
index-requires c =
    let within : c.args.place < length (lits_at (clauses_of 0 c.self.inside.words.items) c.clause.inside.index) =
    rw (c.self.view_is, c.clause.view_is) c.requires in
    let room = lit_room c.self.inside.words.items c.clause.inside.index c.args.place c.self.invariant within in
    omega (arith, c.self.inside.words.ok.0, room)

pub from_index-requires-clause-counted : goal.from_index-requires-clause-counted
from_index-requires-clause-counted c =
    let within : c.args.place < length (lits_at (clauses_of 0 c.self.inside.words.items) c.clause.inside.index) =
    rw (c.self.view_is, c.clause.view_is) c.requires in
    lit_counted _ c.clause.inside.index c.args.place _
    (here_with_lit _ _ _ c.self.invariant within) within c.index.ensures

pub from_index-requires-clause-below : goal.from_index-requires-clause-below
from_index-requires-clause-below c =
    let within : c.args.place < length (lits_at (clauses_of 0 c.self.inside.words.items) c.clause.inside.index) =
    rw (c.self.view_is, c.clause.view_is) c.requires in
    lit_below _ c.clause.inside.index c.args.place _
    (here_with_lit _ _ _ c.self.invariant within) within c.index.ensures

pub returns : goal.returns
returns c =
    let within : c.args.place < length (lits_at (clauses_of 0 c.self.inside.words.items) c.clause.inside.index) =
    rw (c.self.view_is, c.clause.view_is) c.requires in
    rw (c.from_index.ensures, ← c.self.view_is, ← c.clause.view_is)
    (lit_read _ c.clause.inside.index c.args.place _
    (here_with_lit _ _ _ c.self.invariant within) within c.index.ensures)
