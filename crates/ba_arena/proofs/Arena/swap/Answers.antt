use Rattle.std.proofs.Common.{◌+◌, ◌<◌, ◌∙◌, length, ap, sym, subst, arith}
use Rattle.ba_arena.specs.Words.{clauses_of, AreWords}
use Rattle.ba_arena.proofs.Reading.{lit_room}
use Rattle.ba_arena.proofs.Swapping.{swaps}
use Rattle.ba_arena.proofs.Arena.swap.Goals as goal

-- both places are within the clause's words
abbrev a_room : (c : goal.After-swap-arg-1)
    → c.clause.inside.index + 4 + c.args.a < length c.self.inside.words.items
a_room c = lit_room c.self.inside.words.items c.clause.inside.index c.args.a c.self.invariant
    (rw (c.self.view_is, c.clause.view_is) c.requires.a_within)

abbrev b_room : (c : goal.After-swap-arg-1)
    → c.clause.inside.index + 4 + c.args.b < length c.self.inside.words.items
b_room c = lit_room c.self.inside.words.items c.clause.inside.index c.args.b c.self.invariant
    (rw (c.self.view_is, c.clause.view_is) c.requires.b_within)

pub overflow_add-first-2 : goal.overflow_add-first-2
overflow_add-first-2 c = omega (arith, c.self.inside.words.ok.0, c.self.inside.words.small, a_room c, b_room c)

pub overflow_add-first-3 : goal.overflow_add-first-3
overflow_add-first-3 c = omega (arith, c.self.inside.words.ok.0, c.self.inside.words.small, a_room c, b_room c)

pub swap-requires-clause-i_in_bounds : goal.swap-requires-clause-i_in_bounds
swap-requires-clause-i_in_bounds c = omega (arith, c.self.inside.words.ok.0, a_room c, b_room c)

pub swap-requires-clause-j_in_bounds : goal.swap-requires-clause-j_in_bounds
swap-requires-clause-j_in_bounds c = omega (arith, c.self.inside.words.ok.0, a_room c, b_room c)

pub invariant_of-self : goal.invariant_of-self
invariant_of-self c =
    let s = swaps c.self.inside.words.items c.clause.inside.index c.args.a c.args.b c.self.invariant
    (rw (c.self.view_is, c.clause.view_is) c.requires.a_within)
    (rw (c.self.view_is, c.clause.view_is) c.requires.b_within) in
    subst AreWords (sym c.swap.ensures.items) s.words

pub returns : goal.returns
returns c =
    let s = swaps c.self.inside.words.items c.clause.inside.index c.args.a c.args.b c.self.invariant
    (rw (c.self.view_is, c.clause.view_is) c.requires.a_within)
    (rw (c.self.view_is, c.clause.view_is) c.requires.b_within) in
    rw (← c.self.view_is, ← c.clause.view_is) (ap (clauses_of 0) c.swap.ensures.items ∙ s.is)
