use Rattle.std.proofs.Common.{ℕ, Option, None, List, length, refl, sym, subst, ◌∙◌}
use Rattle.ba_lits.specs.Literals.{Literal}
use Rattle.ba_arena.specs.Clauses.{lits_at}
use Rattle.ba_watch.specs.Threads.{AreApart, AreThreaded}
use Rattle.ba_watch.specs.Deletion.{MayLink}
use Rattle.ba_watch.proofs.Deletions.{IsRelinking, upto, relinking_init, relinking_step, lits_same}
use Rattle.ba_watch.proofs.deletion.relink.Goals as goal

pub loop-next-init : goal.loop-next-init
loop-next-init c =
    relinking_init c.args.arena.now (length c.empty_all.new.heads.items) c.empty_all.new.heads.items
    c.first-next.result refl
    c.empty_all.ensures.none c.first-next.ensures

pub link_clause-requires-clause-apart : goal.link_clause-requires-clause-apart
link_clause-requires-clause-apart c =
    subst (λ (ls : List Literal). AreApart ls)
    (sym (lits_same c.args.arena.now c.loop-next.arena c.loop-next.invariant.plain_is c.in-Some.clause))
    (c.requires.apart c.in-Some.clause)

pub link_clause-requires-clause-room : goal.link_clause-requires-clause-room
link_clause-requires-clause-room c =
    subst (λ (n : ℕ). MayLink (lits_at c.loop-next.arena c.in-Some.clause) n)
    (sym (c.loop-next.invariant.len ∙ c.empty_all.ensures.len))
    (subst (λ (ls : List Literal). MayLink ls (length c.args.heads.now.items))
    (sym (lits_same c.args.arena.now c.loop-next.arena c.loop-next.invariant.plain_is c.in-Some.clause))
    (c.requires.room c.in-Some.clause))

pub loop-next-preserved : goal.loop-next-preserved
loop-next-preserved c =
    let count = length c.empty_all.new.heads.items in
    relinking_step c.args.arena.now c.loop-next.arena c.link_clause.new.arena count c.in-Some.clause
    c.loop-next.heads.items
    c.link_clause.new.heads.items c.after-next.result
    (subst (λ (o : Option ℕ). IsRelinking c.args.arena.now c.loop-next.arena count c.loop-next.heads.items
    o) c.in-Some.is
    c.loop-next.invariant)
    c.link_clause.ensures.plain c.link_clause.ensures.heads c.link_clause.ensures.threaded
    c.after-next.ensures.first

pub returns-clause-threaded : goal.returns-clause-threaded
returns-clause-threaded c = λ visited.
    subst (λ (o : Option ℕ). AreThreaded (upto c.loop-next.arena o) c.loop-next.heads.items visited None)
    c.in_default.is
    (c.loop-next.invariant.threaded visited)
