use Rattle.std.proofs.Common.{ℕ, Option, List, length, get_or, inl, sym, ap, subst, arith}
use Rattle.ba_lits.specs.Literals.{Literal}
use Rattle.ba_watch.specs.Threads.{AreApart, AreThreaded}
use Rattle.ba_watch.specs.Deletion.{MayLink, IsKept}
use Rattle.ba_watch.proofs.Deleted.{kept_live, numbered_live, compact_lits, deletes_all}
use Rattle.ba_watch.proofs.Unnamed.{unnamed_kept}
use Rattle.ba_watch.proofs.deletion.delete_all.Goals as goal

pub compact-requires-clause-reasons : goal.compact-requires-clause-reasons
compact-requires-clause-reasons c = λ p r is.
    kept_live c.args.lists.now.arena c.mark_all.new.arena c.args.numbers.now c.mark_all.ensures.without r
    (c.requires.reasons p r is)

pub compact-requires-clause-references : goal.compact-requires-clause-references
compact-requires-clause-references c = λ k r is.
    inl (numbered_live c.mark_all.new.arena r k (c.mark_all.ensures.referenced.sound k r is))

pub compact-requires-clause-live : goal.compact-requires-clause-live
compact-requires-clause-live c = λ k h.
    kept_live c.args.lists.now.arena c.mark_all.new.arena c.args.numbers.now c.mark_all.ensures.without _
    (subst (λ (ws : List ℕ). IsKept c.args.lists.now.arena c.args.numbers.now (get_or ws k 0))
    (sym c.keep_unnamed.ensures)
    (unnamed_kept c.args.lists.now.arena c.args.numbers.now c.args.waiting.now.items c.requires.waiting k
    (omega (arith, h, ap (λ (ws : List ℕ). length ws) c.keep_unnamed.ensures))))

pub relink-requires-clause-apart : goal.relink-requires-clause-apart
relink-requires-clause-apart c =
    compact_lits c.args.lists.now.arena c.mark_all.new.arena c.args.numbers.now c.mark_all.ensures.without
    c.compact.new.arena c.compact.ensures.compacts (λ (ls : List Literal). AreApart ls)
    (λ i j i_in j_in. absurd (omega (arith, i_in))) c.args.lists.now.threaded.apart

pub relink-requires-clause-room : goal.relink-requires-clause-room
relink-requires-clause-room c =
    compact_lits c.args.lists.now.arena c.mark_all.new.arena c.args.numbers.now c.mark_all.ensures.without
    c.compact.new.arena c.compact.ensures.compacts
    (λ (ls : List Literal). MayLink ls (length c.args.lists.now.heads.items))
    (λ k k_in counted. absurd (omega (arith, k_in))) c.requires.room

pub invariant_of-lists : goal.invariant_of-lists
invariant_of-lists c = record {
  threaded = subst (λ (p : Option ℕ). AreThreaded c.relink.new.arena c.relink.new.heads.items
      c.args.lists.now.visited p)
      (sym c.requires.idle) (c.relink.ensures.threaded c.args.lists.now.visited);
}

pub returns-clause-deletes : goal.returns-clause-deletes
returns-clause-deletes c =
    deletes_all c.args.lists.now.arena c.mark_all.new.arena c.compact.new.arena c.relink.new.arena
    c.args.trail.now c.compact.new.self c.args.waiting.now.items c.keep_unnamed.new.list.items
    c.compact.new.live.items c.args.numbers.now
    c.mark_all.new.references.items c.compact.new.references.items c.mark_all.ensures.without
    c.mark_all.ensures.referenced c.compact.ensures.compacts c.relink.ensures.plain c.requires.reasons
    c.compact.ensures.reasons c.keep_unnamed.ensures c.compact.ensures.live c.compact.ensures.references
