use Rattle.std.proofs.Common.{◌≡◌, ◌<◌, ◌≤◌, ℕ, Bool, Option, true, false, length, ap, ◌∙◌, arith}
use Rattle.ba_lits.specs.Literals.{index_of, lit_at}
use Rattle.ba_arena.specs.Clauses.{changed, linked, lits_at}
use Rattle.ba_watch.specs.Threads.{index_at}
use Rattle.ba_watch.proofs.Deletions.{linked_short, linked_long}
use Rattle.ba_watch.proofs.deletion.link_clause.Goals as goal

pub returns-then-len-lt2-clause-threaded : goal.returns-then-len-lt2-clause-threaded
returns-then-len-lt2-clause-threaded c = λ visited t.
    linked_short c.args.arena.now c.args.heads.now.items c.args.clause visited c.requires.live
    c.requires.apart
    (omega (arith, c.len.ensures, c.if-len-lt2.true)) t

-- an index of at least 2 is that of a variable
counted : (n : ℕ) (b : Bool) → 2 ≤ index_of (record { variable = n; negated = b }) → 1 ≤ n
counted n true h = omega (arith, h)
counted n false h = omega (arith, h)

pub returns-clause-threaded : goal.returns-clause-threaded
returns-clause-threaded c = λ visited t.
    let lits = lits_at c.args.arena.now c.args.clause in
    let long : 2 ≤ length lits = omega (arith, c.len.ensures, c.if-len-lt2.false) in
    let one : c.index-one.result ≡ index_at lits 0 = c.index-one.ensures.index ∙ ap index_of c.lit.ensures in
    let two : c.index-two.result ≡ index_at lits 1 = c.index-two.ensures.index
    ∙ ap index_of c.lit-2.ensures in
    let one_in : index_at lits 0 < length c.args.heads.now.items =
    c.requires.room 0 (omega (arith, long))
    (counted (lit_at lits 0).variable (lit_at lits 0).negated
    (omega (arith, one, c.index-one.ensures.counted))) in
    let two_in : index_at lits 1 < length c.args.heads.now.items =
    c.requires.room 1 (omega (arith, long))
    (counted (lit_at lits 1).variable (lit_at lits 1).negated
    (omega (arith, two, c.index-two.ensures.counted))) in
    let first_is : c.set_link.new.self ≡ changed (linked 0 c.index.result.now) c.args.arena.now
    c.args.clause =
    c.set_link.ensures ∙ ap (λ (h : Option ℕ). changed (linked 0 h) c.args.arena.now c.args.clause)
    c.get.ensures in
    let second_is : c.set_link-2.new.self
    ≡ changed (linked 1 c.index-2.result.now) c.set_link.new.self c.args.clause =
    c.set_link-2.ensures
    ∙ ap (λ (h : Option ℕ). changed (linked 1 h) c.set_link.new.self c.args.clause) c.get-2.ensures in
    rw (c.some.ensures, c.some-2.ensures)
    (linked_long c.args.arena.now c.set_link.new.self c.set_link-2.new.self c.args.clause c.index.result.now
    c.index-2.result.now c.requires.live first_is second_is c.args.heads.now.items visited
    c.index-one.result c.index-two.result c.requires.apart long one two (omega (arith, one, one_in))
    (omega (arith, two, two_in)) c.index.ensures c.index-2.ensures t)
