use Rattle.std.proofs.Common.{◌∙◌, arith}
use Rattle.ba_arena.proofs.Reading.{here}
use Rattle.ba_arena.proofs.Wiping.{past-none, count-none, number-none, wiped-live, link-live}
use Rattle.ba_arena.proofs.forward.Goals as goal
use Rattle.ba_arena.proofs.forward.Goals.{then-words-place-via-then-words-place, then-words-place-via-else-words-place+then-words-place-2}

pub returns-then-place-words : goal.returns-then-place-words
returns-then-place-words c = rw (← c.clause.view_is)
    (past-none c.args.words.now c.clause.inside.index c.requires.words (omega (arith, c.if-place-words.true)))

pub returns-then-words-place : goal.returns-then-words-place
returns-then-words-place c = rw (← c.clause.view_is) (elim c.then-words-place.branch [
  | then-words-place-via-then-words-place w ↦ count-none c.args.words.now c.clause.inside.index c.requires.words
      w.if-words-place.true
  | then-words-place-via-else-words-place+then-words-place-2 w ↦ number-none c.args.words.now
      c.clause.inside.index c.requires.words w.if-words-place-2.true
])

pub bounds-words-place-2 : goal.bounds-words-place-2
bounds-words-place-2 c =
    let live = wiped-live c.args.words.now c.clause.inside.index c.requires.wiped
    (omega (arith, c.if-place-words.false)) (rw (c.clause.view_is) c.requires.reference)
    c.if-words-place.false c.if-words-place-2.false in
    omega (arith, (here c.args.words.now c.clause.inside.index c.requires.words live).room)

pub returns : goal.returns
returns c =
    let live = wiped-live c.args.words.now c.clause.inside.index c.requires.wiped
    (omega (arith, c.if-place-words.false)) (rw (c.clause.view_is) c.requires.reference)
    c.if-words-place.false c.if-words-place-2.false in
    rw (← c.clause.view_is)
    (c.from_word.ensures ∙ link-live c.args.words.now c.clause.inside.index c.requires.words live)
