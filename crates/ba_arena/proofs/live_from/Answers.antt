use Rattle.std.proofs.Common.{arith}
use Rattle.ba_arena.proofs.Cuts.{block, cut-next, live-at, none_on}
use Rattle.ba_arena.proofs.live_from.Goals as goal

pub bounds-words-place : goal.bounds-words-place
bounds-words-place c =
    omega (arith, (block c.args.words.now c.loop-place.place c.loop-place.invariant.cut c.loop-place-test.true).room)

pub returns-then-words-place-clause-first : goal.returns-then-words-place-clause-first
returns-then-words-place-clause-first c =
    let i = c.loop-place.invariant in
    (i.from, live-at c.args.words.now c.loop-place.place i.cut c.loop-place-test.true c.if-words-place.true, i.none)

pub loop-place-preserved : goal.loop-place-preserved
loop-place-preserved c =
    let i = c.loop-place.invariant in
    let ws = c.args.words.now in
    let p = c.loop-place.place in
    record {
      from = omega (arith, i.from);
      cut = cut-next ws p _ i.cut c.loop-place-test.true (omega arith);
      none = λ k from below. none_on ws c.args.start p _ k i.cut c.loop-place-test.true (omega arith)
          c.if-words-place.false i.none from below;
    }
