use Rattle.std.proofs.Common.{◌≡◌, ap, ◌∙◌}
use Rattle.std.proofs.lemmas.List.{map_more, take_all}
use Rattle.ba_learn.specs.Resolving.{Work, number_at}
use Rattle.ba_learn.proofs.ReasonLaws.{live_in, number_same}
use Rattle.ba_learn.proofs.resolution.Resolution.hints.Goals as goal

pub loop-place-preserved : goal.loop-place-preserved
loop-place-preserved c =
    let more = map_more (number_at c.args.watch.now) c.deref-place-items.result.now c.loop-place.place-index 0
    c.loop-place-test.true in
    cc (more, c.in_ok-push.ensures.items)

pub number-requires : goal.number-requires
number-requires c = live_in c.arena.result.now c.args.watch.now.clauses c.args.conflict c.arena.ensures
    c.requires.live

pub returns : goal.returns
returns c =
    let all = take_all c.loop-place.place-index c.deref-place-items.result.now c.loop-place-test.false in
    let same : c.deref-place-items.result.now ≡ c.args.self.now.resolved = c.deref-place-items.ensures.value
    ∙ ap (λ (w : Work). w.resolved) c.self.view_is in
    let number = number_same c.args.watch.now c.arena.result.now c.args.conflict c.arena.ensures in
    cc (all, same, number, c.number.ensures, c.in_ok-push-2.ensures.items)
