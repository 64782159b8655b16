use Rattle.std.proofs.Common.{ℕ, List, get_or, arith}
use Rattle.ba_search.proofs.DeletionLaws.{pushed, gathered_more}
use Rattle.ba_search.proofs.reduction.gather.Goals as goal

pub loop-place-preserved : goal.loop-place-preserved
loop-place-preserved g c =
    let number : ℕ = get_or c.args.learnt.now c.loop-place.place 0 in
    let listed : List ℕ = c.loop-place.numbers.items in
    gathered_more (g.R.SearchRules.keeping c.args.rules.now) c.args.checker.now
    c.args.marks.now c.args.learnt.now listed c.push_within_room.new.numbers.items c.loop-place.last number
    (pushed c.push_within_room.result listed c.push_within_room.new.numbers.items number
    c.push_within_room.ensures c.if-not-push_within_room.false)
    (omega (arith, c.if-number-last.false)) c.requires.few
    (c.is_discarded.ensures.may_go c.if-not-is_discarded.false)
    (c.is_discarded.ensures.discarded c.if-not-is_discarded.false)
    (c.is_discarded.ensures.no_reason c.if-not-is_discarded.false) c.loop-place.invariant
