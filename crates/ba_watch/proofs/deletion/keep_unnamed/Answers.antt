use Rattle.std.proofs.Common.{◌≡◌, ◌<◌, ◌∙◌, length, refl, sym, ap, arith}
use Rattle.std.proofs.lemmas.List.{get_or_read}
use Rattle.ba_arena.specs.Clauses.{number_at}
use Rattle.ba_watch.specs.Deletion.{is_named}
use Rattle.ba_watch.proofs.Unnamed.{one_named, one_kept}
use Rattle.ba_watch.proofs.deletion.keep_unnamed.Goals as goal
use Rattle.ba_watch.proofs.deletion.keep_unnamed.Goals.{then-not-contains, else-not-contains}

pub loop-place-preserved : goal.loop-place-preserved
loop-place-preserved c =
    let a = c.args.arena.now in
    let numbers = c.args.numbers.now in
    let start = c.args.list.now.items in
    let now = c.loop-place.list.items in
    let i = c.loop-place.invariant in
    let clause = c.index-clause.result.now in
    let place = c.loop-place.place in
    let count = c.loop-place.count in
    let within : place < length start =
    omega (arith, c.loop-place-test.true, c.len-place-end.ensures, c.args.list.now.ok.0) in
    let is = get_or_read now place clause (omega (arith, within, i.len)) c.index-clause.ensures 0 in
    let tested : is_named numbers (number_at a clause) ≡ c.contains.result =
    sym (c.contains.ensures.value ∙ ap (is_named numbers) c.number-number.ensures) in
    elim c.if-not-contains.branch [
      | then-not-contains w ↦ one_kept a numbers start now _ place count clause i within is refl
          c.if-not-contains.count w.count-is (tested ∙ w.if-not-contains.true)
      | else-not-contains w ↦ one_named a numbers start now _ place count clause i within is refl
          c.if-not-contains.count w.count-is (tested ∙ w.if-not-contains.false)
    ]
