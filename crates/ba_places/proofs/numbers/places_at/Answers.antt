use Rattle.std.proofs.Common.{◌∙◌, sym}
use Rattle.ba_places.proofs.Numbering.{places_none, places_some}
use Rattle.ba_places.proofs.numbers.places_at.Goals.{in-Some+in_ok-copy_of+in_ok-push, in_default}
use Rattle.ba_places.proofs.numbers.places_at.Goals as goal

pub loop-number-preserved : goal.loop-number-preserved
loop-number-preserved c =
    let places = c.args.places.now in
    let numbers = c.args.numbers.now in
    let i = c.loop-number.number-index in
    elim c.match-place_at.branch [
      | in-Some+in_ok-copy_of+in_ok-push w ↦
          let more = places_some places numbers i 0 _ c.loop-number-test.true w.in-Some.ensures in
          cc (more, c.loop-number.invariant, w.found-is, w.in_ok-push.ensures.ok, w.in_ok-copy_of.ensures)
      | in_default w ↦ w.found-is ∙ c.loop-number.invariant
          ∙ sym (places_none places numbers i 0 c.loop-number-test.true w.in_default.ensures)
    ]
