use Rattle.std.proofs.Common.{◌<◌, length, refl, ap, ◌∙◌, arith}
use Rattle.ba_arena.proofs.Compacting.{moving-room, moving-down, moving-past}
use Rattle.ba_arena.proofs.move_down.Goals as goal
use Rattle.ba_arena.proofs.move_down.Goals.{then-index, else-index}

pub copy_within-requires-clause-in_bounds : goal.copy_within-requires-clause-in_bounds
copy_within-requires-clause-in_bounds c =
    let i = c.loop-place.invariant in
    let within : c.loop-place.place < length c.loop-place.words.items =
    omega (arith, c.loop-place-test.true, c.len.ensures, c.loop-place.words.ok.0) in
    let room = moving-room c.args.words.now.items c.loop-place.words.items c.loop-place.words.items c.loop-place.place
    c.loop-place.end c.loop-place.end _ c.index.result.now c.index-in-loop-place.result.now c.requires i within c.index.ensures
    c.index-in-loop-place.ensures refl in
    omega (arith, room, c.loop-place.words.ok.0)

pub copy_within-requires-clause-dest_in_bounds : goal.copy_within-requires-clause-dest_in_bounds
copy_within-requires-clause-dest_in_bounds c =
    let i = c.loop-place.invariant in
    let within : c.loop-place.place < length c.loop-place.words.items =
    omega (arith, c.loop-place-test.true, c.len.ensures, c.loop-place.words.ok.0) in
    let room = moving-room c.args.words.now.items c.loop-place.words.items c.loop-place.words.items c.loop-place.place
    c.loop-place.end c.loop-place.end _ c.index.result.now c.index-in-loop-place.result.now c.requires i within c.index.ensures
    c.index-in-loop-place.ensures refl in
    omega (arith, room, c.loop-place.words.ok.0, i.le)

pub loop-place-preserved : goal.loop-place-preserved
loop-place-preserved c =
    let i = c.loop-place.invariant in
    let within : c.loop-place.place < length c.loop-place.words.items =
    omega (arith, c.loop-place-test.true, c.len.ensures, c.loop-place.words.ok.0) in
    elim c.if-index.branch [
      | then-index w ↦ moving-down c.args.words.now.items c.loop-place.words.items c.if-index.words.items c.loop-place.place
          c.loop-place.end c.if-index.end _ c.index.result.now c.index-in-loop-place.result.now c.requires i within c.index.ensures
          c.index-in-loop-place.ensures refl w.if-index.true (ap (λ v. v.items) w.words-is ∙ w.copy_within.ensures.items) w.end-is
      | else-index w ↦ moving-past c.args.words.now.items c.loop-place.words.items c.if-index.words.items c.loop-place.place
          c.loop-place.end c.if-index.end _ c.index.result.now c.index-in-loop-place.result.now c.requires i within c.index.ensures
          c.index-in-loop-place.ensures refl w.if-index.false (ap (λ v. v.items) w.words-is) w.end-is
    ]
