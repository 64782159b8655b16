use Rattle.std.proofs.Common.{◌≡◌, ◌<◌, ◌∙◌, Some, None, List, length, refl, sym, ap, arith}
use Rattle.ba_arena.specs.Words.{clauses_of}
use Rattle.std.proofs.lemmas.List.{get_or_default}
use Rattle.ba_arena.specs.Compaction.{forwarded}
use Rattle.ba_arena.proofs.Mapped.{map_write, map_keep, map_length}
use Rattle.ba_arena.proofs.rewrite.Goals as goal
use Rattle.ba_arena.proofs.rewrite.Goals.{in-Some, in_default}

pub loop-place-preserved : goal.loop-place-preserved
loop-place-preserved c =
    let f = forwarded (clauses_of 0 c.args.words.now) in
    let xs = c.args.kept.now in
    let now = c.loop-place.kept in
    let i = c.loop-place.place in
    let long : length now ≡ length xs = ap (λ (ys : List _). length ys) c.loop-place.invariant
    ∙ map_length f xs i in
    let within : i < length now = omega (arith, c.loop-place-test.true, long) in
    elim c.match-kept-place.branch [
      | in-Some w ↦ map_write f xs now c.match-kept-place.kept i w.forward.result (Some w.in-Some.clause)
          c.loop-place.invariant c.loop-place-test.true
          (sym w.in-Some.is ∙ get_or_default now i _ _ within) w.forward.ensures w.kept-is
      | in_default w ↦ map_keep f xs now c.match-kept-place.kept i None
          c.loop-place.invariant c.loop-place-test.true
          (sym w.in_default.is ∙ get_or_default now i _ _ within) refl w.kept-is
    ]
