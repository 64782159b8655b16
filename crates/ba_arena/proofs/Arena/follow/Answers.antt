use Rattle.std.proofs.Common.{◌∙◌, sym, ap, arith}
use Rattle.ba_arena.specs.Compaction.{followed, link_or}
use Rattle.ba_arena.proofs.Mapped.{map_write, map_keep}
use Rattle.ba_arena.proofs.Arena.follow.Goals as goal
use Rattle.ba_arena.proofs.Arena.follow.Goals.{in-Some, in_default}

pub loop-place-preserved : goal.loop-place-preserved
loop-place-preserved c =
    let f = followed c.args.self.now in
    let xs = c.args.live.now in
    let v = c.index-live-place.result in
    elim c.match-link.branch [
      | in-Some w ↦ map_write f xs c.loop-place.live c.match-link.live c.loop-place.place w.in-Some.clause v
          c.loop-place.invariant (omega (arith, c.loop-place-test.true)) c.index-live-place.is
          (ap (link_or v) (sym w.in-Some.is ∙ c.link.ensures)) w.live-is
      | in_default w ↦ map_keep f xs c.loop-place.live c.match-link.live c.loop-place.place v
          c.loop-place.invariant (omega (arith, c.loop-place-test.true)) c.index-live-place.is
          (ap (link_or v) (sym c.link.ensures ∙ w.in_default.is)) w.live-is
    ]
