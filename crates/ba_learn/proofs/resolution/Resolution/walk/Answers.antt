use Rattle.std.proofs.Common.{◌≡◌, length, ap, arith}
use Rattle.ba_learn.proofs.ResolveLaws.{Resolves-none, Resolves-trans, work_narrower}
use Rattle.ba_learn.proofs.resolution.Resolution.walk.Goals as goal

pub loop-self-init : goal.loop-self-init
loop-self-init c =
    let w = c.args.watch.now in
    let p = c.next_pending-place in
    let len : length c.trail.result.now ≡ length w.trail = ap length c.trail.ensures in
    record {
      resolves = Resolves-none w c.args.self.now;
      work = work_narrower w c.args.self.now (length w.trail) p.result c.requires.work
          (omega (arith, p.ensures.below, len)) p.ensures.floor
          (λ q above below. p.ensures.latest q above (omega (arith, below, len)));
      floor = p.ensures.floor;
      seen = p.ensures.seen;
      some = c.requires.some;
    }

pub loop-self-preserved : goal.loop-self-preserved
loop-self-preserved c =
    let w = c.args.watch.now in
    let p = c.next_pending-place-in-loop-self in
    let e = c.in_ok-resolve_pending.ensures in
    record {
      resolves = Resolves-trans w c.args.self.now c.loop-self.self c.resolve_pending.new.self
          c.loop-self.invariant.resolves e.resolves;
      work = work_narrower w c.resolve_pending.new.self c.loop-self.place p.result e.work p.ensures.below
          p.ensures.floor p.ensures.latest;
      floor = p.ensures.floor;
      seen = p.ensures.seen;
      some = e.pending;
    }
