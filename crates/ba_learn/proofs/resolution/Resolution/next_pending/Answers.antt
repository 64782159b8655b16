use Rattle.ba_learn.proofs.ResolveLaws.{pending_floor}
use Rattle.ba_learn.proofs.resolution.Resolution.next_pending.Goals as goal

pub returns-clause-floor : goal.returns-clause-floor
returns-clause-floor c = pending_floor c.args.self.now c.loop-self.place c.loop-self.invariant.some
