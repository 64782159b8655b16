use Rattle.std.proofs.Common.{arith}
use Rattle.ba_watch.proofs.Backtracks.{IsFront-start, IsFront-pop, IsFront-end}
use Rattle.ba_watch.proofs.trail.Trail.back_to.Goals as goal

pub loop-self-init : goal.loop-self-init
loop-self-init c = IsFront-start c.args.level c.args.self.now

pub loop-self-preserved : goal.loop-self-preserved
loop-self-preserved c = IsFront-pop c.args.level c.loop-self.self c.pop.new.self c.args.self.now
    c.loop-self.invariant c.level.ensures.lengths
    (omega (arith, c.loop-self-test.true, c.level.ensures.level)) c.pop.ensures

pub returns : goal.returns
returns c = IsFront-end c.args.level c.loop-self.self c.args.self.now c.loop-self.invariant
    c.level.ensures.lengths (omega (arith, c.loop-self-test.false, c.level.ensures.level))
