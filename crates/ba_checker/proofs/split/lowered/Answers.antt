use Rattle.std.proofs.Common.{refl}
use Rattle.ba_checker.specs.Splits.{lowered}
use Rattle.ba_checker.proofs.DropSteps.{drop_step, drop_end, lowered-cons}
use Rattle.ba_checker.proofs.split.lowered.Goals as goal

pub loop-soft-preserved : goal.loop-soft-preserved
loop-soft-preserved c =
    drop_step (lowered c.args.core.now c.args.weight) (lowered-cons c.args.core.now c.args.weight)
    (lowered c.args.core.now c.args.weight c.args.softs.now) c.loop-soft.left.items c.keep_soft.new.left.items
    c.args.softs.now c.loop-soft.soft-index c.soft-item.result c.loop-soft-test.true c.soft-item.is
    c.in_ok-keep_soft.ensures c.loop-soft.invariant

pub returns : goal.returns
returns c =
    drop_end (lowered c.args.core.now c.args.weight) refl (lowered c.args.core.now c.args.weight
    c.args.softs.now)
    c.loop-soft.left.items c.args.softs.now c.loop-soft.soft-index c.loop-soft-test.false
    c.loop-soft.invariant
