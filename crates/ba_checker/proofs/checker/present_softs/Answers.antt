use Rattle.std.proofs.Common.{refl}
use Rattle.ba_checker.specs.States.{present}
use Rattle.ba_checker.proofs.DropSteps.{drop_step, drop_end, present-cons}
use Rattle.ba_checker.proofs.checker.present_softs.Goals as goal

pub loop-soft-preserved : goal.loop-soft-preserved
loop-soft-preserved c =
    drop_step present present-cons (present c.args.softs.now) c.loop-soft.kept.items
    c.add_present.new.kept.items
    c.args.softs.now c.loop-soft.soft-index c.soft-item.result c.loop-soft-test.true c.soft-item.is
    c.in_ok-add_present.ensures c.loop-soft.invariant

pub returns : goal.returns
returns c =
    drop_end present refl (present c.args.softs.now) c.loop-soft.kept.items c.args.softs.now
    c.loop-soft.soft-index
    c.loop-soft-test.false c.loop-soft.invariant
