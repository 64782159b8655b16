use Rattle.ba_inline.proofs.Wiping.{wipes-none, wipes-then}
use Rattle.ba_inline.proofs.declared.wipe_all.Goals as goal

pub loop-number-init : goal.loop-number-init
loop-number-init c = wipes-none c.args.from c.args.kept c.args.out.now.items

pub loop-number-preserved : goal.loop-number-preserved
loop-number-preserved c = wipes-then c.args.from c.args.kept c.args.out.now.items c.loop-number.out.items
    c.wipe_one.new.out.items c.loop-number.invariant c.in_ok-wipe_one.ensures
