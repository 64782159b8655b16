use Rattle.ba_inline.proofs.Wiping.{wipes-none}
use Rattle.ba_inline.proofs.declared.Declared.wipe.Goals as goal

pub returns-then-since-len : goal.returns-then-since-len
returns-then-since-len c = wipes-none c.args.since.vars c.args.kept c.args.out.now.items
