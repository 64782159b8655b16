use Rattle.std.proofs.Common.{rules}
use Rattle.ba_inline.proofs.Adding.{adds-pick}
use Rattle.ba_inline.proofs.emit.add_pick.Goals as goal

pub returns : goal.returns
returns c = search (rules, adds-pick)
