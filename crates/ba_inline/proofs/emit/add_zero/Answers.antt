use Rattle.std.proofs.Common.{rules}
use Rattle.ba_inline.proofs.Adding.{adds-set}
use Rattle.ba_inline.proofs.emit.add_zero.Goals as goal

pub returns : goal.returns
returns c = search (rules, adds-set)
