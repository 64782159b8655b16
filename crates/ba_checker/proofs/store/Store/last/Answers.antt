use Rattle.std.proofs.Common.{arith, length, ap}
use Rattle.ba_checker.proofs.CutLaws.{length-entries}
use Rattle.ba_checker.proofs.store.Store.last.Goals as goal

pub returns : goal.returns
returns c =
    let e = length-entries c.self.inside.lits.items 0 c.self.inside.ends.items c.self.inside.origins.items
    c.self.invariant.1 in
    omega (arith, e, ap length c.self.view_is, c.len.ensures)
