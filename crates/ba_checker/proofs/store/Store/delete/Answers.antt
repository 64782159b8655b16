use Rattle.std.proofs.Common.{arith, refl}
use Rattle.ba_checker.proofs.CutLaws.{place_named, deleted}
use Rattle.ba_checker.proofs.store.Store.delete.Goals as goal

pub index_mut-requires : goal.index_mut-requires
index_mut-requires c =
    let within = place_named c.self.inside.lits.items c.self.inside.ends.items c.self.inside.origins.items
    c.args.self.now c.args.number c.self.invariant c.self.view_is c.if-number-eq0.false
    (omega (arith, c.last.ensures)) in
    omega (arith, within, c.self.inside.origins.ok.0)

pub returns : goal.returns
returns c =
    (deleted c.self.inside.lits.items c.self.inside.ends.items c.self.inside.origins.items _ c.args.self.now
    c.args.number c.self.invariant c.self.view_is c.if-number-eq0.false refl).1
