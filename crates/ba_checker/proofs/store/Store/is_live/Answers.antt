use Rattle.std.proofs.Common.{arith}
use Rattle.ba_checker.specs.declared.store.Origin.TheVariants.{Given}
use Rattle.ba_checker.proofs.CutLaws.{live_place}
use Rattle.ba_checker.proofs.store.Store.is_live.Goals as goal

pub index-requires : goal.index-requires
index-requires c =
    let within = (live_place c.self.inside.lits.items c.self.inside.ends.items c.self.inside.origins.items
    c.args.self.now c.args.place c.self.invariant c.self.view_is c.requires Given).0 in
    omega (arith, within, c.self.inside.origins.ok.0)

pub returns : goal.returns
returns c =
    (live_place c.self.inside.lits.items c.self.inside.ends.items c.self.inside.origins.items
    c.args.self.now c.args.place c.self.invariant c.self.view_is c.requires c.index.result.now).1
    c.index.ensures c.is_live.result c.is_live.ensures
