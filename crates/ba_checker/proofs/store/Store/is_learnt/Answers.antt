use Rattle.std.proofs.Common.{arith}
use Rattle.ba_checker.proofs.CutLaws.{place_named, learnt_named}
use Rattle.ba_checker.proofs.store.Store.is_learnt.Goals as goal

pub index-requires : goal.index-requires
index-requires c =
    let within = place_named c.self.inside.lits.items c.self.inside.ends.items c.self.inside.origins.items
    c.args.self.now c.args.number c.self.invariant c.self.view_is c.if-number-eq0.false
    (omega (arith, c.last.ensures)) in
    omega (arith, within, c.self.inside.origins.ok.0)

pub returns : goal.returns
returns c =
    learnt_named c.self.inside.lits.items c.self.inside.ends.items c.self.inside.origins.items
    c.args.self.now c.args.number c.self.invariant c.self.view_is c.if-number-eq0.false
    (omega (arith, c.last.ensures)) c.index.result.now c.index.ensures c.is_learnt.result
    c.is_learnt.ensures
