use Rattle.std.proofs.Common.{arith, ◌∙◌, sym}
use Rattle.ba_checker.proofs.CutLaws.{place_named, part_named, clause_named, deleted_named}
use Rattle.ba_checker.proofs.store.Store.clause.Goals as goal

pub index-requires : goal.index-requires
index-requires c =
    let within = place_named c.self.inside.lits.items c.self.inside.ends.items c.self.inside.origins.items
    c.args.self.now c.args.number c.self.invariant c.self.view_is c.if-number-eq0.false
    (omega (arith, c.last.ensures)) in
    omega (arith, within, c.self.inside.origins.ok.0)

pub part-requires-clause-within : goal.part-requires-clause-within
part-requires-clause-within c =
    part_named c.self.inside.lits.items c.self.inside.ends.items c.self.inside.origins.items c.args.self.now
    c.args.number c.self.invariant c.self.view_is c.if-number-eq0.false (omega (arith, c.last.ensures))
    c.as_slice-2.result.now c.as_slice-2.ensures.value

pub returns-then-not-is_live : goal.returns-then-not-is_live
returns-then-not-is_live c =
    sym (deleted_named c.self.inside.lits.items c.self.inside.ends.items c.self.inside.origins.items
    c.args.self.now c.args.number c.self.invariant c.self.view_is c.if-number-eq0.false
    (omega (arith, c.last.ensures)) c.index.result.now c.index.ensures (sym c.is_live.ensures
    ∙ c.if-not-is_live.true))

pub returns : goal.returns
returns c =
    clause_named c.self.inside.lits.items c.self.inside.ends.items c.self.inside.origins.items
    c.args.self.now c.args.number c.self.invariant c.self.view_is c.if-number-eq0.false
    (omega (arith, c.last.ensures)) c.index.result.now c.index.ensures (sym c.is_live.ensures
    ∙ c.if-not-is_live.false) c.as_slice-2.result.now c.as_slice-2.ensures.value c.as_slice.result.now
    c.as_slice.ensures.value c.part.result.now c.part.ensures
