use Rattle.ba_checker.proofs.CutLaws.{at_place, place_in}
use Rattle.ba_checker.proofs.store.Store.at.Goals as goal

pub part-requires-clause-within : goal.part-requires-clause-within
part-requires-clause-within c =
    place_in c.self.inside.lits.items c.self.inside.ends.items c.self.inside.origins.items c.args.self.now
    c.args.place c.self.invariant c.self.view_is c.requires c.as_slice-2.result.now
    c.as_slice-2.ensures.value

pub returns : goal.returns
returns c =
    (at_place c.self.inside.lits.items c.self.inside.ends.items c.self.inside.origins.items c.args.self.now
    c.args.place c.self.invariant c.self.view_is c.requires c.as_slice-2.result.now
    c.as_slice-2.ensures.value c.as_slice.result.now c.as_slice.ensures.value c.part.result.now
    c.part.ensures).1
