use Rattle.ba_lits.proofs.Members.{marked_is}
use Rattle.ba_lits.proofs.literal_set.LiteralSet.contains.Goals as goal

pub returns : goal.returns
returns c =
    marked_is _ _ _ c.args.lit _ _ c.self.invariant c.self.view_is c.index.ensures.index c.contains.ensures
