use Rattle.ba_lits.proofs.StampLaws.{stamped-none}
use Rattle.ba_lits.proofs.marks.Marks.clear.Goals as goal

pub returns-else-self : goal.returns-else-self
returns-else-self c = λ place. stamped-none c.self.inside.stamps.items c.self.inside.stamp place (c.self.invariant.1 place)
