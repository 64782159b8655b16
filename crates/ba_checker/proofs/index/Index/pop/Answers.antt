use Rattle.ba_checker.proofs.ListedLaws.{listed_less}
use Rattle.ba_checker.proofs.index.Index.pop.Goals as goal

pub invariant_of-self-2 : goal.invariant_of-self-2
invariant_of-self-2 c =
    listed_less c.self.inside.nodes.items c.pop.new.self.items c.self.inside.heads.items
    c.relink.new.links.items c.in-Some.node c.self.invariant c.in-Some.ensures.items c.relink.ensures
