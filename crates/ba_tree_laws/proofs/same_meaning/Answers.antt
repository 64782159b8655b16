use Rattle.ba_tree_laws.proofs.Equivalence.{equivalent}
use Rattle.ba_tree_laws.proofs.same_meaning.Goals as goal

pub returns : goal.returns
returns c p q same = equivalent p q same
