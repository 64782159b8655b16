use Rattle.ba_tree_laws.proofs.OneProgram.{one_of_text}
use Rattle.ba_tree_laws.proofs.Equivalence.{equivalent}
use Rattle.ba_tree_laws.proofs.one_meaning.Goals as goal

pub returns : goal.returns
returns c text p q it that = equivalent p q (one_of_text text p q it that)
