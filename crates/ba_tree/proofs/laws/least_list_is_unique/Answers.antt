use Rattle.ba_tree.proofs.Sets.{AreLeast-unique}
use Rattle.ba_tree.proofs.laws.least_list_is_unique.Goals as goal

pub returns : goal.returns
returns c = AreLeast-unique
