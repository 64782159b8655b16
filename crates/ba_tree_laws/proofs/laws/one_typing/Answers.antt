use Rattle.ba_tree_laws.proofs.FileRows.{same_faults, same_typed}
use Rattle.ba_tree_laws.proofs.laws.one_typing.Goals as goal

pub returns : goal.returns
returns c = record {
  faults = λ tree other same. same_faults tree other same;
  typed = λ tree other same. same_typed tree other same;
}
