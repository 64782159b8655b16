use Rattle.std.proofs.Common.{subst}
use Rattle.ba_all.proofs.Judging.{one-input}
use Rattle.ba_choices.specs.Judges.{Judge}
use Rattle.ba_tree.proofs.Sets.{AreLeast-unique}
use Rattle.ba_tree.specs.Least.{AreLeast, judge_of}
use Rattle.ba_all.proofs.laws.one_input_has_its_own_sets.Goals as goal

pub returns : goal.returns
returns c = λ weights p input b sets others all alone.
    AreLeast-unique weights (judge_of p input b) sets others
    (subst (λ (good : Judge). AreLeast weights good sets) (one-input p input b) all) alone
