use Rattle.ba_repair.proofs.GoodEdits.{one-list}
use Rattle.ba_repair.proofs.laws.good_edits_are_unique.Goals as goal

pub returns : goal.returns
returns c p bounds inputs edits found others h k = one-list p bounds inputs edits found others h k
