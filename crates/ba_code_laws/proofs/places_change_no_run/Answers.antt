use Rattle.ba_code_laws.proofs.Erasing.{erases-nodes}
use Rattle.ba_code_laws.proofs.places_change_no_run.Goals as goal

pub returns : goal.returns
returns c = λ relaxes arrays bound nodes s h. (erases-nodes relaxes arrays bound nodes h).same s
