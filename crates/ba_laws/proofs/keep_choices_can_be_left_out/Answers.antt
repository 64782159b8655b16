use Rattle.ba_laws.proofs.Outcomes.{has_visits}
use Rattle.ba_laws.proofs.keep_choices_can_be_left_out.Goals as goal

pub returns : goal.returns
returns c = has_visits
