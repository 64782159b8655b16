use Rattle.ba_code_visits.proofs.Runs.{has_visits}
use Rattle.ba_code_visits.proofs.keep_choices_can_be_left_out_of_code.Goals as goal

pub returns : goal.returns
returns c = has_visits
