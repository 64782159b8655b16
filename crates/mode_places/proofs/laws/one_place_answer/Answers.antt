use Rattle.mode_places.proofs.Rows.{one_place_answer}
use Rattle.mode_places.proofs.laws.one_place_answer.Goals as goal

pub returns : goal.returns
returns c = one_place_answer
