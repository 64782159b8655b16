use Rattle.ba_inputs.proofs.NoText.{no_text}
use Rattle.ba_inputs.proofs.laws.no_text_gives_unit_weights.Goals as goal

pub returns : goal.returns
returns c p = no_text p
