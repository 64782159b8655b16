use Rattle.ba_lex.proofs.CutLemmas.{cut_skip}
use Rattle.ba_lex.proofs.laws.pieces_stand_side_by_side.Goals as goal

pub returns : goal.returns
returns c = cut_skip
