use Rattle.ba_lex.proofs.LineLemmas.{answer-sequence}
use Rattle.ba_lex.proofs.laws.first_error_stands.Goals as goal

pub returns : goal.returns
returns c = answer-sequence
