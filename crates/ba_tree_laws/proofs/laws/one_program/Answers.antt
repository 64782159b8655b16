use Rattle.ba_tree_laws.proofs.OneProgram.{one_of_text, one_of_tokens}
use Rattle.ba_tree_laws.proofs.laws.one_program.Goals as goal

pub returns : goal.returns
returns c = record {
  tokens = λ tokens p q it that. one_of_tokens tokens p q it that;
  text = λ text p q it that. one_of_text text p q it that;
}
