use Rattle.ba_tree.specs.Run.{main_of}
use Rattle.ba_guards.proofs.Inputs.{fitting-words}
use Rattle.ba_guards.proofs.whole.inputs_are_words.Goals as goal

pub returns : goal.returns
returns c = λ p input fit. fitting-words p (main_of p).params input.values fit
