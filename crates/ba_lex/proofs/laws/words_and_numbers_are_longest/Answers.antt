use Rattle.std.proofs.Common.{refl}
use Rattle.ba_bytes.specs.Classes.{is_number_byte, is_word_byte}
use Rattle.ba_lex.proofs.CutLemmas.{prefix_stops}
use Rattle.ba_lex.proofs.laws.words_and_numbers_are_longest.Goals as goal

pub returns-clause-word : goal.returns-clause-word
returns-clause-word c = λ bytes. prefix_stops is_word_byte bytes refl

pub returns-clause-number : goal.returns-clause-number
returns-clause-number c = λ bytes. prefix_stops is_number_byte bytes refl
