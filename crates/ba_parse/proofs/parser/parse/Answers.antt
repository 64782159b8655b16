-- The outcome of the reading is what the grammar says, and nothing else is.

use Rattle.ba_parse.proofs.ToldOutcomes.{is_told, only_told}
use Rattle.ba_parse.proofs.parser.parse.Goals as goal

pub returns : goal.returns
returns c = record {
  told = is_told c.args.tokens.now c.whole_file.result c.whole_file.ensures;
  only = λ verdict says. only_told c.args.tokens.now c.whole_file.result c.whole_file.ensures verdict says;
}
