-- The tokens of the parameters are those that were read.

use Rattle.ba_parse.proofs.EachLevel.{parameters_cut}
use Rattle.ba_parse.proofs.parser.function.Goals as goal

pub takes_block-with_block-requires : goal.takes_block-with_block-requires
takes_block-with_block-requires c = rw (c.rest-before.ensures, c.rest.ensures) (parameters_cut c.args.levels _
    _ _ c.in_ok-parameters.ensures)
