-- By whether a level is left.

use Rattle.ba_parse.specs.Readings.{in_parameters}
use Rattle.ba_parse.proofs.Levels.{levels_left-none, levels_left-some}
use Rattle.ba_parse.proofs.declarations.inner_parameters.Goals as goal

pub returns-then-levels-eq0 : goal.returns-then-levels-eq0
returns-then-levels-eq0 c = rw (levels_left-none c.args.levels in_parameters c.args.reader.now
    c.if-levels-eq0.true) c.no_parameters.ensures

pub returns : goal.returns
returns c = rw (levels_left-some c.args.levels in_parameters c.args.reader.now c.if-levels-eq0.false)
    c.parameters.ensures
