-- By whether a level is left.

use Rattle.std.proofs.Common.{refl}
use Rattle.ba_parse.specs.Readings.{in_enumerators}
use Rattle.ba_parse.proofs.Levels.{levels_left-some, none-told}
use Rattle.ba_parse.proofs.declarations.inner_enumerators.Goals as goal

pub returns-then-levels-eq0 : goal.returns-then-levels-eq0
returns-then-levels-eq0 c = none-told c.args.levels in_enumerators c.args.reader.now _ c.if-levels-eq0.true
    refl c.refusal.ensures

pub returns : goal.returns
returns c = rw (levels_left-some c.args.levels in_enumerators c.args.reader.now c.if-levels-eq0.false)
    c.enumerator_list.ensures
