-- The parts of a loop.

use Rattle.ba_interp.specs.Loops.{LoopParts}
use Rattle.ba_interp.specs.declared.execution.Loop.{Loop}

-- the parts of a loop
abbrev pub parts_of : Loop → LoopParts
parts_of l = record { stmt = l.stmt; when = l.when.now; body = l.body.now; step = l.step.now }
