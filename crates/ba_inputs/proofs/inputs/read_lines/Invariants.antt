use Rattle.std.proofs.Common.{length}
use Rattle.ba_inputs.proofs.LineSteps.{Reads}
use Rattle.ba_inputs.proofs.inputs.read_lines.Given as goal

-- the whole is what was read and what is left
abbrev pub invariant-loop-line : goal.invariant-loop-line
invariant-loop-line l = Reads l.program l.text l.lines l.number l.inputs.items

abbrev pub decreases-loop-line : goal.decreases-loop-line
decreases-loop-line l = length l.lines
