use Rattle.std.proofs.Common.{◌≡◌, ◌-◌, take, map, get_or}
use Rattle.ba_clauses.specs.Encodings.{reading_by}
use Rattle.ba_clauses.proofs.encoding.readings_of.Given as goal

abbrev pub invariant-loop-bit : goal.invariant-loop-bit
invariant-loop-bit l = l.readings.items ≡ map (reading_by (λ index. get_or l.variables (index - 1) 0)) (take l.bit-index l.read)
