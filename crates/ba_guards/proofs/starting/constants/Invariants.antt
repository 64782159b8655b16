use Rattle.std.proofs.Common.{◌≡◌, map, take}
use Rattle.ba_code.specs.declared.nodes.Operand.TheVariants.{Const}
use Rattle.ba_guards.proofs.Beginning.{padded}
use Rattle.ba_guards.proofs.starting.constants.Given as goal

abbrev pub invariant-loop-index : goal.invariant-loop-index
invariant-loop-index l = l.constants.items ≡ map Const (take l.index (padded l.count l.values))
