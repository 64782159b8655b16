use Rattle.std.proofs.Common.{take, map, Bor}
use Rattle.ba_tree.specs.declared.run.Input.{Input}
use Rattle.ba_repair.specs.Good.{Passes}
use Rattle.ba_repair.proofs.good.passes.Given as goal

abbrev pub invariant-loop-input : goal.invariant-loop-input
invariant-loop-input l =
    Passes l.bounds (take l.input-index (map (λ (input : Bor Input). input.now) l.inputs)) l.program
