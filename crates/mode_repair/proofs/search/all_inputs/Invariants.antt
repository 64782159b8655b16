use Rattle.std.proofs.Common.{◌≡◌, ◌∷◌, take, map, Bor}
use Rattle.ba_inputs.specs.declared.inputs.InputLine.{InputLine}
use Rattle.ba_tree.specs.declared.run.Input.{Input}
use Rattle.mode_repair.proofs.search.all_inputs.Given as goal

abbrev pub invariant-loop-entry : goal.invariant-loop-entry
invariant-loop-entry l = map (λ (input : Bor Input). input.now) l.inputs.items
    ≡ l.case.failing ∷ map (λ (entry : InputLine). entry.input) (take l.entry-index l.case.passing)
