use Rattle.std.proofs.Common.{◌≡◌, drop}
use Rattle.ba_cases.specs.Inputs.{ends_answer}
use Rattle.ba_cases.proofs.inputs.check_runs.Given as goal

-- the answer is that of the runs that are left
abbrev pub invariant-loop-entry : goal.invariant-loop-entry
invariant-loop-entry l =
    ends_answer l.bounds l.program (drop l.entry-index l.inputs) ≡ ends_answer l.bounds l.program l.inputs
