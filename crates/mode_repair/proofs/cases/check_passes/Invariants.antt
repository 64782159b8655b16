use Rattle.std.proofs.Common.{◌≡◌, drop}
use Rattle.mode_repair.specs.Cases.{passing_ends}
use Rattle.mode_repair.proofs.cases.check_passes.Given as goal

-- the answer is that of the runs that are left
abbrev pub invariant-loop-entry : goal.invariant-loop-entry
invariant-loop-entry l =
    passing_ends l.bounds l.program (drop l.entry-index l.inputs) ≡ passing_ends l.bounds l.program l.inputs
