use Rattle.std.proofs.Common.{◌≡◌, ◌++◌, drop}
use Rattle.ba_lits.specs.Satisfaction.{assignment_of}
use Rattle.ba_derivations.specs.Encodings.{false_groups, false_groups_from}
use Rattle.ba_enum.proofs.blocking.false_groups.Given as goal

abbrev pub invariant-loop-place : goal.invariant-loop-place
invariant-loop-place l =
    false_groups (assignment_of l.model.values) l.fn.softs
    ≡ l.groups ++ false_groups_from l.place (assignment_of l.model.values) (drop l.place l.fn.softs)
