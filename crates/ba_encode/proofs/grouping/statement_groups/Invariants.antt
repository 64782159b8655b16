use Rattle.std.proofs.Common.{◌≡◌, ◌+◌, ◌^◌, ◌<◌, ◌≤◌, ◌++◌, drop, length}
use Rattle.ba_encode.specs.Groups.{statements_from}
use Rattle.ba_encode.proofs.grouping.statement_groups.Given as goal

abbrev pub invariant-loop-i : goal.invariant-loop-i
invariant-loop-i l = record {
  groups : l.groups.items ++ statements_from (l.i + 1) (drop l.i l.weights) ≡ statements_from 1 l.weights;
  many : length l.groups.items ≤ l.i;
  few : l.i < 2 ^ 32;
}
