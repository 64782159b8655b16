use Rattle.std.proofs.Common.{◌≡◌, ◌++◌, ◌≤◌, ◌^◌, drop}
use Rattle.ba_encode.specs.Softs.{softs_from, softs_of}
use Rattle.ba_encode.proofs.softs.softs_of.Given as goal

abbrev pub invariant-loop-group : goal.invariant-loop-group
invariant-loop-group l = record {
  whole : softs_of l.encoded.groups ≡ l.softs.items
      ++ softs_from l.next (drop l.group-index l.encoded.groups);
  small : l.next ≤ 2 ^ 32;
}
