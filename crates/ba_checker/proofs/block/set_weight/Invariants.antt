use Rattle.std.proofs.Common.{◌≡◌, ◌≤◌, ◌+◌, ◌*◌, ◌^◌, drop}
use Rattle.ba_checker.specs.Blocks.{set_weight}
use Rattle.ba_checker.proofs.block.set_weight.Given as goal

abbrev pub invariant-loop-group : goal.invariant-loop-group
invariant-loop-group l =
    (l.weight + set_weight l.groups (drop l.group-index l.set) ≡ set_weight l.groups l.set)
    × (l.weight ≤ 2 ^ 32 * l.group-index)
