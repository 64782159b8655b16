use Rattle.std.proofs.Common.{◌≡◌, ℕ, ◌-◌, ◌<◌, ◌^◌, Bool, List}
use Rattle.ba_nodes.specs.declared.Node.{Node}
use Rattle.ba_muldiv.specs.Division.{high_number}
use Rattle.ba_muldiv.proofs.constants.constant_of.Given as goal

abbrev pub invariant-loop-i : goal.invariant-loop-i
invariant-loop-i l = record {
  small : l.value < 2 ^ l.i;
  number : (nodes : List Node) (free : ℕ → Bool) → high_number free nodes l.word (32 - l.i) ≡ l.value;
}
