use Rattle.std.proofs.Common.{◌≡◌, ℕ, ◌≤◌, length, Some, slice_get}
use Rattle.ba_nodes.specs.declared.Node.{Node}
use Rattle.ba_clauses.specs.Uses.{IsPassedOn, NeedMoreBelow}
use Rattle.ba_clauses.proofs.uses.pass_on_all.Given as goal

abbrev pub invariant-loop-number : goal.invariant-loop-number
invariant-loop-number l = record {
  passed : (k : ℕ) (node : Node) → l.number ≤ k → slice_get l.nodes k ≡ Some node → IsPassedOn l.uses k node;
  more : NeedMoreBelow (length l.fn.uses) l.fn.uses l.uses;
}
