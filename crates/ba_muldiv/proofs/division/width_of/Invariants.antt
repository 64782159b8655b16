use Rattle.std.proofs.Common.{◌≡◌, ℕ, ◌-◌, ◌<◌, ◌≤◌, Bool, false, List}
use Rattle.ba_nodes.specs.declared.Node.{Node}
use Rattle.ba_nodes.specs.Gates.{truth}
use Rattle.ba_words.specs.Words.{bit_at}
use Rattle.ba_muldiv.proofs.division.width_of.Given as goal

abbrev pub invariant-loop-i : goal.invariant-loop-i
invariant-loop-i l = (nodes : List Node) (free : ℕ → Bool) (place : ℕ) → 32 - l.i ≤ place → place < 32 →
    truth free nodes (bit_at l.word place) ≡ false
