-- Judges of the same runs.
use Rattle.std.proofs.Common.{◌≡◌, ap, ◌∙◌}
use Rattle.ba_tree.specs.Least.{judge_of}
use Rattle.ba_tree.specs.declared.run.Bounds.{Bounds}
use Rattle.ba_tree.specs.declared.run.Input.{Input}
use Rattle.ba_tree.specs.declared.tree.Program.{Program}

pub same-judge : (p q : Program) (i k : Input) (b d : Bounds) → p ≡ q → i ≡ k → b ≡ d →
    judge_of p i b ≡ judge_of q k d
same-judge p q i k b d is_p is_i is_b =
    ap (λ p. judge_of p i b) is_p ∙ ap (λ i. judge_of q i b) is_i ∙ ap (judge_of q k) is_b
