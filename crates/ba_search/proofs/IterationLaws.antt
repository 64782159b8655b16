-- Each iteration of a search leaves fewer of them.

use Rattle.std.proofs.Common.{◌≡◌, ℕ, ◌+◌, ◌-◌, ◌*◌, ◌<◌, ◌≤◌, false, None, List, [], ◌∷◌, ◌++◌, length, sym, ap, subst, ◌∙◌, arith}
use Rattle.std.proofs.lemmas.Nat.{mul-add-lt}
use Rattle.std.proofs.lemmas.List.{length_push}
use Rattle.std.proofs.Math.Nat.{mul_comm}
use Rattle.ba_lits.specs.Literals.{Literal}
use Rattle.ba_watch.specs.Propagation.{State as Watching, Extends, KeepsFacts}
use Rattle.ba_learn.specs.Backjumps.{after_backtrack}
use Rattle.ba_checker.specs.States.{State}
use Rattle.ba_checker.specs.StepRules.{after_learn}
use Rattle.ba_search.specs.Iterations.{Numbering, LearnsOne, iterations_left}
use Rattle.ba_search.proofs.UnderwayLaws.{begins_length}

-- fewer rounds leave fewer iterations, however many the round has
fewer : (n m v x y : ℕ) → n < m → x ≤ v → n * (v + 1) + x < m * (v + 1) + y
fewer n m v x y less within = omega (
  arith,
  mul-add-lt n (v + 1) x m less (omega (arith, within)),
  mul_comm
      (v + 1) m,
)

pub learnt_less : (c d : State) (s t u : Watching) (old new : Numbering) (number left left' level : ℕ)
    (lits : List Literal) →
    d ≡ after_learn c lits → u ≡ after_backtrack level s → LearnsOne u t old new number lits → left' ≤ 1000 →
    c.conflicts < c.budget → iterations_left d left' t < iterations_left c left s
learnt_less c d s t u old new number left left' level lits is back adds few budget =
    subst (λ (v : ℕ). (1001 * (d.budget - d.conflicts) + left') * (v + 1) + (v - length t.trail)
    < iterations_left c left s) (sym (adds.adds.variables ∙ ap (λ (x : Watching). x.variables) back))
    (fewer (1001 * (d.budget - d.conflicts) + left') (1001 * (c.budget - c.conflicts) + left)
    s.variables (s.variables - length t.trail) (s.variables - length s.trail)
    (omega (
      arith,
      few,
      ap (λ (x : State). x.budget) is,
      ap (λ (x : State). x.conflicts)
          is,
      budget,
    )) (omega arith))

pub backtrack_less : (c d : State) (s t : Watching) (left left' : ℕ) → t.variables ≡ s.variables →
    left' < left → d.conflicts ≡ c.conflicts → d.budget ≡ c.budget →
    iterations_left d left' t < iterations_left c left s
backtrack_less c d s t left left' variables less conflicts budget =
    subst (λ (v : ℕ). (1001 * (d.budget - d.conflicts) + left') * (v + 1) + (v - length t.trail)
    < iterations_left c left s) (sym variables)
    (fewer (1001 * (d.budget - d.conflicts) + left') (1001 * (c.budget - c.conflicts) + left)
    s.variables (s.variables - length t.trail) (s.variables - length s.trail)
    (omega (arith, less, conflicts, budget)) (omega arith))

pub decide_less : (c : State) (s t : Watching) (left : ℕ) (l : Literal) → KeepsFacts t →
    t ≡ record s { trail = s.trail ++ l ∷ []; reasons = s.reasons ++ None ∷ []; settled = false } →
    iterations_left c left t < iterations_left c left s
decide_less c s t left l facts is =
    let v : t.variables ≡ s.variables = ap (λ (x : Watching). x.variables) is in
    let n : length t.trail ≡ length s.trail + 1 = ap (λ (x : Watching). length x.trail) is
    ∙ length_push s.trail l in
    later (1001 * (c.budget - c.conflicts) + left) t.variables s.variables (length t.trail)
    (length s.trail) v n facts.trail.short
  where
    later : (m v w n k : ℕ) → v ≡ w → n ≡ k + 1 → n ≤ v → m * (v + 1) + (v - n) < m * (w + 1) + (w - k)
    later m v w n k v_is n_is le = omega (arith, ap (λ (x : ℕ). m * (x + 1)) v_is)

pub extends_less : (c : State) (s t : Watching) (left : ℕ) → Extends s t →
    iterations_left c left t ≤ iterations_left c left s
extends_less c s t left e = later (1001 * (c.budget - c.conflicts) + left) t.variables s.variables
    (length t.trail) (length s.trail) e.variables (begins_length s.trail t.trail e.trail)
  where
    later : (m v w n k : ℕ) → v ≡ w → k ≤ n → m * (v + 1) + (v - n) ≤ m * (w + 1) + (w - k)
    later m v w n k v_is le = omega (arith, ap (λ (x : ℕ). m * (x + 1)) v_is)
