-- What is left after the iterations of a loop, by what is left after one.
use Rattle.std.proofs.Common.{◌≡◌, ℕ, ◌+◌, ◌-◌, ◌*◌, ◌^◌, ◌<◌, ◌≤◌, min, suc, zero, ◌⊎◌, inl, inr, sym, ◌∙◌, ap, suc-mul, mul-add, add-mul, arith}
use Rattle.std.proofs.lemmas.Bool.{cases_lt}
use Rattle.ba_tree.specs.Units.{loop_units}

-- all conditions, bodies and steps are one condition and then iterations of a condition, a body and a step
-- each
turns-are : (t c b s : ℕ) → loop_units t c b s ≡ c + t * (c + (b + s))
turns-are t c b s =
    let conditions : (t + 1) * c ≡ t * c + 1 * c = add-mul t 1 c in
    let all : t * (c + (b + s)) ≡ t * c + t * (b + s) = mul-add t c (b + s) in
    omega arith

-- no more than what is left is seen of an iteration
turns-left : (t left d once : ℕ) → once ≡ min left d → (c : ℕ) → c ≤ d
    → (left - c) - t * once ≡ left - (c + t * d)
turns-left zero left d once seen c part = omega arith
turns-left (suc t) left d once seen c part = by (cases_lt left d)
  where
    by : (left < d) ⊎ (d ≤ left) → (left - c) - suc t * once ≡ left - (c + suc t * d)
    by (inl more) =
        let same : once ≡ left = omega arith in
        let product : suc t * once ≡ t * once + once = suc-mul t once in
        let other : suc t * d ≡ t * d + d = suc-mul t d in
        omega arith
    by (inr within) =
        let same : once ≡ d = omega arith in
        let product : suc t * once ≡ suc t * d = ap (λ x. suc t * x) same in
        omega arith

pub loop-left : (t left condition turn once product result c b s : ℕ) → left < 2 ^ 32 → condition ≡ left - c
    → turn ≡ (condition - b) - s → once ≡ left - turn → product ≡ min (t * once) (2 ^ 32 - 1)
    → result ≡ condition - product → result ≡ left - loop_units t c b s
loop-left t left condition turn once product result c b s few is_condition is_turn is_once is_product
    is_result =
    let seen : once ≡ min left (c + (b + s)) = omega arith in
    let whole : condition - product ≡ condition - t * once = omega arith in
    is_result ∙ whole ∙ ap (λ n. n - t * once) is_condition
    ∙ turns-left t left (c + (b + s)) once seen c (omega arith) ∙ ap (λ n. left - n) (sym (turns-are t c b s))
