-- Products of numbers by their magnitudes.

use Rattle.std.proofs.Common.{◌≡◌, ℕ, ◌+◌, ◌-◌, ◌*◌, ◌%◌, ◌^◌, ◌<◌, Bool, true, false, refl, ap, ◌∙◌, arith, mul_comm}
use Rattle.std.proofs.lemmas.Nat.{mul-mod_second}
use Rattle.ba_nodes.specs.Gates.{bool_xor}
use Rattle.ba_muldiv.specs.Division.{negated_where}

-- a factor may be taken modulo 2 ^ 32
first_factor : (m n : ℕ) → (m % 2 ^ 32 * n) % 2 ^ 32 ≡ (m * n) % 2 ^ 32
first_factor m n =
    ap (λ k. k % 2 ^ 32) (mul_comm (m % 2 ^ 32) n)
    ∙ mul-mod_second n m (2 ^ 32)
    ∙ ap (λ k. k % 2 ^ 32) (mul_comm n m)

second_factor : (m n : ℕ) → (m * (n % 2 ^ 32)) % 2 ^ 32 ≡ (m * n) % 2 ^ 32
second_factor m n = mul-mod_second m n (2 ^ 32)

joined : (k m n : ℕ) → k * n + m * n ≡ (k + m) * n
joined k m n = grind arith

rest_first : (k m n : ℕ) → k + m ≡ 2 ^ 32 → k * n + m * n ≡ 2 ^ 32 * n
rest_first k m n whole = joined k m n ∙ ap (λ p. p * n) whole

turned : (k l n : ℕ) → k * l + k * n ≡ l * k + n * k
turned k l n = grind arith

rest_second : (k l n : ℕ) → l + n ≡ 2 ^ 32 → k * l + k * n ≡ 2 ^ 32 * k
rest_second k l n whole = turned k l n ∙ rest_first l n k whole

opposite : (u v n : ℕ) → u + v ≡ 2 ^ 32 * n → (2 ^ 32 - u % 2 ^ 32) % 2 ^ 32 ≡ v % 2 ^ 32
opposite u v n sum = omega arith

same : (u v w m n : ℕ) → u + w ≡ 2 ^ 32 * m → w + v ≡ 2 ^ 32 * n → u % 2 ^ 32 ≡ v % 2 ^ 32
same u v w m n first second = omega arith

pub signed_product : (s t : Bool) (m n : ℕ) → m < 2 ^ 32 → n < 2 ^ 32 →
    negated_where (bool_xor s t) ((negated_where s m * negated_where t n) % 2 ^ 32) ≡ (m * n) % 2 ^ 32
signed_product false false m n m_small n_small = refl
signed_product true false m n m_small n_small =
    let k = 2 ^ 32 - m in
    let whole : k + m ≡ 2 ^ 32 = omega arith in
    ap (λ u. (2 ^ 32 - u) % 2 ^ 32) (first_factor k n)
    ∙ opposite (k * n) (m * n) n (rest_first k m n whole)
signed_product false true m n m_small n_small =
    let l = 2 ^ 32 - n in
    let whole : l + n ≡ 2 ^ 32 = omega arith in
    ap (λ u. (2 ^ 32 - u) % 2 ^ 32) (second_factor m l)
    ∙ opposite (m * l) (m * n) m (rest_second m l n whole)
signed_product true true m n m_small n_small =
    let k = 2 ^ 32 - m in
    let l = 2 ^ 32 - n in
    let first : k + m ≡ 2 ^ 32 = omega arith in
    let second : l + n ≡ 2 ^ 32 = omega arith in
    first_factor k (l % 2 ^ 32)
    ∙ second_factor k l
    ∙ same (k * l) (m * n) (k * n) k n (rest_second k l n second) (rest_first k m n first)
