-- The terms of Luby's sequence by the powers of two.
use Rattle.std.proofs.Common.{◌≡◌, ℕ, ◌+◌, ◌-◌, ◌*◌, ◌^◌, ◌<◌, ◌≤◌, refl, sym, ◌∙◌, ap, subst, add-one, arith}
use Rattle.std.proofs.Math.Nat.{pow-suc}
use Rattle.ba_rules.specs.Luby.{IsLubyTerm, ends, begins_again}

pub record IsPower (number : ℕ) : Type 0 where
  pub exponent : ℕ
  pub is : number ≡ 2 ^ exponent

twice : (k : ℕ) → 2 ^ (k + 1) ≡ 2 ^ k * 2
twice k = rw add-one (pow-suc 2 k)

pub one_is : IsPower 1
one_is = record { exponent = 0; is = refl }

pub doubled : (half : ℕ) → IsPower half → IsPower (half * 2)
doubled half power = record {
  exponent = power.exponent + 1;
  is = ap (λ n. n * 2) power.is ∙ sym (twice
      power.exponent);
}

pub last_term : (number half : ℕ) → IsPower half → number + 1 ≡ 2 * half → IsLubyTerm number half
last_term number half power full = ends power.exponent number half (omega (
  arith,
  twice power.exponent,
  power.is,
)) power.is

pub again_term : (number half term : ℕ) → IsPower half → half ≤ number → number < 2 * half →
    (number + 1 ≡ 2 * half → ⊥) → IsLubyTerm (number - half + 1) term
    → IsLubyTerm number term
again_term number half term power low high less rest =
    let at_least : 2 ^ power.exponent ≤ number = subst (λ n. n ≤ number) power.is low in
    let fewer : number + 1 < 2 ^ (power.exponent + 1) = omega (arith, twice power.exponent, power.is) in
    begins_again power.exponent number term at_least fewer (subst (λ n. IsLubyTerm (number - n + 1) term)
    power.is rest)
