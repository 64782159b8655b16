-- Readings by the variables of a formula are readings by more variables.
use Rattle.std.proofs.Common.{◌≡◌, ℕ, suc, zero, ◌<◌, ◌≤◌, ◌==◌, ◌&&◌, true, List, [], ◌∷◌, length, get_or, refl, subst, arith}
use Rattle.std.proofs.lemmas.Bool.{and_from, and_parts}
use Rattle.std.proofs.lemmas.Bool.Decides.{nat_tests}
use Rattle.std.specs.List.{list_all}
use Rattle.std.specs.Prelude.{nat_le}
use Rattle.ba_clauses.specs.declared.encoding.Reading.{Reading}
use Rattle.ba_clauses.specs.declared.encoding.Reading.TheVariants.{Constant, Variable}
use Rattle.ba_encode.specs.Readings.{are_readable, is_counted, is_readable, is_readable_place, is_readable_value}
use Rattle.ba_encode.specs.declared.encoded.PlaceReading.{PlaceReading}
use Rattle.ba_encode.specs.declared.encoded.ValueReading.{ValueReading}
use Rattle.ba_lits.specs.Literals.{Literal}

module _ (m n : ℕ) (more : m ≤ n) where
  within : (k : ℕ) → nat_le k m ≡ true → nat_le k n ≡ true
  within k few = grind (arith, nat_tests, few, more)

  counted : (lit : Literal) → is_counted m lit ≡ true → is_counted n lit ≡ true
  counted lit is =
      let both = and_parts (nat_le 1 lit.variable) (nat_le lit.variable m) is in
      and_from (nat_le 1 lit.variable) (nat_le lit.variable n) both.0 (within lit.variable both.1)

  reading : (r : Reading) → is_readable m r ≡ true → is_readable n r ≡ true
  reading (Constant value) is = refl
  reading (Variable lit) is = counted lit is

  bits : (rs : List Reading) → list_all (is_readable m) rs ≡ true → list_all (is_readable n) rs ≡ true
  bits [] all = refl
  bits (r ∷ rs) all =
      let both = and_parts (is_readable m r) (list_all (is_readable m) rs) all in
      and_from (is_readable n r) (list_all (is_readable n) rs) (reading r both.0) (bits rs both.1)

  value : (v : ValueReading) → is_readable_value m v ≡ true → is_readable_value n v ≡ true
  value v is =
      let both = and_parts (length v.bits == 32) (list_all (is_readable m) v.bits) is in
      and_from (length v.bits == 32) (list_all (is_readable n) v.bits) both.0 (bits v.bits both.1)

  values : (vs : List ValueReading) → list_all (is_readable_value m) vs ≡ true →
      list_all (is_readable_value n) vs ≡ true
  values [] all = refl
  values (v ∷ vs) all =
      let both = and_parts (is_readable_value m v) (list_all (is_readable_value m) vs) all in
      and_from (is_readable_value n v) (list_all (is_readable_value n) vs) (value v both.0) (values vs both.1)

  place : (p : PlaceReading) → is_readable_place m p ≡ true → is_readable_place n p ≡ true
  place p is =
      let all = and_parts (is_readable m p.selector && is_readable m p.guard && is_readable m p.keep)
      (list_all (is_readable_value m) p.values) is in
      let three = and_parts (is_readable m p.selector && is_readable m p.guard) (is_readable m p.keep)
      all.0 in
      let two = and_parts (is_readable m p.selector) (is_readable m p.guard) three.0 in
      and_from (is_readable n p.selector && is_readable n p.guard && is_readable n p.keep)
      (list_all (is_readable_value n) p.values)
      (and_from (is_readable n p.selector && is_readable n p.guard) (is_readable n p.keep)
      (and_from (is_readable n p.selector) (is_readable n p.guard) (reading p.selector two.0)
      (reading p.guard two.1))
      (reading p.keep three.1))
      (values p.values all.1)

  pub at-place : (ps : List PlaceReading) (i : ℕ) (p : PlaceReading) → i < length ps → get_or ps i p ≡ p
      → are_readable m ps ≡ true → is_readable_place n p ≡ true
  at-place [] i p few is all = absurd (omega (arith, few))
  at-place (q ∷ ps) zero p few is all =
      subst (λ r. is_readable_place n r ≡ true) is
      (place q (and_parts (is_readable_place m q) (are_readable m ps) all).0)
  at-place (q ∷ ps) (suc i) p few is all =
      at-place ps i p (omega (arith, few)) is (and_parts (is_readable_place m q) (are_readable m ps) all).1
