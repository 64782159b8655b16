-- What the operators of a sample give, for numbers that stay in the range of `int`.
use Rattle.std.proofs.Common.{◌≡◌, zero, suc, ℕ, ◌+◌, ◌<◌, ◌≤◌, pos, Bool, true, false, Some, T, refl, ◌∙◌, ap, inl, inr, ◌⊎◌, arith}
use Rattle.std.proofs.lemmas.Bool.{and_from}
use Rattle.std.proofs.lemmas.Bool.Decides.{Decides-int_eq}
use Rattle.std.proofs.lemmas.Int.{ints}
use Rattle.std.specs.Prelude.{int_le}
use Rattle.std.specs.Ordering.{int_eq}
use Rattle.ba_numbers.proofs.Conversions.{converted_own, truth_converted}
use Rattle.ba_numbers.specs.Numbers.{IsIn, converted, greatest_of, is_in, least_of, truth, value_of}
use Rattle.ba_numbers.specs.declared.numbers.BinOp.TheVariants.{Add, Eq}
use Rattle.ba_numbers.specs.declared.numbers.CType.TheVariants.{I32}

pub le_or_lt : (a b : ℕ) → (a ≤ b) ⊎ (b < a)
le_or_lt zero b = inl (omega arith)
le_or_lt (suc a) zero = inr (omega arith)
le_or_lt (suc a) (suc b) = elim (le_or_lt a b) [ inl low ↦ inl (omega arith) | inr high ↦ inr (omega arith) ]

-- so many numbers from 0 on are in the range
abbrev pub limit : ℕ
limit = 2147483648

in_range : (v : ℕ) → v < limit → IsIn I32 (pos v)
in_range v low = record { low = omega (arith, ints); high = omega (arith, ints) }

of_T : (b : Bool) → T b → b ≡ true
of_T true h = refl
of_T false h = absurd h

pub is_in_range : (v : ℕ) → v < limit → is_in I32 (pos v) ≡ true
is_in_range v low = let within = in_range v low in
    and_from (int_le (least_of I32) (pos v)) (int_le (pos v) (greatest_of I32))
    (of_T (int_le (least_of I32) (pos v)) within.low.le)
    (of_T (int_le (pos v) (greatest_of I32)) within.high.le)

pub own_value : (v : ℕ) → v < limit → converted I32 (pos v) ≡ pos v
own_value v low = converted_own I32 (pos v) (in_range v low)

pub added : (v : ℕ) → v + 1 < limit → value_of Add I32 (pos v) (pos 1) ≡ Some (pos (v + 1))
unfolding value_of
added v low = ap Some (own_value (v + 1) low)

pub compared_equal : (v n : ℕ) → v ≡ n → value_of Eq I32 (pos v) (pos n) ≡ Some (pos 1)
unfolding value_of
compared_equal v n same = ap Some (truth_converted I32 (int_eq (pos v) (pos n)))
    ∙ ap (λ b. Some (truth b)) ((Decides-int_eq (pos v) (pos n)).1 (ap pos same))

differ : (v n : ℕ) → v < n → int_eq (pos v) (pos n) ≡ false
differ v n low = from (int_eq (pos v) (pos n)) (Decides-int_eq (pos v) (pos n)).0 where
  from : (b : Bool) → (b ≡ true → pos v ≡ pos n) → b ≡ false
  from true same = absurd (let equal = same refl in omega (arith, ints))
  from false same = refl

pub compared_below : (v n : ℕ) → v < n → value_of Eq I32 (pos v) (pos n) ≡ Some (pos 0)
unfolding value_of
compared_below v n low = ap Some (truth_converted I32 (int_eq (pos v) (pos n)))
    ∙ ap (λ b. Some (truth b)) (differ v n low)
