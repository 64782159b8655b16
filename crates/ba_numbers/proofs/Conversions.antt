-- That a converted number is the one number of the range that is congruent to the given one.

use Rattle.std.proofs.Common.{◌≡◌, ℕ, zero, suc, ◌+◌, ◌-◌, ◌*◌, ◌/◌, ◌%◌, ◌^◌, ◌<◌, ℤ, pos, negsuc, neg_ℤ, ◌+ℤ◌, ◌-ℤ◌, ◌*ℤ◌, ◌≤ℤ◌, ◌<ℤ◌, refl, sym, ap, ◌∙◌, subst, inl, inr, ◌⊎◌, Bool, true, false, not, Option, None, Some, IfSome, IsTrue, int_lt, int_le, arith, lit<}
use Rattle.std.proofs.Math.IntN.{+ℤ-neg_ℤ_cancel}
use Rattle.std.proofs.lemmas.Int.{ints, int_rem_euclid_is}
use Rattle.std.proofs.lemmas.Nat.{mod-mul-add, mod_below, div-add-mod'}
use Rattle.std.specs.Int.{int_rem_euclid}
use Rattle.std.specs.Ordering.{int_eq}
use Rattle.ba_numbers.specs.declared.numbers.CType.{CType}
use Rattle.ba_numbers.specs.declared.numbers.CType.TheVariants.{I8, U8, I16, U16, I32, U32}
use Rattle.ba_numbers.specs.declared.numbers.BinOp.{BinOp}
use Rattle.ba_numbers.specs.declared.numbers.BinOp.TheVariants.{Lt, Le, Gt, Ge, Eq, Ne}
use Rattle.ba_numbers.specs.declared.numbers.UnOp.{UnOp}
use Rattle.ba_numbers.specs.declared.numbers.UnOp.TheVariants.{Neg, Flip, IsZero}
use Rattle.ba_numbers.specs.Numbers.{IsIn, IsCongruent, centred, converted, width_of, plain_value, converted_value, value_of, value_of_one, truth, compares}

-- the natural a less q turns
turned_back : (a q m r : ℕ) → q * m + r ≡ a → pos r ≡ pos a +ℤ neg_ℤ (pos q) *ℤ pos m
turned_back a zero m r e = grind (arith, ints)
turned_back a (suc q) m r e = grind (arith, ints)

-- the number -(a + 1) and q + 1 turns
turned_on : (a q m r : ℕ) → q * m + r ≡ a → r < m → pos (m - 1 - r) ≡ negsuc a +ℤ pos (q + 1) *ℤ pos m
turned_on a q m r e below =
    let next : (q + 1) * m ≡ q * m + m = grind arith in omega (arith, ints)

moved : (r z k half : ℤ) → r ≡ z +ℤ half +ℤ k → r -ℤ half ≡ z +ℤ k
moved r z k half e = omega (arith, ints)

moved_back : (y z k half : ℤ) → y ≡ z +ℤ k → y +ℤ half ≡ z +ℤ half +ℤ k
moved_back y z k half e = omega (arith, ints)

pub rem_congruent : (m : ℕ) (z : ℤ) → 0 < m → IsCongruent m (int_rem_euclid z (pos m)) z
rem_congruent m (pos a) positive =
    record { turns = neg_ℤ (pos (a / m)); apart = turned_back a (a / m) m (a % m) (div-add-mod' a m) }
rem_congruent m (negsuc a) positive =
    record {
      turns = pos (a / m + 1);
      apart = turned_on a (a / m) m (a % m) (div-add-mod' a m) (mod_below a m positive);
    }

-- by cases on the turns
same_rem : (m r : ℕ) (z turns : ℤ) → r < m → pos r ≡ z +ℤ turns *ℤ pos m → int_rem_euclid z (pos m) ≡ pos r
same_rem m r z (pos k) below e =
    let ahead : z +ℤ pos (k * m) ≡ pos (0 * m + r) = omega (arith, ints) in
    int_rem_euclid_is z (pos m) m k (0 * m + r) (omega arith) refl ahead ∙ ap pos (mod-mul-add 0 m r below)
same_rem m r z (negsuc k) below e =
    let ahead : z +ℤ pos (0 * m) ≡ pos (suc k * m + r) = omega (arith, ints) in
    int_rem_euclid_is z (pos m) m 0 (suc k * m + r) (omega arith) refl ahead ∙ ap pos (mod-mul-add (suc k) m r below)

pub rem_only : (m : ℕ) (y z : ℤ) → pos 0 ≤ℤ y → y <ℤ pos m → IsCongruent m y z → int_rem_euclid z (pos m) ≡ y
rem_only m (pos r) z low high same = same_rem m r z same.turns (grind (arith, ints)) same.apart
rem_only m (negsuc r) z low high same = absurd (omega (arith, ints))

shifted : (half : ℕ) (z r : ℤ) → IsCongruent (2 * half) r (z +ℤ pos half) → IsCongruent (2 * half) (r -ℤ pos half) z
shifted half z r same =
    record { turns = same.turns; apart = moved r z (same.turns *ℤ pos (2 * half)) (pos half) same.apart }

pub centred_congruent : (half : ℕ) (z : ℤ) → 0 < half → IsCongruent (2 * half) (centred half z) z
centred_congruent half z positive =
    shifted half z _ (rem_congruent (2 * half) (z +ℤ pos half) (omega arith))

pub centred_only : (half : ℕ) (y z : ℤ) → neg_ℤ (pos half) ≤ℤ y → y <ℤ pos half → IsCongruent (2 * half) y z → centred half z ≡ y
centred_only half y z low high same =
    let up : IsCongruent (2 * half) (y +ℤ pos half) (z +ℤ pos half) =
    record { turns = same.turns; apart = moved_back y z (same.turns *ℤ pos (2 * half)) (pos half) same.apart } in
    let rest : int_rem_euclid (z +ℤ pos half) (pos (2 * half)) ≡ y +ℤ pos half =
    rem_only (2 * half) (y +ℤ pos half) (z +ℤ pos half) (omega (arith, ints)) (omega (arith, ints)) up in
    ap (λ r. r -ℤ pos half) rest ∙ +ℤ-neg_ℤ_cancel y (pos half)

rem_low : (m : ℕ) (z : ℤ) → pos 0 ≤ℤ int_rem_euclid z (pos m)
rem_low m (pos a) = omega (arith, ints)
rem_low m (negsuc a) = omega (arith, ints)

rem_high : (m : ℕ) (z : ℤ) → 0 < m → int_rem_euclid z (pos m) <ℤ pos m
rem_high m (pos a) positive = let below : a % m < m = mod_below a m positive in omega (arith, ints)
rem_high m (negsuc a) positive = omega (arith, ints)

pub centred_low : (half : ℕ) (z : ℤ) → neg_ℤ (pos half) ≤ℤ centred half z
centred_low half z =
    let low : pos 0 ≤ℤ int_rem_euclid (z +ℤ pos half) (pos (2 * half)) = rem_low (2 * half) (z +ℤ pos half) in
    omega (arith, ints)

pub centred_high : (half : ℕ) (z : ℤ) → 0 < half → centred half z <ℤ pos half
centred_high half z positive =
    let twice : 0 < 2 * half = omega arith in
    let high : int_rem_euclid (z +ℤ pos half) (pos (2 * half)) <ℤ pos (2 * half) =
    rem_high (2 * half) (z +ℤ pos half) twice in
    omega (arith, ints)

-- a number below 2 ^ k is at most the greatest of the type
below_greatest : (z : ℤ) (n : ℕ) → z <ℤ pos (suc n) → z ≤ℤ pos n
below_greatest z n below = omega (arith, ints)

pub converted_in_range : (t : CType) (z : ℤ) → IsIn t (converted t z)
unfolding converted
converted_in_range I8 z = record { low = centred_low 0x80 z; high = below_greatest (centred 0x80 z) 0x7f (centred_high 0x80 z (lit< tt)) }
converted_in_range U8 z = record { low = rem_low 0x100 z; high = below_greatest (int_rem_euclid z (pos 0x100)) 0xff (rem_high 0x100 z (lit< tt)) }
converted_in_range I16 z = record { low = centred_low 0x8000 z; high = below_greatest (centred 0x8000 z) 0x7fff (centred_high 0x8000 z (lit< tt)) }
converted_in_range U16 z = record { low = rem_low 0x10000 z; high = below_greatest (int_rem_euclid z (pos 0x10000)) 0xffff (rem_high 0x10000 z (lit< tt)) }
converted_in_range I32 z = record { low = centred_low 0x80000000 z; high = below_greatest (centred 0x80000000 z) 0x7fffffff (centred_high 0x80000000 z (lit< tt)) }
converted_in_range U32 z = record { low = rem_low 0x100000000 z; high = below_greatest (int_rem_euclid z (pos 0x100000000)) 0xffffffff (rem_high 0x100000000 z (lit< tt)) }

pub converted_congruent : (t : CType) (z : ℤ) → IsCongruent (2 ^ width_of t) (converted t z) z
unfolding converted
converted_congruent I8 z = centred_congruent 0x80 z (lit< tt)
converted_congruent U8 z = rem_congruent 0x100 z (lit< tt)
converted_congruent I16 z = centred_congruent 0x8000 z (lit< tt)
converted_congruent U16 z = rem_congruent 0x10000 z (lit< tt)
converted_congruent I32 z = centred_congruent 0x80000000 z (lit< tt)
converted_congruent U32 z = rem_congruent 0x100000000 z (lit< tt)

above_greatest : (z : ℤ) (n : ℕ) → z ≤ℤ pos n → z <ℤ pos (suc n)
above_greatest z n most = omega (arith, ints)

pub converted_only : (t : CType) (y z : ℤ) → IsIn t y → IsCongruent (2 ^ width_of t) y z → y ≡ converted t z
unfolding converted
converted_only I8 y z within same = sym (centred_only 0x80 y z within.low (above_greatest y 0x7f within.high) same)
converted_only U8 y z within same = sym (rem_only 0x100 y z within.low (above_greatest y 0xff within.high) same)
converted_only I16 y z within same = sym (centred_only 0x8000 y z within.low (above_greatest y 0x7fff within.high) same)
converted_only U16 y z within same = sym (rem_only 0x10000 y z within.low (above_greatest y 0xffff within.high) same)
converted_only I32 y z within same = sym (centred_only 0x80000000 y z within.low (above_greatest y 0x7fffffff within.high) same)
converted_only U32 y z within same = sym (rem_only 0x100000000 y z within.low (above_greatest y 0xffffffff within.high) same)

same_congruent : (m : ℕ) (z : ℤ) → IsCongruent m z z
same_congruent m z = record { turns = pos 0; apart = grind (arith, ints) }

pub converted_own : (t : CType) (z : ℤ) → IsIn t z → converted t z ≡ z
converted_own t z within = sym (converted_only t z z within (same_congruent (2 ^ width_of t) z))

pub value_in_range : (op : BinOp) (t : CType) (a b : ℤ) → IfSome (value_of op t a b) (IsIn t)
unfolding value_of
value_in_range op t a b = some_in_range (plain_value op a b)
  where
    some_in_range : (plain : Option ℤ) → IfSome (converted_value t plain) (IsIn t)
    some_in_range None = tt
    some_in_range (Some z) = converted_in_range t z

pub truth_converted : (t : CType) (b : Bool) → converted t (truth b) ≡ truth b
unfolding converted
truth_converted I8 b = elim b as (λ b. centred 0x80 (truth b) ≡ truth b) [ true ↦ refl | false ↦ refl ]
truth_converted U8 b = elim b as (λ b. int_rem_euclid (truth b) (pos 0x100) ≡ truth b) [ true ↦ refl | false ↦ refl ]
truth_converted I16 b = elim b as (λ b. centred 0x8000 (truth b) ≡ truth b) [ true ↦ refl | false ↦ refl ]
truth_converted U16 b = elim b as (λ b. int_rem_euclid (truth b) (pos 0x10000) ≡ truth b) [ true ↦ refl | false ↦ refl ]
truth_converted I32 b = elim b as (λ b. centred 0x80000000 (truth b) ≡ truth b) [ true ↦ refl | false ↦ refl ]
truth_converted U32 b = elim b as (λ b. int_rem_euclid (truth b) (pos 0x100000000) ≡ truth b) [ true ↦ refl | false ↦ refl ]

pub truth_cases : (b : Bool) → (truth b ≡ pos 0) ⊎ (truth b ≡ pos 1)
truth_cases true = inr refl
truth_cases false = inl refl

truth_in_range : (t : CType) (b : Bool) → IsIn t (truth b)
truth_in_range t b = subst (IsIn t) (truth_converted t b) (converted_in_range t (truth b))

pub value_of_one_in_range : (op : UnOp) (t : CType) (a : ℤ) → IsIn t (value_of_one op t a)
unfolding value_of_one
value_of_one_in_range Neg t a = converted_in_range t (neg_ℤ a)
value_of_one_in_range Flip t a = converted_in_range t (neg_ℤ a -ℤ pos 1)
value_of_one_in_range IsZero t a = truth_in_range t (int_eq a (pos 0))

truth_value : (t : CType) (b : Bool) → (converted_value t (Some (truth b)) ≡ Some (pos 0)) ⊎ (converted_value t (Some (truth b)) ≡ Some (pos 1))
truth_value t b =
    rw (truth_converted t b) (elim b as (λ b. (Some (truth b) ≡ Some (pos 0)) ⊎ (Some (truth b) ≡ Some (pos 1))) [ true ↦ inr refl | false ↦ inl refl ])

pub compared : (op : BinOp) (t : CType) (a b : ℤ) → IsTrue (compares op) → (value_of op t a b ≡ Some (pos 0)) ⊎ (value_of op t a b ≡ Some (pos 1))
unfolding value_of
compared Lt t a b compares_so = truth_value t (int_lt a b)
compared Le t a b compares_so = truth_value t (int_le a b)
compared Gt t a b compares_so = truth_value t (int_lt b a)
compared Ge t a b compares_so = truth_value t (int_le b a)
compared Eq t a b compares_so = truth_value t (int_eq a b)
compared Ne t a b compares_so = truth_value t (not (int_eq a b))
compared _ t a b compares_so = absurd (grind arith)

pub tested : (t : CType) (a : ℤ) → (value_of_one IsZero t a ≡ pos 0) ⊎ (value_of_one IsZero t a ≡ pos 1)
unfolding value_of_one
tested t a = truth_cases (int_eq a (pos 0))
