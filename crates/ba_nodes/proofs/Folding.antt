-- Operations on bits that need no gate.

use mathlib.Core.Bool.{beq}
use Rattle.std.proofs.Common.{Result, Option, Ok, Err, IfOk, ◌≡◌, ℕ, ◌<◌, ◌≤◌, ◌==◌, Bool, true, false, not, ◌&&◌, List, get_or, Some, None, IsNone, if◌then◌else◌, refl, sym, ap, subst, ◌∙◌, arith}
use Rattle.std.proofs.lemmas.Bool.{eqb-true}
use Rattle.std.proofs.lemmas.Bool.Decides.{nat_tests}
use Rattle.std.specs.declared.alloc.AllocError.{AllocError}
use Rattle.std.proofs.Math.Bool.{and-true, and-false}
use Rattle.ba_nodes.specs.declared.Bit.{Bit}
use Rattle.ba_nodes.specs.declared.Node.{Node}
use Rattle.ba_nodes.specs.Gates.{bool_xor, bool_majority, constant_bit, values_of, truth, IsBitOf, folded, HasValue, MakesBit}
use Rattle.ba_nodes.proofs.Truths.{truth-constant, Grows_refl, Grows-more}

pub truth-zero : (free : ℕ → Bool) (nodes : List Node) (a : Bit) → a.index ≡ 0 → truth free nodes a ≡ a.negated
truth-zero free nodes a zero =
    let same : a ≡ constant_bit a.negated = λ i. record { index = zero i; negated = a.negated } in
    ap (truth free nodes) same ∙ truth-constant free nodes a.negated

-- the value of a bit from that of the other bit of its node
pub truth-same : (free : ℕ → Bool) (nodes : List Node) (a b : Bit) → a.index ≡ b.index → truth free nodes b ≡ bool_xor (bool_xor a.negated b.negated) (truth free nodes a)
unfolding truth
truth-same free nodes a b same =
    ap (λ i. bool_xor b.negated (get_or (values_of free nodes) i false)) (sym same)
    ∙ by_cases a.negated b.negated (get_or (values_of free nodes) a.index false)
  where
    by_cases : (m n v : Bool) → bool_xor n v ≡ bool_xor (bool_xor m n) (bool_xor m v)
    by_cases true true true = refl
    by_cases true true false = refl
    by_cases true false true = refl
    by_cases true false false = refl
    by_cases false true true = refl
    by_cases false true false = refl
    by_cases false false true = refl
    by_cases false false false = refl

pub truth-opposed : (free : ℕ → Bool) (nodes : List Node) (a b : Bit) → a.index ≡ b.index → beq a.negated b.negated ≡ false → truth free nodes b ≡ not (truth free nodes a)
truth-opposed free nodes a b same differ =
    truth-same free nodes a b same ∙ by_cases a.negated b.negated (truth free nodes a) differ
  where
    by_cases : (m n t : Bool) → beq m n ≡ false → bool_xor (bool_xor m n) t ≡ not t
    by_cases true true t differ = absurd (cc)
    by_cases true false t differ = refl
    by_cases false true t differ = refl
    by_cases false false t differ = absurd (cc)

-- a bit that was there, if nothing was added
pub makes_old : (nodes : List Node) (bit : Bit) (gates : ℕ) (meaning : (ℕ → Bool) → Bool) → IsBitOf nodes bit → ((free : ℕ → Bool) → truth free nodes bit ≡ meaning free) → MakesBit nodes nodes (Ok bit) gates meaning
makes_old nodes bit gates meaning is_bit holds = record { value = record { is_bit = is_bit; holds = holds }; grows = Grows_refl nodes gates }

-- a bit that is made has an equal value, by as many gates or more
pub makes_same : (old new : List Node) (result : Result Bit AllocError) (few gates : ℕ) (value other : (ℕ → Bool) → Bool) → MakesBit old new result few value → few ≤ gates → ((free : ℕ → Bool) → value free ≡ other free) → MakesBit old new result gates other
makes_same old new (Ok bit) few gates value other makes enough same = record {
  value = record { is_bit = makes.value.is_bit; holds = λ free. makes.value.holds free ∙ same free };
  grows = Grows-more old new makes.grows enough;
}
makes_same old new (Err error) few gates value other makes enough same = record { value = tt; grows = Grows-more old new makes.grows enough }

pub xor_turned : (x y : Bool) → bool_xor x y ≡ bool_xor y x
xor_turned true true = refl
xor_turned true false = refl
xor_turned false true = refl
xor_turned false false = refl

pub xor_same : (m n t : Bool) → bool_xor n m ≡ bool_xor t (bool_xor (bool_xor m n) t)
xor_same true true true = refl
xor_same true true false = refl
xor_same true false true = refl
xor_same true false false = refl
xor_same false true true = refl
xor_same false true false = refl
xor_same false false true = refl
xor_same false false false = refl

pub majority_opposed : (x z : Bool) → z ≡ bool_majority x (not x) z
majority_opposed true z = refl
majority_opposed false z = refl

pub majority_last_opposed : (x y : Bool) → x ≡ bool_majority x y (not y)
majority_last_opposed true true = refl
majority_last_opposed true false = refl
majority_last_opposed false true = refl
majority_last_opposed false false = refl

pub choice_opposed : (w y n : Bool) → n ≡ not y → bool_xor w n ≡ (if w then y else n)
choice_opposed true true n is = ap not is
choice_opposed true false n is = ap not is
choice_opposed false y n is = refl

pub choice_turned : (w n y : Bool) → (if not w then n else y) ≡ (if w then y else n)
choice_turned true n y = refl
choice_turned false n y = refl

-- a bit of the node of a true bit
pub given_true : (w b t : Bool) → t ≡ true → beq b w ≡ bool_xor (bool_xor w b) t
given_true true true true is = refl
given_true true false true is = refl
given_true false true true is = refl
given_true false false true is = refl
given_true w b false is = absurd (cc)

and_own : (b : Bool) → (b && b) ≡ b
and_own true = refl
and_own false = refl

and_not : (b : Bool) → (b && not b) ≡ false
and_not true = refl
and_not false = refl

module _ (nodes : List Node) (a b : Bit) (first : IsBitOf nodes a) (second : IsBitOf nodes b) where
  product : (ℕ → Bool) → Bool
  product free = truth free nodes a && truth free nodes b

  at_first : a.index ≡ 0 → (negated : Bool) → a.negated ≡ negated → HasValue nodes (if negated then b else a) product
  unfolding product
  at_first zero true is = record { is_bit = second; holds = λ free. sym (ap (λ x. x && truth free nodes b) (truth-zero free nodes a zero ∙ is)) }
  at_first zero false is = record {
    is_bit = first;
    holds = λ free. truth-zero free nodes a zero ∙ is ∙ sym (ap (λ x. x && truth free nodes b) (truth-zero free nodes a zero ∙ is));
  }

  at_second : b.index ≡ 0 → (negated : Bool) → b.negated ≡ negated → HasValue nodes (if negated then a else b) product
  unfolding product
  at_second zero true is = record { is_bit = first; holds = λ free. sym (ap (λ y. truth free nodes a && y) (truth-zero free nodes b zero ∙ is) ∙ and-true _) }
  at_second zero false is = record {
    is_bit = second;
    holds = λ free. truth-zero free nodes b zero ∙ is ∙ sym (ap (λ y. truth free nodes a && y) (truth-zero free nodes b zero ∙ is) ∙ and-false _);
  }

  at_same : a.index ≡ b.index → (differ : Bool) → bool_xor a.negated b.negated ≡ differ → HasValue nodes (if differ then constant_bit false else a) product
  unfolding product
  at_same same true is = record {
    is_bit = omega arith;
    holds = λ free. truth-constant free nodes false ∙ sym (ap (λ y. truth free nodes a && y) (truth-same free nodes a b same ∙ ap (λ x. bool_xor x (truth free nodes a)) is) ∙ and_not _);
  }
  at_same same false is = record {
    is_bit = first;
    holds = λ free. sym (ap (λ y. truth free nodes a && y) (truth-same free nodes a b same ∙ ap (λ x. bool_xor x (truth free nodes a)) is) ∙ and_own _);
  }

  by_same : (bit : Bit) (same : Bool) → (a.index == b.index) ≡ same → (if same then Some (if bool_xor a.negated b.negated then constant_bit false else a) else None) ≡ Some bit → HasValue nodes bit product
  by_same bit true same is =
      let here : (if bool_xor a.negated b.negated then constant_bit false else a) ≡ bit = cc in
      subst (λ x. HasValue nodes x product) here (at_same (eqb-true _ _ same) (bool_xor a.negated b.negated) refl)
  by_same bit false same is = absurd (cc)

  by_second : (bit : Bit) (zero : Bool) → (b.index == 0) ≡ zero → (if zero then Some (if b.negated then a else b) else if a.index == b.index then Some (if bool_xor a.negated b.negated then constant_bit false else a) else None) ≡ Some bit → HasValue nodes bit product
  by_second bit true zero is =
      let here : (if b.negated then a else b) ≡ bit = cc in
      subst (λ x. HasValue nodes x product) here (at_second (eqb-true _ _ zero) b.negated refl)
  by_second bit false zero is = by_same bit (a.index == b.index) refl is

  by_first : (bit : Bit) (zero : Bool) → (a.index == 0) ≡ zero → (if zero then Some (if a.negated then b else a) else if b.index == 0 then Some (if b.negated then a else b) else if a.index == b.index then Some (if bool_xor a.negated b.negated then constant_bit false else a) else None) ≡ Some bit → HasValue nodes bit product
  by_first bit true zero is =
      let here : (if a.negated then b else a) ≡ bit = cc in
      subst (λ x. HasValue nodes x product) here (at_first (eqb-true _ _ zero) a.negated refl)
  by_first bit false zero is = by_second bit (b.index == 0) refl is

  pub folded_value : (bit : Bit) → folded a b ≡ Some bit → HasValue nodes bit (λ free. truth free nodes a && truth free nodes b)
  unfolding product
  folded_value bit is = by_first bit (a.index == 0) refl is

-- bits that need a gate are of two nodes
pub indices_differ : (a b : Bit) → IsNone (folded a b) → b.index ≤ a.index → b.index < a.index
indices_differ a b needed below = grind (arith, nat_tests)

-- the order of two bits tells nothing
module _ (a b : Bit) where
  first_form : (zero_a zero_b same : Bool) → Option Bit
  first_form zero_a zero_b same = if zero_a then Some (if a.negated then b else a) else if zero_b then Some (if b.negated then a else b) else if same then Some (if bool_xor a.negated b.negated then constant_bit false else a) else None

  second_form : (zero_a zero_b same : Bool) → Option Bit
  second_form zero_a zero_b same = if zero_b then Some (if b.negated then a else b) else if zero_a then Some (if a.negated then b else a) else if same then Some (if bool_xor b.negated a.negated then constant_bit false else b) else None

  one_bit : a.index ≡ b.index → a.negated ≡ b.negated → a ≡ b
  one_bit index negated = λ i. record { index = index i; negated = negated i }

  either_constant : a.index ≡ b.index → (m n : Bool) → a.negated ≡ m → b.negated ≡ n → (if m then b else a) ≡ (if n then a else b)
  either_constant index true true m_is n_is = sym (one_bit index (m_is ∙ sym n_is))
  either_constant index true false m_is n_is = refl
  either_constant index false true m_is n_is = refl
  either_constant index false false m_is n_is = one_bit index (m_is ∙ sym n_is)

  either_same : a.index ≡ b.index → (m n : Bool) → a.negated ≡ m → b.negated ≡ n → (if bool_xor m n then constant_bit false else a) ≡ (if bool_xor n m then constant_bit false else b)
  either_same index true true m_is n_is = one_bit index (m_is ∙ sym n_is)
  either_same index true false m_is n_is = refl
  either_same index false true m_is n_is = refl
  either_same index false false m_is n_is = one_bit index (m_is ∙ sym n_is)

  either_form : (zero_a zero_b same : Bool) → (a.index == 0) ≡ zero_a → (b.index == 0) ≡ zero_b → (a.index == b.index) ≡ same → first_form zero_a zero_b same ≡ second_form zero_a zero_b same
  unfolding first_form second_form
  either_form true true same a_zero b_zero same_is =
      let index : a.index ≡ b.index = eqb-true _ _ a_zero ∙ sym (eqb-true _ _ b_zero) in
      ap Some (either_constant index a.negated b.negated refl refl)
  either_form true false same a_zero b_zero same_is = refl
  either_form false true same a_zero b_zero same_is = refl
  either_form false false true a_zero b_zero same_is = ap Some (either_same (eqb-true _ _ same_is) a.negated b.negated refl refl)
  either_form false false false a_zero b_zero same_is = refl

  pub folded_turned : folded a b ≡ folded b a
  unfolding first_form second_form
  folded_turned =
      let turned : (a.index == b.index) ≡ (b.index == a.index) = grind (arith, nat_tests) in
      either_form (a.index == 0) (b.index == 0) (a.index == b.index) refl refl refl
      ∙ ap (second_form (a.index == 0) (b.index == 0)) turned
