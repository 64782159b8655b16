-- The circuits of operators beside the meaning of word lists.
use Rattle.std.proofs.Common.{◌≡◌, ℕ, ◌+◌, ◌*◌, ◌^◌, ◌<◌, nat_lt, Bool, true, false, not, cond, Some, Result, Ok, Err, IfOk, if◌then◌else◌, List, [], ◌∷◌, set, length, refl, sym, ◌∙◌, ap, subst, arith, ℤ, pos, negsuc}
use Rattle.std.specs.Prelude.{int_lt, int_le, nat_le}
use Rattle.std.proofs.lemmas.Int.{ints}
use Rattle.std.proofs.lemmas.List.{length-set}
use Rattle.std.proofs.lemmas.Bool.Decides.{nat_tests}
use Rattle.std.specs.declared.alloc.AllocError.{AllocError}
use Rattle.std.specs.Ordering.{int_eq}
use Rattle.ba_bits.specs.Bits.{HasLowBits, value_in}
use Rattle.ba_bits.proofs.Low.{low-pos, low-truth}
use Rattle.ba_code.specs.Operators.{converting}
use Rattle.ba_nodes.specs.declared.Bit.{Bit}
use Rattle.ba_nodes.specs.declared.Node.{Node}
use Rattle.ba_nodes.specs.Gates.{IsBitOf, truth}
use Rattle.ba_numbers.specs.declared.numbers.BinOp.{BinOp}
use Rattle.ba_numbers.specs.declared.numbers.BinOp.TheVariants.{Lt, Le, Gt, Ge, Eq, Ne}
use Rattle.ba_numbers.specs.declared.numbers.CType.{CType}
use Rattle.ba_numbers.specs.declared.numbers.CType.TheVariants.{I8, U8, I16, U16, I32, U32}
use Rattle.ba_numbers.specs.declared.numbers.UnOp.{UnOp}
use Rattle.ba_numbers.specs.Numbers.{low_word, value_of, value_of_one, truth as number_of_truth}
use Rattle.ba_numbers.proofs.Conversions.{truth_converted}
use Rattle.ba_numbers.specs.Types.{is_promoted, shifts}
use Rattle.ba_wordlist.specs.Meaning.{binary_value, value_at_zero, value_or}
use Rattle.ba_words.specs.Words.{AreBitsOf, HasNumber, IsShift, IsValueOf, IsValueOfOne, digit, number_of, word_type}
use Rattle.ba_words.proofs.Circuits.{number_small}
use Rattle.ba_words.proofs.Places.{are_bits-set}
use Rattle.ba_words.proofs.Values.{low_word-read, read, read_unsigned}

-- RESULTS

pub both_ok : {A : Type 0} (result : Result A AllocError) (P Q R : A → Type 0) → ((x : A) → P x → Q x → R x)
    → IfOk result P → IfOk result Q → IfOk result R
both_ok (Ok x) P Q R step first second = step x first second
both_ok (Err error) P Q R step first second = tt

pub number-same : (nodes : List Node) (word : List Bit) (number other : (ℕ → Bool) → ℕ)
    → HasNumber nodes word number
    → ((free : ℕ → Bool) → number free ≡ other free) → HasNumber nodes word other
number-same nodes word number other has same = record {
  long = has.long;
  are_bits = has.are_bits;
  holds = λ free. has.holds free ∙ same free;
}

-- VALUES OF BINARY OPERATORS

-- a value that there is
pub value-low : (op : BinOp) (signed : Bool) (m n r : ℕ) → r < 2 ^ 32 → shifts op ≡ false
    → value_of op (word_type signed) (read signed m) (read signed n) ≡ Some (read signed r)
    → r ≡ low_word (binary_value op (word_type signed) (pos m) (pos n))
value-low op signed m n r small plain is =
    sym (low_word-read signed r small)
    ∙ ap (λ o. low_word (value_or o (value_at_zero op (word_type signed) (pos m)))) (sym is
    ∙ ap (λ b. value_of op (word_type signed) (read signed m) (cond b (pos n) (read signed n))) (sym plain))

-- a shift, whose count is read as it is
pub shift-low : (op : BinOp) (signed : Bool) (m n r : ℕ) → r < 2 ^ 32 → n < 2 ^ 32 → shifts op ≡ true
    → value_of op (word_type signed) (read signed m) (read false n) ≡ Some (read signed r)
    → r ≡ low_word (binary_value op (word_type signed) (pos m) (pos n))
shift-low op signed m n r small n_small shift is =
    sym (low_word-read signed r small)
    ∙ ap (λ o. low_word (value_or o (value_at_zero op (word_type signed) (pos m)))) (sym is
    ∙ ap (value_of op (word_type signed) (read signed m)) (read_unsigned n n_small)
    ∙ ap (λ b. value_of op (word_type signed) (read signed m) (cond b (pos n) (read signed n))) (sym shift))

-- a comparison
pub truth-low : (op : BinOp) (signed : Bool) (m n : ℕ) (x : Bool) → shifts op ≡ false
    → value_of op (word_type signed) (read signed m) (read signed n) ≡ Some (number_of_truth x)
    → digit x ≡ low_word (binary_value op (word_type signed) (pos m) (pos n))
truth-low op signed m n x plain is =
    sym (low-truth x)
    ∙ ap (λ o. low_word (value_or o (value_at_zero op (word_type signed) (pos m)))) (sym is
    ∙ ap (λ b. value_of op (word_type signed) (read signed m) (cond b (pos n) (read signed n))) (sym plain))

same-truth : (a b : Bool) → number_of_truth a ≡ number_of_truth b → a ≡ b
same-truth true true e = refl
same-truth false false e = refl
same-truth true false e = absurd (let f : pos 1 ≡ pos 0 = e in omega (arith, ints))
same-truth false true e = absurd (let f : pos 0 ≡ pos 1 = e in omega (arith, ints))

some-value : (y z : ℤ) → Some y ≡ Some z → y ≡ z
some-value y z e = ap (λ o. value_or o (pos 0)) e

-- the truth of a comparison, by the value that its operator has
less-is : (t : CType) (y z : ℤ) (x : Bool) → value_of Lt t y z ≡ Some (number_of_truth x) → int_lt y z ≡ x
unfolding value_of
less-is t y z x is = same-truth (int_lt y z) x (sym (truth_converted t (int_lt y z)) ∙ some-value _ _ is)

equal-is : (t : CType) (y z : ℤ) (x : Bool) → value_of Eq t y z ≡ Some (number_of_truth x) → int_eq y z ≡ x
unfolding value_of
equal-is t y z x is = same-truth (int_eq y z) x (sym (truth_converted t (int_eq y z)) ∙ some-value _ _ is)

pub gt-value : (t : CType) (y z : ℤ) (x : Bool) → value_of Lt t z y ≡ Some (number_of_truth x)
    → value_of Gt t y z ≡ Some (number_of_truth x)
unfolding value_of
gt-value t y z x is = is

turned-nat : (a b : ℕ) → nat_le a b ≡ not (nat_lt b a)
turned-nat a b = grind (arith, nat_tests)

turned-test : (y z : ℤ) → int_le y z ≡ not (int_lt z y)
turned-test (pos a) (pos b) = turned-nat a b
turned-test (pos a) (negsuc b) = refl
turned-test (negsuc a) (pos b) = refl
turned-test (negsuc a) (negsuc b) = turned-nat b a

pub ge-value : (t : CType) (y z : ℤ) (x : Bool) → value_of Lt t y z ≡ Some (number_of_truth x)
    → value_of Ge t y z ≡ Some (number_of_truth (not x))
unfolding value_of
ge-value t y z x is = ap Some (truth_converted t (int_le z y)
    ∙ ap number_of_truth (turned-test z y ∙ ap not (less-is t y z x is)))

pub le-value : (t : CType) (y z : ℤ) (x : Bool) → value_of Lt t z y ≡ Some (number_of_truth x)
    → value_of Le t y z ≡ Some (number_of_truth (not x))
unfolding value_of
le-value t y z x is = ap Some (truth_converted t (int_le y z)
    ∙ ap number_of_truth (turned-test y z ∙ ap not (less-is t z y x is)))

pub ne-value : (t : CType) (y z : ℤ) (x : Bool) → value_of Eq t y z ≡ Some (number_of_truth x)
    → value_of Ne t y z ≡ Some (number_of_truth (not x))
unfolding value_of
ne-value t y z x is = ap Some (truth_converted t (not (int_eq y z))
    ∙ ap number_of_truth (ap not (equal-is t y z x is)))

-- WORDS OF VALUES: in the function's own terms, if the operator is known and its type is signed or not

module _ (old : List Node) (a b : List Bit) (op known : BinOp) (t : CType) (signed : Bool) (is : op ≡ known)
    (typed : word_type signed ≡ t) where
  abbrev value : BinOp → CType → (ℕ → Bool) → ℤ
  value op t free = binary_value op t (value_in free old a) (value_in free old b)

  as-given : (new : List Node) (word : List Bit) → HasLowBits new word (value known (word_type signed))
      → HasLowBits new word (value op t)
  as-given new word has = subst (λ o. HasLowBits new word (value o t)) (sym is)
      (subst (λ u. HasLowBits new word (value known u)) typed has)

  pub given-value : (new : List Node) (word : List Bit) (number : (ℕ → Bool) → ℕ) → shifts known ≡ false
      → HasNumber new word number → IsValueOf known signed old a b new word → HasLowBits new word (value op t)
  given-value new word number plain has found = as-given new word (record {
    long = has.long;
    are_bits = has.are_bits;
    holds = λ free. value-low known signed (number_of free old a) (number_of free old b)
        (number_of free new word)
        (number_small free new word has.long) plain (found free);
  })

  pub given-shift : (new : List Node) (word : List Bit) (number : (ℕ → Bool) → ℕ) → shifts known ≡ true
      → length b ≡ 32 → HasNumber new word number → IsShift known signed false old a b new word
      → HasLowBits new word (value op t)
  given-shift new word number shift long has found = as-given new word (record {
    long = has.long;
    are_bits = has.are_bits;
    holds = λ free. shift-low known signed (number_of free old a) (number_of free old b)
        (number_of free new word)
        (number_small free new word has.long) (number_small free old b long) shift (found free);
  })

  -- a quotient or a remainder, whose number is known also for a divisor of 0
  pub given-number : (new : List Node) (word : List Bit) (number : (ℕ → Bool) → ℕ)
      → ((free : ℕ → Bool) → number free < 2 ^ 32
      → number free ≡ low_word (value known (word_type signed) free))
      → HasNumber new word number → HasLowBits new word (value op t)
  given-number new word number same has = as-given new word (number-same new word number _ has
      (λ free. same free (subst (λ n. n < 2 ^ 32) (has.holds free) (number_small free new word has.long))))

  pub given-truth : (new : List Node) (word : List Bit) (x : (ℕ → Bool) → Bool) → shifts known ≡ false
      → HasNumber new word (λ free. digit (x free))
      → ((free : ℕ → Bool) → value_of known (word_type signed) (read signed (number_of free old a))
      (read signed (number_of free old b)) ≡ Some (number_of_truth (x free)))
      → HasLowBits new word (value op t)
  given-truth new word x plain has found =
      as-given new word (number-same new word (λ free. digit (x free)) _ has
      (λ free. truth-low known signed (number_of free old a) (number_of free old b) (x free) plain
      (found free)))

-- VALUES OF UNARY OPERATORS

pub one-low : (op : UnOp) (signed : Bool) (m r : ℕ) → r < 2 ^ 32
    → value_of_one op (word_type signed) (read signed m) ≡ read signed r
    → r ≡ low_word (converting.unary op (word_type signed) (pos m))
one-low op signed m r small is = sym (low_word-read signed r small) ∙ ap low_word (sym is)

signed_of : CType → Bool
signed_of I32 = true
signed_of _ = false

typed_of : (t : CType) → is_promoted t ≡ true → word_type (signed_of t) ≡ t
unfolding signed_of
typed_of I32 h = refl
typed_of U32 h = refl
typed_of I8 h = absurd (cc)
typed_of U8 h = absurd (cc)
typed_of I16 h = absurd (cc)
typed_of U16 h = absurd (cc)

module _ (old : List Node) (a : List Bit) (op known : UnOp) (t : CType) (is : op
    ≡ known) (promoted : is_promoted t ≡ true) where
  abbrev one-value : UnOp → CType → (ℕ → Bool) → ℤ
  one-value op t free = converting.unary op t (value_in free old a)

  one-given : (new : List Node) (word : List Bit)
      → HasLowBits new word (one-value known (word_type (signed_of t)))
      → HasLowBits new word (one-value op t)
  one-given new word has = subst (λ o. HasLowBits new word (one-value o t)) (sym is)
      (subst (λ u. HasLowBits new word (one-value known u)) (typed_of t promoted) has)

  pub given-one : (new : List Node) (word : List Bit) → length word ≡ 32 → AreBitsOf new word
      → ((signed : Bool) → IsValueOfOne known signed old a new word) → HasLowBits new word (one-value op t)
  given-one new word long bits found = one-given new word (record {
    long = long;
    are_bits = bits;
    holds = λ free. one-low known (signed_of t) (number_of free old a) (number_of free new word)
        (number_small free new word long) (found (signed_of t) free);
  })

  pub given-test : (new : List Node) (word : List Bit) (x : (ℕ → Bool) → Bool)
      → HasNumber new word (λ free. digit (x free))
      → ((signed : Bool) (free : ℕ → Bool)
      → value_of_one known (word_type signed) (read signed (number_of free old a))
      ≡ number_of_truth (x free))
      → HasLowBits new word (one-value op t)
  given-test new word x has found = one-given new word (number-same new word (λ free. digit (x free)) _ has
      (λ free. sym (low-truth (x free)) ∙ ap low_word (sym (found (signed_of t) free))))

-- SINGLE BITS as words, and choices between words

only-first : (d m e : ℕ) → d + 2 * m ≡ 0 → e + 2 * m ≡ e
only-first d m e zero = omega arith

truth-number : (free : ℕ → Bool) (nodes : List Node) (word : List Bit) (bit : Bit) → length word ≡ 32
    → number_of free nodes word ≡ 0 → number_of free nodes (set word 0 bit) ≡ digit (truth free nodes bit)
truth-number free nodes [] bit long zero = absurd (let e : 0 ≡ 32 = long in omega arith)
truth-number free nodes (b ∷ bs) bit long zero =
    only-first (digit (truth free nodes b)) (number_of free nodes bs) (digit (truth free nodes bit)) zero

pub truth-word : (nodes : List Node) (word : List Bit) (bit : Bit) → IsBitOf nodes bit
    → HasNumber nodes word (λ free. 0)
    → HasNumber nodes (set word 0 bit) (λ free. digit (truth free nodes bit))
truth-word nodes word bit named has = record {
  long = length-set word 0 bit ∙ has.long;
  are_bits = are_bits-set nodes word 0 bit has.are_bits named;
  holds = λ free. truth-number free nodes word bit has.long (has.holds free);
}

low-choice : (b : Bool) (y z : ℕ) → y < 2 ^ 32 → z < 2 ^ 32
    → (if b then y else z) ≡ low_word (cond b (pos y) (pos z))
low-choice true y z y_small z_small = sym (low-pos y y_small)
low-choice false y z y_small z_small = sym (low-pos z z_small)

pub chosen-number : (t b : Bool) (m n y z : ℕ) → t ≡ b → m ≡ y → n ≡ z → y < 2 ^ 32 → z < 2 ^ 32
    → (if t then m else n) ≡ low_word (cond b (pos y) (pos z))
chosen-number t b m n y z e f g y_small z_small =
    (λ i. if e i then f i else g i) ∙ low-choice b y z y_small z_small
