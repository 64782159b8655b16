-- The steps of circuits that go over the places of words from the lowest.

use Rattle.std.proofs.Common.{◌≡◌, ℕ, ◌+◌, ◌*◌, ◌^◌, ◌<◌, ◌≤◌, Bool, true, false, not, ◌&&◌, ◌||◌, List, length, map, set, take, bit_and, bit_or, bit_xor, refl, sym, ap, subst, ◌∙◌, arith, nat_lt, ◌==◌, if◌then◌else◌}
use Rattle.std.proofs.lemmas.List.{length-set, length-map, length-take-le}
use Rattle.std.proofs.lemmas.Nat.{and_block, or_block, xor_block}
use Rattle.std.proofs.lemmas.Bool.Decides.{nat_tests}
use Rattle.ba_nodes.specs.declared.Bit.{Bit}
use Rattle.ba_nodes.specs.declared.Node.{Node}
use Rattle.ba_nodes.specs.Gates.{bool_xor, truth, Extends, HasValue}
use Rattle.ba_words.specs.Words.{digit, number_of, low_number, bit_at, AreBitsOf, HasNumber}
use Rattle.ba_words.proofs.Digits.{spelled_below, digit-and, digit-or, digit-xor}
use Rattle.ba_words.proofs.Places.{are_bits-extends, are_bits-set, low_number-extends, low_number-more, low_number-set_more, low_number-all, power_more}

-- the low places of a word of these nodes have this number under each assignment
pub record LowIs (nodes : List Node) (word : List Bit) (places : ℕ) (number : (ℕ → Bool) → ℕ) : Type 0 where
  pub long : length word ≡ 32
  pub are_bits : AreBitsOf nodes word
  pub holds : (free : ℕ → Bool) → low_number free nodes word places ≡ number free

pub low_number_below : (free : ℕ → Bool) (nodes : List Node) (word : List Bit) (places : ℕ) → places ≤ length word → low_number free nodes word places < 2 ^ places
low_number_below free nodes word places within =
    let size : length (take places (map (truth free nodes) word)) ≡ places =
    length-take-le places (map (truth free nodes) word) (omega (arith, length-map word (truth free nodes))) in
    subst (λ n. low_number free nodes word places < 2 ^ n) size (spelled_below (take places (map (truth free nodes) word)))

pub HasValue-same : (nodes : List Node) (bit : Bit) (value other : (ℕ → Bool) → Bool) → HasValue nodes bit value → ((free : ℕ → Bool) → value free ≡ other free) → HasValue nodes bit other
HasValue-same nodes bit value other has same = record { is_bit = has.is_bit; holds = λ free. has.holds free ∙ same free }

-- one place more is written
pub LowIs-more : (nodes new : List Node) (word : List Bit) (i : ℕ) (bit : Bit) (number next : (ℕ → Bool) → ℕ) (value : (ℕ → Bool) → Bool)
    → i < 32 → Extends nodes new → LowIs nodes word i number → HasValue new bit value → ((free : ℕ → Bool) → number free + 2 ^ i * digit (value free) ≡ next free)
    → LowIs new (set word i bit) (i + 1) next
LowIs-more nodes new word i bit number next value small extends before has steps = record {
  long = length-set word i bit ∙ before.long;
  are_bits = are_bits-set new word i bit (are_bits-extends nodes new word extends before.are_bits) has.is_bit;
  holds = λ free.
      let within : i < length word = omega (arith, before.long) in
      low_number-set_more free new word i bit within
      ∙ (λ j. low_number-extends free nodes new word i extends before.are_bits j + 2 ^ i * digit (has.holds free j))
      ∙ ap (λ n. n + 2 ^ i * digit (value free)) (before.holds free)
      ∙ steps free;
}

-- all places are written
pub LowIs-all : (nodes : List Node) (word : List Bit) (places : ℕ) (number other : (ℕ → Bool) → ℕ) → 32 ≤ places → LowIs nodes word places number → ((free : ℕ → Bool) → number free ≡ other free) → HasNumber nodes word other
LowIs-all nodes word places number other all is same = record {
  long = is.long;
  are_bits = is.are_bits;
  holds = λ free. sym (low_number-all free nodes word places (omega (arith, is.long))) ∙ is.holds free ∙ same free;
}

-- a place of an argument, read after nodes were added
pub argument-more : (free : ℕ → Bool) (initial nodes : List Node) (word : List Bit) (i : ℕ) → i < length word → AreBitsOf initial word → Extends initial nodes → low_number free initial word (i + 1) ≡ low_number free initial word i + 2 ^ i * digit (truth free nodes (bit_at word i))
argument-more free initial nodes word i within bits extends =
    low_number-more free initial word i within
    ∙ ap (λ t. low_number free initial word i + 2 ^ i * digit t) (sym (extends.keeps free (bit_at word i) (bits i)))

-- two places of an argument, read after nodes were added
pub low_number-two_more : (free : ℕ → Bool) (initial nodes : List Node) (word : List Bit) (place : ℕ) →
    place + 1 < length word → AreBitsOf initial word → Extends initial nodes →
    low_number free initial word (place + 1 + 1) ≡ low_number free initial word place
    + 2 ^ place * (digit (truth free nodes (bit_at word place)) + 2 * digit (truth free nodes (bit_at word
    (place + 1))))
low_number-two_more free initial nodes word place within bits extends =
    argument-more free initial nodes word (place + 1) within bits extends
    ∙ (λ i. argument-more free initial nodes word place (omega arith) bits extends i
    + power_more place i * digit (truth free nodes (bit_at word (place + 1))))
    ∙ together (low_number free initial word place) (2 ^ place) (digit (truth free nodes (bit_at word place)))
    (digit (truth free nodes (bit_at word (place + 1))))
  where
    together : (l p d e : ℕ) → l + p * d + 2 * p * e ≡ l + p * (d + 2 * e)
    together l p d e = grind arith

-- a bit keeps its value as nodes are added
pub HasValue-extends : (old new : List Node) (bit : Bit) (value : (ℕ → Bool) → Bool) → Extends old new →
    HasValue old bit value → HasValue new bit value
HasValue-extends old new bit value extends has = record {
  is_bit = omega (arith, has.is_bit, extends.grows);
  holds = λ free. extends.keeps free bit has.is_bit ∙ has.holds free;
}

-- ---- operators on each place alone

module _ (f : (ℕ → Bool) → Bool → Bool → Bool) (F : (ℕ → Bool) → ℕ → ℕ → ℕ)
    (step : (free : ℕ → Bool) (i m n : ℕ) (x y : Bool) → m < 2 ^ i → n < 2 ^ i → F free m n + 2 ^ i * digit (f free x y) ≡ F free (m + 2 ^ i * digit x) (n + 2 ^ i * digit y)) where
  pub pairs-more : (initial nodes new : List Node) (a b word : List Bit) (i : ℕ) (bit : Bit)
      → i < 32 → length a ≡ 32 → length b ≡ 32 → AreBitsOf initial a → AreBitsOf initial b → Extends initial nodes → Extends nodes new
      → LowIs nodes word i (λ free. F free (low_number free initial a i) (low_number free initial b i))
      → HasValue new bit (λ free. f free (truth free nodes (bit_at a i)) (truth free nodes (bit_at b i)))
      → LowIs new (set word i bit) (i + 1) (λ free. F free (low_number free initial a (i + 1)) (low_number free initial b (i + 1)))
  pairs-more initial nodes new a b word i bit small a_long b_long a_bits b_bits first second before has =
      LowIs-more nodes new word i bit _ _ (λ free. f free (truth free nodes (bit_at a i)) (truth free nodes (bit_at b i))) small second before has
      (λ free.
      let in_a : i < length a = omega (arith, a_long) in
      let in_b : i < length b = omega (arith, b_long) in
      step free i (low_number free initial a i) (low_number free initial b i) (truth free nodes (bit_at a i)) (truth free nodes (bit_at b i))
      (low_number_below free initial a i (omega (arith, a_long))) (low_number_below free initial b i (omega (arith, b_long)))
      ∙ sym (λ j. F free (argument-more free initial nodes a i in_a a_bits first j) (argument-more free initial nodes b i in_b b_bits first j)))

  pub pairs-all : (initial nodes : List Node) (a b word : List Bit) (i : ℕ)
      → 32 ≤ i → length a ≡ 32 → length b ≡ 32
      → LowIs nodes word i (λ free. F free (low_number free initial a i) (low_number free initial b i))
      → HasNumber nodes word (λ free. F free (number_of free initial a) (number_of free initial b))
  pairs-all initial nodes a b word i all a_long b_long is =
      LowIs-all nodes word i _ (λ free. F free (number_of free initial a) (number_of free initial b)) all is
      (λ free. λ j. F free (low_number-all free initial a i (omega (arith, a_long)) j) (low_number-all free initial b i (omega (arith, b_long)) j))

pub number_small : (free : ℕ → Bool) (nodes : List Node) (word : List Bit) → length word ≡ 32 → number_of free nodes word < 2 ^ 32
number_small free nodes word long =
    subst (λ n. number_of free nodes word < 2 ^ n) (length-map word (truth free nodes) ∙ long) (spelled_below (map (truth free nodes) word))

-- the highest place of a number, as the block lemmas have it
as_block : (i m d : ℕ) → m + 2 ^ i * d ≡ d * 2 ^ i + m
as_block i m d = grind arith

pub and_step : (free : ℕ → Bool) (i m n : ℕ) (x y : Bool) → m < 2 ^ i → n < 2 ^ i → bit_and m n + 2 ^ i * digit (x && y) ≡ bit_and (m + 2 ^ i * digit x) (n + 2 ^ i * digit y)
and_step free i m n x y m_below n_below =
    as_block i (bit_and m n) (digit (x && y))
    ∙ ap (λ d. d * 2 ^ i + bit_and m n) (sym (digit-and x y))
    ∙ sym (and_block i (digit x) (digit y) m n m_below n_below)
    ∙ sym (λ j. bit_and (as_block i m (digit x) j) (as_block i n (digit y) j))

pub or_step : (free : ℕ → Bool) (i m n : ℕ) (x y : Bool) → m < 2 ^ i → n < 2 ^ i → bit_or m n + 2 ^ i * digit (x || y) ≡ bit_or (m + 2 ^ i * digit x) (n + 2 ^ i * digit y)
or_step free i m n x y m_below n_below =
    as_block i (bit_or m n) (digit (x || y))
    ∙ ap (λ d. d * 2 ^ i + bit_or m n) (sym (digit-or x y))
    ∙ sym (or_block i (digit x) (digit y) m n m_below n_below)
    ∙ sym (λ j. bit_or (as_block i m (digit x) j) (as_block i n (digit y) j))

pub xor_step : (free : ℕ → Bool) (i m n : ℕ) (x y : Bool) → m < 2 ^ i → n < 2 ^ i → bit_xor m n + 2 ^ i * digit (bool_xor x y) ≡ bit_xor (m + 2 ^ i * digit x) (n + 2 ^ i * digit y)
xor_step free i m n x y m_below n_below =
    as_block i (bit_xor m n) (digit (bool_xor x y))
    ∙ ap (λ d. d * 2 ^ i + bit_xor m n) (sym (digit-xor x y))
    ∙ sym (xor_block i (digit x) (digit y) m n m_below n_below)
    ∙ sym (λ j. bit_xor (as_block i m (digit x) j) (as_block i n (digit y) j))

pub select_step : (which : (ℕ → Bool) → Bool) (free : ℕ → Bool) (i m n : ℕ) (x y : Bool) → m < 2 ^ i → n < 2 ^ i
    → (if which free then m else n) + 2 ^ i * digit (if which free then x else y) ≡ (if which free then m + 2 ^ i * digit x else n + 2 ^ i * digit y)
select_step which free i m n x y m_below n_below =
    elim (which free) as (λ w. (if w then m else n) + 2 ^ i * digit (if w then x else y) ≡ (if w then m + 2 ^ i * digit x else n + 2 ^ i * digit y)) [ true ↦ refl | false ↦ refl ]

-- ---- comparisons

pub equal_step : (i m n : ℕ) (x y : Bool) → m < 2 ^ i → n < 2 ^ i → ((m == n) && not (bool_xor x y)) ≡ (m + 2 ^ i * digit x == n + 2 ^ i * digit y)
equal_step i m n true true m_below n_below = grind (arith, nat_tests)
equal_step i m n true false m_below n_below = grind (arith, nat_tests)
equal_step i m n false true m_below n_below = grind (arith, nat_tests)
equal_step i m n false false m_below n_below = grind (arith, nat_tests)

pub some_step : (i m n : ℕ) (x y : Bool) → m < 2 ^ i → n < 2 ^ i → (nat_lt 0 m || x) ≡ nat_lt 0 (m + 2 ^ i * digit x)
some_step i m n true y m_below n_below = grind (arith, nat_tests)
some_step i m n false y m_below n_below = grind (arith, nat_tests)

pub less_step : (i m n : ℕ) (x y : Bool) → m < 2 ^ i → n < 2 ^ i → ((not x && y) || (not (x && not y) && nat_lt m n)) ≡ nat_lt (m + 2 ^ i * digit x) (n + 2 ^ i * digit y)
less_step i m n true true m_below n_below = grind (arith, nat_tests)
less_step i m n true false m_below n_below = grind (arith, nat_tests)
less_step i m n false true m_below n_below = grind (arith, nat_tests)
less_step i m n false false m_below n_below = grind (arith, nat_tests)

-- a comparison goes on to the next place
module _ (f : Bool → Bool → Bool → Bool) (F : ℕ → ℕ → Bool)
    (step : (i m n : ℕ) (x y : Bool) → m < 2 ^ i → n < 2 ^ i → f (F m n) x y ≡ F (m + 2 ^ i * digit x) (n + 2 ^ i * digit y)) where
  pub compared-more : (initial nodes new : List Node) (a b : List Bit) (i : ℕ) (now next : Bit)
      → i < 32 → length a ≡ 32 → length b ≡ 32 → AreBitsOf initial a → AreBitsOf initial b → Extends initial nodes
      → HasValue nodes now (λ free. F (low_number free initial a i) (low_number free initial b i))
      → HasValue new next (λ free. f (truth free nodes now) (truth free nodes (bit_at a i)) (truth free nodes (bit_at b i)))
      → HasValue new next (λ free. F (low_number free initial a (i + 1)) (low_number free initial b (i + 1)))
  compared-more initial nodes new a b i now next small a_long b_long a_bits b_bits first before has =
      HasValue-same new next _ _ has
      (λ free.
      let in_a : i < length a = omega (arith, a_long) in
      let in_b : i < length b = omega (arith, b_long) in
      ap (λ t. f t (truth free nodes (bit_at a i)) (truth free nodes (bit_at b i))) (before.holds free)
      ∙ step i (low_number free initial a i) (low_number free initial b i) (truth free nodes (bit_at a i)) (truth free nodes (bit_at b i))
      (low_number_below free initial a i (omega (arith, a_long))) (low_number_below free initial b i (omega (arith, b_long)))
      ∙ sym (λ j. F (argument-more free initial nodes a i in_a a_bits first j) (argument-more free initial nodes b i in_b b_bits first j)))

  -- the first place alone
  pub compared-first : (initial new : List Node) (a b : List Bit) (next : Bit)
      → length a ≡ 32 → length b ≡ 32 → AreBitsOf initial a → AreBitsOf initial b
      → HasValue new next (λ free. f (F 0 0) (truth free initial (bit_at a 0)) (truth free initial (bit_at b 0)))
      → HasValue new next (λ free. F (low_number free initial a 1) (low_number free initial b 1))
  compared-first initial new a b next a_long b_long a_bits b_bits has =
      HasValue-same new next _ _ has
      (λ free.
      let in_a : 0 < length a = omega (arith, a_long) in
      let in_b : 0 < length b = omega (arith, b_long) in
      step 0 0 0 (truth free initial (bit_at a 0)) (truth free initial (bit_at b 0)) (omega arith) (omega arith)
      ∙ sym (λ j. F (low_number-more free initial a 0 in_a j) (low_number-more free initial b 0 in_b j)))

  pub compared-all : (initial nodes : List Node) (a b : List Bit) (i : ℕ) (now : Bit)
      → 32 ≤ i → length a ≡ 32 → length b ≡ 32
      → HasValue nodes now (λ free. F (low_number free initial a i) (low_number free initial b i))
      → HasValue nodes now (λ free. F (number_of free initial a) (number_of free initial b))
  compared-all initial nodes a b i now all a_long b_long has =
      HasValue-same nodes now _ _ has
      (λ free. λ j. F (low_number-all free initial a i (omega (arith, a_long)) j) (low_number-all free initial b i (omega (arith, b_long)) j))

-- the number of a word by its highest place
pub number-highest : (free : ℕ → Bool) (nodes : List Node) (word : List Bit) → length word ≡ 32 → number_of free nodes word ≡ low_number free nodes word 31 + 2 ^ 31 * digit (truth free nodes (bit_at word 31))
number-highest free nodes word long =
    sym (low_number-all free nodes word 32 (omega (arith, long))) ∙ low_number-more free nodes word 31 (omega (arith, long))
