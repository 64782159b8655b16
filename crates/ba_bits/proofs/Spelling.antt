-- Words whose digits are written one after another.
use Rattle.std.proofs.Common.{◌≡◌, ℕ, ◌+◌, ◌*◌, ◌/◌, ◌%◌, ◌^◌, ◌<◌, ◌≤◌, ◌==◌, Bool, true, false, List, length, map, set, take, replicate, refl, sym, ◌∙◌, ap, subst, arith, cond}
use Rattle.std.proofs.Math.Arith.{mod-mul}
use Rattle.std.proofs.Math.Nat.{mul_assoc, mul_comm}
use Rattle.std.proofs.lemmas.Bool.{eqb-true}
use Rattle.std.proofs.lemmas.Bool.Decides.{nat_tests}
use Rattle.std.proofs.lemmas.List.{get_or-map, length-map, length-set, same_lists}
use Rattle.std.proofs.lemmas.Nat.{pow_pos}
use Rattle.ba_bits.proofs.Agreeing.{agree-then, truth-agree}
use Rattle.ba_bits.specs.Bits.{AgreeBelow}
use Rattle.ba_bits.specs.Leaves.{CanSpell}
use Rattle.ba_nodes.specs.declared.Bit.{Bit}
use Rattle.ba_nodes.specs.declared.Node.{Node}
use Rattle.ba_nodes.specs.Gates.{AreOrdered, Extends, HasValue, IsBitOf, constant_bit, truth}
use Rattle.ba_nodes.proofs.Truths.{Extends-through, Extends_refl}
use Rattle.ba_words.specs.Words.{AreBitsOf, HasNumber, bit_at, digit, low_number, spelled}
use Rattle.ba_words.proofs.Values.{spread}
use Rattle.ba_words.proofs.Places.{are_bits-extends, are_bits-set, low_number-all, low_number-extends, low_number-set_more, power_more}
use Rattle.ba_words.proofs.Carries.{are_bits-replicate}

-- A CONSTANT: the digits of a number so far, and what is left of it

pub record DigitsSoFar (word : List Bit) (i rest number : ℕ) : Type 0 where
  pub long : length word ≡ 32
  pub are_bits : (nodes : List Node) → AreBitsOf nodes word
  pub sum : (nodes : List Node) (free : ℕ → Bool) → low_number free nodes word i + 2 ^ i * rest ≡ number

none-written : (number : ℕ) → 0 + 2 ^ 0 * number ≡ number
none-written number = omega arith

pub digits-start : (bit : Bit) (number : ℕ) → ((nodes : List Node) → IsBitOf nodes bit)
    → DigitsSoFar (replicate 32 bit) 0 number number
digits-start bit number named = record {
  long = refl;
  are_bits = λ nodes. are_bits-replicate nodes 32 bit (named nodes);
  sum = λ nodes free. none-written number;
}

parity : (n : ℕ) (b : Bool) → (n % 2 == 1) ≡ b → n ≡ 2 * (n / 2) + digit b
parity n true is = let one : n % 2 ≡ 1 = eqb-true (n % 2) 1 is in omega arith
parity n false is = grind (arith, nat_tests)

combined : (low pd dp pr rp twice_p twice_h : ℕ) → pd ≡ dp → pr ≡ rp → twice_p ≡ twice_h → twice_h + dp ≡ rp
    → (low + pd) + twice_p ≡ low + pr
combined low pd dp pr rp twice_p twice_h a b c e = omega arith

regroup : (p low d h rest : ℕ) → rest ≡ 2 * h + d → (low + p * d) + (2 * p) * h ≡ low + p * rest
regroup p low d h rest is = combined low (p * d) (d * p) (p * rest) (rest * p) (2 * p * h) (2 * h * p)
    (mul_comm p d) (mul_comm p rest) (mul_assoc 2 p h ∙ ap (λ n. 2 * n) (mul_comm p h)
    ∙ sym (mul_assoc 2 h p))
    (spread (2 * h) d rest p (sym is))

next-sum : (p q low d h rest number : ℕ) → q ≡ 2 * p → rest ≡ 2 * h + d → low + p * rest ≡ number
    → (low + p * d) + q * h ≡ number
next-sum p q low d h rest number double is sum =
    ap (λ q. (low + p * d) + q * h) double ∙ regroup p low d h rest is ∙ sum

pub digits-more : (word : List Bit) (i rest number : ℕ) (bit : Bit) → i < 32 → DigitsSoFar word i rest number
    → ((nodes : List Node) → HasValue nodes bit (λ free. rest % 2 == 1))
    → DigitsSoFar (set word i bit) (i + 1) (rest / 2) number
digits-more word i rest number bit small so has = record {
  long = length-set word i bit ∙ so.long;
  are_bits = λ nodes. are_bits-set nodes word i bit (so.are_bits nodes) (has nodes).is_bit;
  sum = λ nodes free.
      let within : i < length word = omega (arith, so.long) in
      let written = low_number-set_more free nodes word i bit within
      ∙ ap (λ b. low_number free nodes word i + 2 ^ i * digit b) ((has nodes).holds free) in
      ap (λ n. n + 2 ^ (i + 1) * (rest / 2)) written
      ∙ next-sum (2 ^ i) (2 ^ (i + 1)) (low_number free nodes word i) (digit (rest % 2 == 1)) (rest / 2)
      rest number
      (power_more i) (parity rest (rest % 2 == 1) refl) (so.sum nodes free);
}

nothing-left : (low rest number : ℕ) → low + 2 ^ 32 * rest ≡ number → number < 2 ^ 32 → low ≡ number
nothing-left low rest number sum small = omega arith

pub digits-all : (nodes : List Node) (word : List Bit) (i rest number : ℕ) → 32 ≤ i → i ≤ 32 → number < 2 ^ 32
    → DigitsSoFar word i rest number → HasNumber nodes word (λ free. number)
digits-all nodes word i rest number all few small so = record {
  long = so.long;
  are_bits = so.are_bits nodes;
  holds = λ free.
      let at : i ≡ 32 = omega arith in
      let sum : low_number free nodes word 32 + 2 ^ 32 * rest ≡ number =
      subst (λ i. low_number free nodes word i + 2 ^ i * rest ≡ number) at (so.sum nodes free) in
      sym (low_number-all free nodes word 32 (omega (arith, so.long)))
      ∙ nothing-left (low_number free nodes word 32) rest number sum small;
}

-- FREE BITS: the low places can have any number

pub record LowSpelling (old nodes : List Node) (word : List Bit) (i : ℕ) (start : ℕ
    → Bool) (number : ℕ) : Type 0 where
  pub free : ℕ → Bool
  pub agrees : AgreeBelow (length old) start free
  pub spells : low_number free nodes word i ≡ number % 2 ^ i

pub record FreeSoFar (old nodes : List Node) (word : List Bit) (i : ℕ) : Type 0 where
  pub extends : Extends old nodes
  pub long : length word ≡ 32
  pub are_bits : AreBitsOf nodes word
  pub can : (start : ℕ → Bool) (number : ℕ) → LowSpelling old nodes word i start number

abbrev pub with_bit : (ℕ → Bool) → ℕ → Bool → ℕ → Bool
with_bit free n b k = cond (k == n) b (free k)

pub with-here : (free : ℕ → Bool) (n : ℕ) (b : Bool) → with_bit free n b n ≡ b
with-here free n b = let e : (n == n) ≡ true = grind (arith, nat_tests) in ap (λ t. cond t b (free n)) e

pub with-below : (free : ℕ → Bool) (n : ℕ) (b : Bool) → AgreeBelow n free (with_bit free n b)
with-below free n b k below =
    let e : (k == n) ≡ false = grind (arith, nat_tests) in sym (ap (λ t. cond t b (free k)) e)

digit-of : (n : ℕ) → digit (n % 2 == 1) ≡ n % 2
digit-of n = by_case (n % 2 == 1) refl where
  by_case : (b : Bool) → (n % 2 == 1) ≡ b → digit b ≡ n % 2
  by_case true is = sym (eqb-true (n % 2) 1 is)
  by_case false is = grind (arith, nat_tests)

next-digit : (n i : ℕ) → n % 2 ^ i + 2 ^ i * digit (n / 2 ^ i % 2 == 1) ≡ n % 2 ^ (i + 1)
next-digit n i =
    ap (λ d. n % 2 ^ i + 2 ^ i * d) (digit-of (n / 2 ^ i))
    ∙ turned (n % 2 ^ i) (2 ^ i) (n / 2 ^ i % 2)
    ∙ sym (mod-mul n {m = 2} {c = 2 ^ i} (omega arith) (pow_pos i))
    ∙ ap (λ p. n % p) (sym (power_more i)) where
      turned : (a p d : ℕ) → a + p * d ≡ d * p + a
      turned a p d = grind arith

-- the number of a word's low places stays if its bits' free bits do
pub low-agree : (nodes : List Node) (free other : ℕ → Bool) (word : List Bit) (i : ℕ) → AreOrdered nodes
    → AgreeBelow (length nodes) free other → AreBitsOf nodes word
    → low_number free nodes word i ≡ low_number other nodes word i
low-agree nodes free other word i ordered agree bits =
    ap (λ bits. spelled (take i bits))
    (same_lists (map (truth free nodes) word) (map (truth other nodes) word)
    (length-map word (truth free nodes) ∙ sym (length-map word (truth other nodes)))
    (λ k d within.
    let inside : k < length word = omega (arith, length-map word (truth free nodes)) in
    get_or-map (truth free nodes) word k (constant_bit false) d inside
    ∙ truth-agree nodes free other ordered agree (bit_at word k) (bits k)
    ∙ sym (get_or-map (truth other nodes) word k (constant_bit false) d inside)))

module _ (old nodes new : List Node) (word : List Bit) (i : ℕ) (bit : Bit) (small : i < 32)
    (ordered : AreOrdered nodes)
    (extends : Extends nodes new) (has : HasValue new bit (λ free. free (length nodes)))
    (so : FreeSoFar old nodes word i)
    (start : ℕ → Bool) (number : ℕ) where
  abbrev before : LowSpelling old nodes word i start number
  before = so.can start number

  abbrev own : Bool
  own = number / 2 ^ i % 2 == 1

  abbrev next : ℕ → Bool
  next = with_bit before.free (length nodes) own

  kept : AgreeBelow (length nodes) before.free next
  kept = with-below before.free (length nodes) own

  within : i < length word
  within = omega (arith, so.long)

  spells-next : low_number next new (set word i bit) (i + 1) ≡ number % 2 ^ (i + 1)
  spells-next =
      low_number-set_more next new word i bit within
      ∙ ap (λ n. n + 2 ^ i * digit (truth next new bit))
      (low_number-extends next nodes new word i extends so.are_bits
      ∙ sym (low-agree nodes before.free next word i ordered kept so.are_bits) ∙ before.spells)
      ∙ ap (λ b. number % 2 ^ i + 2 ^ i * digit b) (has.holds next ∙ with-here before.free (length nodes) own)
      ∙ next-digit number i

  spelling-next : LowSpelling old new (set word i bit) (i + 1) start number
  spelling-next = record {
    free = next;
    agrees = agree-then (length old) start before.free next before.agrees
        (λ k below. kept k (omega (arith, below, so.extends.grows)));
    spells = spells-next;
  }

pub free-more : (old nodes new : List Node) (word : List Bit) (i : ℕ) (bit : Bit) → i < 32 → AreOrdered nodes
    → Extends nodes new → HasValue new bit (λ free. free (length nodes)) → FreeSoFar old nodes word i
    → FreeSoFar old new (set word i bit) (i + 1)
free-more old nodes new word i bit small ordered extends has so = record {
  extends = Extends-through old nodes new so.extends extends;
  long = length-set word i bit ∙ so.long;
  are_bits = are_bits-set new word i bit (are_bits-extends nodes new word extends so.are_bits) has.is_bit;
  can = spelling-next old nodes new word i bit small ordered extends has so;
}

nothing-yet : (number : ℕ) → 0 ≡ number % 2 ^ 0
nothing-yet number = omega arith

pub free-start : (nodes : List Node) (bit : Bit) → IsBitOf nodes bit
    → FreeSoFar nodes nodes (replicate 32 bit) 0
free-start nodes bit named = record {
  extends = Extends_refl nodes;
  long = refl;
  are_bits = are_bits-replicate nodes 32 bit named;
  can = λ start number. record { free = start; agrees = λ k below. refl; spells = nothing-yet number };
}

pub free-all : (old nodes : List Node) (word : List Bit) (i : ℕ) → i ≡ 32 → FreeSoFar old nodes word i
    → CanSpell old nodes word
free-all old nodes word i at so start number small =
    let low = so.can start number in
    let all : low_number low.free nodes word 32 ≡ number % 2 ^ 32 =
    subst (λ i. low_number low.free nodes word i ≡ number % 2 ^ i) at low.spells in
    record {
      free = low.free;
      agrees = low.agrees;
      spells = sym (low_number-all low.free nodes word 32 (omega (arith, so.long))) ∙ all ∙ own number small;
    } where
      own : (n : ℕ) → n < 2 ^ 32 → n % 2 ^ 32 ≡ n
      own n small = omega arith
