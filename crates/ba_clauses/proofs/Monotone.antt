-- The value of a gate rises with those of its operands.

use Rattle.std.proofs.Common.{◌≡◌, Bool, true, false, not, List, [], ◌∷◌, refl, sym, ap, ◌∙◌, arith, All, ⊎_elim, if◌then◌else◌}
use Rattle.std.proofs.lemmas.Bool.{or_cases, or_left, or_right, and_parts, and_from}
use Rattle.std.proofs.lemmas.List.Elements.{recursion_from_All}
use Rattle.std.specs.List.{AllByRecursion}
use Rattle.ba_nodes.specs.declared.Bit.{Bit}
use Rattle.ba_nodes.specs.Gates.{bool_xor, bool_majority, opposite}
use Rattle.ba_clauses.specs.declared.gates.Gate.{Gate}
use Rattle.ba_clauses.specs.declared.gates.Gate.TheVariants as gate
use Rattle.ba_clauses.specs.Clauses.{all_of, any_of, gate_value, operands_of}

-- if a bit has the value true so it has in the other valuation
abbrev pub Rises : (Bit → Bool) → (Bit → Bool) → Bit → Type 0
Rises p q bit = p bit ≡ true → q bit ≡ true

all_rises : (p q : Bit → Bool) (bits : List Bit) → AllByRecursion (Rises p q) bits →
    all_of p bits ≡ true → all_of q bits ≡ true
all_rises p q [] rises is = refl
all_rises p q (bit ∷ bits) rises is =
    let parts = and_parts (p bit) (all_of p bits) is in
    and_from (q bit) (all_of q bits) (rises.0 parts.0) (all_rises p q bits rises.1 parts.1)

any_rises : (p q : Bit → Bool) (bits : List Bit) → AllByRecursion (Rises p q) bits →
    any_of p bits ≡ true → any_of q bits ≡ true
any_rises p q [] rises is = is
any_rises p q (bit ∷ bits) rises is = ⊎_elim
    (λ here. or_left (q bit) (any_of q bits) (rises.0 here))
    (λ later. or_right (q bit) (any_of q bits) (any_rises p q bits rises.1 later))
    (or_cases (p bit) (any_of p bits) is)

-- if both sides rise, the value is the same
pub same_value : (a b : Bool) → (a ≡ true → b ≡ true) → (not a ≡ true → not b ≡ true) → a ≡ b
same_value true b up down = sym (up refl)
same_value false true up down = down refl
same_value false false up down = refl

mux_rises : (a b c b' c' : Bool) → (b ≡ true → b' ≡ true) → (c ≡ true → c' ≡ true) →
    (if a then b else c) ≡ true → (if a then b' else c') ≡ true
mux_rises true b c b' c' first second is = first is
mux_rises false b c b' c' first second is = second is

majority_rises : (a b c a' b' c' : Bool) → (a ≡ true → a' ≡ true) → (b ≡ true → b' ≡ true) → (c ≡ true →
    c' ≡ true) →
    bool_majority a b c ≡ true → bool_majority a' b' c' ≡ true
majority_rises true true c a' b' c' x y z is = λ i. bool_majority (x refl i) (y refl i) c'
majority_rises true false true a' b' c' x y z is = (λ i. bool_majority (x refl i) b' (z refl i)) ∙ or_right
    b' true refl
majority_rises true false false a' b' c' x y z is = absurd (cc is)
majority_rises false true true a' b' c' x y z is = (λ i. bool_majority a' (y refl i) (z refl i)) ∙ both a'
  where
    both : (b : Bool) → bool_majority b true true ≡ true
    both true = refl
    both false = refl
majority_rises false true false a' b' c' x y z is = absurd (cc is)
majority_rises false false c a' b' c' x y z is = absurd (cc is)

pub gate_rises : (p q : Bit → Bool) → ((bit : Bit) → p (opposite bit) ≡ not (p bit)) → ((bit : Bit) →
    q (opposite bit) ≡ not (q bit)) →
    (it : Gate) → All (Rises p q) (operands_of it) → gate_value p it ≡ true → gate_value q it ≡ true
gate_rises p q turned turned' (gate.All bits) rises is = all_rises p q bits.items (recursion_from_All
    (Rises p q) bits.items rises) is
gate_rises p q turned turned' (gate.Any bits) rises is = any_rises p q bits.items (recursion_from_All
    (Rises p q) bits.items rises) is
gate_rises p q turned turned' (gate.Xor a b) rises is =
    let first : p a ≡ q a = same_value (p a) (q a) (rises 0 a (omega arith))
    (λ off. sym (turned' a) ∙ rises 1 a (omega arith) (turned a ∙ off)) in
    let second : p b ≡ q b = same_value (p b) (q b) (rises 2 a (omega arith))
    (λ off. sym (turned' b) ∙ rises 3 a (omega arith) (turned b ∙ off)) in
    sym (λ i. bool_xor (first i) (second i)) ∙ is
gate_rises p q turned turned' (gate.Mux a b c) rises is =
    let first : p a ≡ q a = same_value (p a) (q a) (rises 0 a (omega arith))
    (λ off. sym (turned' a) ∙ rises 1 a (omega arith) (turned a ∙ off)) in
    mux_rises (q a) (p b) (p c) (q b) (q c) (rises 2 a (omega arith)) (rises 3 a (omega arith))
    (sym (ap (λ on. if on then p b else p c) first) ∙ is)
gate_rises p q turned turned' (gate.Majority a b c) rises is =
    majority_rises (p a) (p b) (p c) (q a) (q b) (q c) (rises 0 a (omega arith)) (rises 1 a (omega arith))
    (rises 2 a (omega arith)) is
