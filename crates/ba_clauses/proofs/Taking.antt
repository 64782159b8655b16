-- Which gate has the value of a node, and what is needed of its operands.

use Rattle.std.proofs.Common.{◌≡◌, ℕ, suc, zero, ◌+◌, ◌-◌, ◌^◌, ◌<◌, ◌≤◌, Bool, true, false, not, ◌&&◌, ◌||◌, List, [], ◌∷◌, ◌++◌, length, map, get_or, Some, slice_get, refl, sym, ap, subst, ◌∙◌, arith, All, inl, inr, ⊎_elim, if◌then◌else◌}
use Rattle.std.proofs.lemmas.Bool.{or_cases, or_left, or_right, and_from}
use Rattle.std.proofs.lemmas.List.Elements.{All-cons, All-nil, All-push, All-map, All-weaker, All-from_recursion, recursion_from_All}
use Rattle.std.proofs.lemmas.Option.{slice_get-get_or}
use Rattle.std.proofs.lemmas.List.Sums.{sum_by-append}
use Rattle.std.specs.List.{sum_by, AllByRecursion}
use Rattle.ba_nodes.specs.declared.Bit.{Bit}
use Rattle.ba_nodes.specs.declared.Node.{Node}
use Rattle.ba_nodes.specs.declared.Node.TheVariants.{Free, And, Xor, Mux, Majority}
use Rattle.ba_nodes.specs.Gates.{bool_xor, bool_majority, opposite, truth, AreOrdered}
use Rattle.ba_nodes.proofs.Truths.{truth-opposite}
use Rattle.ba_clauses.specs.declared.uses.Use.{Use}
use Rattle.ba_clauses.specs.Clauses.{all_of, any_of}
use Rattle.ba_clauses.specs.Uses.{use_at, is_implied, is_asked, is_side, is_used, IsServed, AreServed}
use Rattle.ba_clauses.specs.Sides.{ArePassedOn, is_and, has_variable, is_taken_in, IsConjunct, IsLeaf, IsOperand, IsOfNode, Expands, stays, taken}
use Rattle.ba_clauses.proofs.Adding.{all_of-append}
use Rattle.ba_clauses.proofs.Telling.{truth_bit}

-- ---- values

not_and : (a b : Bool) → (not a || not b) ≡ not (a && b)
not_and true b = refl
not_and false b = refl

pub any_of-opposites : (free : ℕ → Bool) (nodes : List Node) (bits : List Bit) →
    any_of (truth free nodes) (map opposite bits) ≡ not (all_of (truth free nodes) bits)
any_of-opposites free nodes [] = refl
any_of-opposites free nodes (bit ∷ bits) =
    (λ i. truth-opposite free nodes bit i || any_of-opposites free nodes bits i) ∙ not_and (truth free
    nodes bit) (all_of (truth free nodes) bits)

-- a conjunct goes from the pending ones to the others, or its operands take its place
pub moved : (o x c : Bool) → (o && (c && (x && true))) ≡ ((o && (x && true)) && c)
moved true true true = refl
moved true true false = refl
moved true false true = refl
moved true false false = refl
moved false x c = refl

pub expanded : (o x y z c : Bool) → x ≡ (y && z) →
    (((o && (z && true)) && (y && true)) && c) ≡ ((o && (x && true)) && c)
expanded o x y z c is = step o y z c ∙ ap (λ b. (o && (b && true)) && c) (sym is)
  where
    step : (o y z c : Bool) → (((o && (z && true)) && (y && true)) && c) ≡ ((o && ((y && z) && true)) && c)
    step true true true c = refl
    step true true false c = refl
    step true false true c = refl
    step true false false c = refl
    step false y z c = refl

pub value_moved : (value : Bit → Bool) (pending rest conjuncts later : List Bit) (bit : Bit) →
    pending ≡ rest ++ bit ∷ [] → later ≡ conjuncts ++ bit ∷ [] →
    (all_of value rest && all_of value later) ≡ (all_of value pending && all_of value conjuncts)
value_moved value pending rest conjuncts later bit popped pushed =
    ap (λ xs. all_of value rest && all_of value xs) pushed
    ∙ ap (λ b. all_of value rest && b) (all_of-append value conjuncts (bit ∷ []))
    ∙ moved (all_of value rest) (value bit) (all_of value conjuncts)
    ∙ sym (ap (λ xs. all_of value xs && all_of value conjuncts) popped ∙ ap (λ b. b && all_of value
    conjuncts) (all_of-append value rest (bit ∷ [])))

pub value_expanded : (value : Bit →
    Bool) (pending rest one two conjuncts : List Bit) (bit first second : Bit) →
    pending ≡ rest ++ bit ∷ [] →
    one ≡ rest ++ second ∷ [] → two ≡ one ++ first ∷ [] → value bit ≡ (value first && value second) →
    (all_of value two && all_of value conjuncts) ≡ (all_of value pending && all_of value conjuncts)
value_expanded value pending rest one two conjuncts bit first second popped pushed again is =
    ap (λ xs. all_of value xs && all_of value conjuncts) again
    ∙ ap (λ b. b && all_of value conjuncts) (all_of-append value one (first ∷ []))
    ∙ ap (λ b. (b && (value first && true)) && all_of value conjuncts) (ap (all_of value) pushed ∙
    all_of-append value rest (second ∷ []))
    ∙ expanded (all_of value rest) (value bit) (value first) (value second) (all_of value conjuncts) is
    ∙ sym (ap (λ xs. all_of value xs && all_of value conjuncts) popped ∙ ap (λ b. b && all_of value
    conjuncts) (all_of-append value rest (bit ∷ [])))

-- ---- the measure of what is pending

double : (n : ℕ) → 2 ^ suc n ≡ 2 ^ n + 2 ^ n
double n = omega arith

power_rises : (a gap : ℕ) → 2 ^ a ≤ 2 ^ (a + gap)
power_rises a zero = let e : a ≡ a + 0 = omega arith in subst (λ (n : ℕ). 2 ^ a ≤ 2 ^ n) e (omega arith)
power_rises a (suc gap) =
    let before : 2 ^ a ≤ 2 ^ (a + gap) = power_rises a gap in
    let e : suc (a + gap) ≡ a + suc gap = omega arith in
    subst (λ (n : ℕ). 2 ^ a ≤ 2 ^ n) e (omega (arith, before, double (a + gap)))

power_positive : (a : ℕ) → 1 ≤ 2 ^ a
power_positive zero = omega arith
power_positive (suc a) = omega (arith, power_positive a, double a)

powers_fall : (a b i : ℕ) → a < b → b < i → 2 ^ a + 2 ^ b < 2 ^ i
powers_fall a b i below under =
    let up : suc a + (b - suc a) ≡ b = omega arith in
    let up' : suc b + (i - suc b) ≡ i = omega arith in
    let first : 2 ^ suc a ≤ 2 ^ b = subst (λ (n : ℕ). 2 ^ suc a ≤ 2 ^ n) up (power_rises (suc a) (b - suc
    a)) in
    let second : 2 ^ suc b ≤ 2 ^ i = subst (λ (n : ℕ). 2 ^ suc b ≤ 2 ^ n) up' (power_rises (suc b) (i - suc
    b)) in
    let some : 1 ≤ 2 ^ a = power_positive a in
    omega (arith, first, second, some, double a, double b)

-- ---- needs

named_by : (node : Node) (own : Use) (negated : Bool) → is_implied own negated ≡ true →
    (own.merged ≡ true → is_and node ≡ false) → has_variable node own ≡ true
named_by node own negated implied single = step node (some own negated implied) single
  where
    some : (own : Use) (negated : Bool) → is_implied own negated ≡ true →
        (own.positive || own.negative) ≡ true
    some own false is = or_left own.positive own.negative is
    some own true is = or_right own.positive own.negative is

    apart : (merged : Bool) → (merged ≡ true → true ≡ false) → not merged ≡ true
    apart true alone = sym (alone refl)
    apart false alone = refl

    step : (node : Node) → (own.positive || own.negative) ≡ true → (own.merged ≡ true →
        is_and node ≡ false) → has_variable node own ≡ true
    step (Free number) is alone = or_left ((own.positive || own.negative) || own.required) own.refused
        (or_left (own.positive || own.negative) own.required is)
    step (And a b) is alone = and_from (own.positive || own.negative) (not own.merged) is (apart own.merged
        alone)
    step (Xor a b) is alone = is
    step (Mux a b c) is alone = is
    step (Majority a b c) is alone = is

no_conjunct : {A : Type 0} → (false ≡ true) → A
no_conjunct e = absurd (cc e)

pub operand_same : (nodes : List Node) (uses : List Use) (number : ℕ) (bit : Bit) (positive negative :
    Bool) → length uses ≡ length nodes →
    IsServed uses bit positive negative false → positive ≡ true → bit.index ≤ number →
    IsOperand nodes uses number bit
operand_same nodes uses number bit positive negative size served on earlier = record {
  node = served.node;
  among = omega (arith, size, served.among);
  named = λ node found. named_by node (use_at uses (bit.index - 1)) bit.negated (served.same on) (λ merged.
      no_conjunct (served.merges merged).0);
  implied = inr (earlier, served.same on);
}

pub operand_other : (nodes : List Node) (uses : List Use) (number : ℕ) (bit : Bit) (positive negative :
    Bool) → length uses ≡ length nodes →
    IsServed uses bit positive negative false → negative ≡ true → bit.index ≤ number →
    IsOperand nodes uses number (opposite bit)
operand_other nodes uses number bit positive negative size served on earlier = record {
  node = served.node;
  among = omega (arith, size, served.among);
  named = λ node found. named_by node (use_at uses (bit.index - 1)) (not bit.negated) (served.other on) (λ
      merged. no_conjunct (served.merges merged).0);
  implied = inr (earlier, served.other on);
}

pub leaf_same : (nodes : List Node) (uses : List Use) (number : ℕ) (bit : Bit) (positive negative : Bool) →
    length uses ≡ length nodes →
    IsLeaf nodes uses number positive negative bit → positive ≡ true → IsOperand nodes uses number bit
leaf_same nodes uses number bit positive negative size leaf on = record {
  node = leaf.conjunct.served.node;
  among = omega (arith, size, leaf.conjunct.served.among);
  named = leaf.named;
  implied = inr (leaf.conjunct.earlier, leaf.conjunct.served.same on);
}

pub leaf_other : (nodes : List Node) (uses : List Use) (number : ℕ) (bit : Bit) (positive negative : Bool)
    → length uses ≡ length nodes →
    IsLeaf nodes uses number positive negative bit → negative ≡ true →
    IsOperand nodes uses number (opposite bit)
leaf_other nodes uses number bit positive negative size leaf on = record {
  node = leaf.conjunct.served.node;
  among = omega (arith, size, leaf.conjunct.served.among);
  named = leaf.named;
  implied = inr (leaf.conjunct.earlier, leaf.conjunct.served.other on);
}

-- a conjunct that is not taken in has a variable
pub leaf_of : (nodes : List Node) (uses : List Use) (number : ℕ) (bit : Bit) (positive negative : Bool) →
    (positive || negative) ≡ true →
    IsConjunct uses number positive negative bit →
    ((node : Node) → slice_get nodes (bit.index - 1) ≡ Some node →
    is_taken_in bit node (use_at uses (bit.index - 1)) ≡ false) →
    IsLeaf nodes uses number positive negative bit
leaf_of nodes uses number bit positive negative some conjunct kept = record {
  conjunct = conjunct;
  named = λ node found. ⊎_elim
      (λ on. named_by node own bit.negated (conjunct.served.same on) (λ merged. apart node merged (kept
      node found)))
      (λ on. named_by node own (not bit.negated) (conjunct.served.other on) (λ merged. apart node merged
      (kept node found)))
      (or_cases positive negative some);
}
  where
    own : Use
    own = use_at uses (bit.index - 1)

    apart : (node : Node) → (use_at uses (bit.index - 1)).merged ≡ true →
        is_taken_in bit node (use_at uses (bit.index - 1)) ≡ false → is_and node ≡ false
    apart node merged kept =
        let as_is : bit.negated ≡ false = (conjunct.served.merges merged).1 in
        sym (λ i. (not (as_is i) && merged i) && is_and node) ∙ kept

IsServed-weaker : (uses : List Use) (bit : Bit) (positive negative less_positive less_negative conjunct :
    Bool) →
    (less_positive ≡ true → positive ≡ true) → (less_negative ≡ true → negative ≡ true) →
    IsServed uses bit positive negative conjunct → IsServed uses bit less_positive less_negative conjunct
IsServed-weaker uses bit positive negative less_positive less_negative conjunct up down served = record {
  node = served.node;
  among = served.among;
  same = λ on. served.same (up on);
  other = λ on. served.other (down on);
  merges = served.merges;
}

implied_side : (own : Use) (negated : Bool) → is_implied own negated ≡ true → is_side own negated ≡ true
implied_side own negated is = or_left (is_implied own negated) (is_asked own negated) is

-- the operands of a conjunct that is taken in are conjuncts
pub conjuncts_below : (nodes : List Node) (uses : List Use) (number : ℕ) (bit first second : Bit) (positive
    negative : Bool) → ArePassedOn nodes uses →
    (positive || negative) ≡ true → IsConjunct uses number positive negative bit → bit.negated ≡ false →
    slice_get nodes (bit.index - 1) ≡ Some (And first second) →
    IsConjunct uses number positive negative first × IsConjunct uses number positive negative second
conjuncts_below nodes uses number bit first second positive negative graph some conjunct as_is found =
    let own : Use = use_at uses (bit.index - 1) in
    let up : positive ≡ true → is_side own false ≡ true =
    λ on. implied_side own false (subst (λ (b : Bool). is_implied own b ≡ true) as_is (conjunct.served.same
    on)) in
    let down : negative ≡ true → is_side own true ≡ true =
    λ on. implied_side own true (subst (λ (b : Bool). is_implied own (not b) ≡ true) as_is
    (conjunct.served.other on)) in
    let sides : (is_side own false || is_side own true) ≡ true =
    ⊎_elim (λ on. or_left (is_side own false) (is_side own true) (up on)) (λ on. or_right (is_side own
    false) (is_side own true) (down on)) (or_cases positive negative some) in
    let served = graph.passed (bit.index - 1) (And first second) found sides in
    let may = graph.ordered.ordered (bit.index - 1) (And first second) found in (
      record {
        served = IsServed-weaker uses first (is_side own false) (is_side own true) positive negative true
            up down served.0;
        earlier = omega (arith, may, conjunct.earlier);
      },
      record {
        served = IsServed-weaker uses second (is_side own false) (is_side own true) positive negative true
            up down served.1;
        earlier = omega (arith, may, conjunct.earlier);
      },
    )

-- ---- the operands of each gate

pub some_side : (own : Use) (negated : Bool) → is_side own negated ≡ true →
    (is_side own false || is_side own true) ≡ true
some_side own false is = or_left (is_side own false) (is_side own true) is
some_side own true is = or_right (is_side own false) (is_side own true) is

-- an operand as it is or negated, by the side of the gate
pub sided_operand : (nodes : List Node) (uses : List Use) (number : ℕ) (bit : Bit) (own : Use) (negated :
    Bool) → length uses ≡ length nodes →
    IsServed uses bit (is_side own false) (is_side own true) false → is_side own negated ≡ true →
    bit.index ≤ number →
    IsOperand nodes uses number (if negated then opposite bit else bit)
sided_operand nodes uses number bit own false size served on earlier =
    operand_same nodes uses number bit (is_side own false) (is_side own true) size served on earlier
sided_operand nodes uses number bit own true size served on earlier =
    operand_other nodes uses number bit (is_side own false) (is_side own true) size served on earlier

pub both_operand : (nodes : List Node) (uses : List Use) (number : ℕ) (bit : Bit) (negated : Bool) →
    length uses ≡ length nodes →
    IsServed uses bit true true false → bit.index ≤ number →
    IsOperand nodes uses number (if negated then opposite bit else bit)
both_operand nodes uses number bit false size served earlier = operand_same nodes uses number bit true true
    size served refl earlier
both_operand nodes uses number bit true size served earlier = operand_other nodes uses number bit true true
    size served refl earlier

pub both_opposite : (nodes : List Node) (uses : List Use) (number : ℕ) (bit : Bit) (negated : Bool) →
    length uses ≡ length nodes →
    IsServed uses bit true true false → bit.index ≤ number →
    IsOperand nodes uses number (opposite (if negated then opposite bit else bit))
both_opposite nodes uses number bit false size served earlier = operand_other nodes uses number bit true
    true size served refl earlier
both_opposite nodes uses number bit true size served earlier =
    subst (IsOperand nodes uses number) (sym twice) (operand_same nodes uses number bit true true size
    served refl earlier)
  where
    back : (b : Bool) → not (not b) ≡ b
    back true = refl
    back false = refl

    twice : opposite (opposite bit) ≡ bit
    twice = λ i. record { index = bit.index; negated = back bit.negated i }

side_used : (own : Use) (negated : Bool) → is_side own negated ≡ true → is_used own ≡ true
side_used own false is = step own.positive own.negative own.required own.refused is
  where
    step : (p n r f : Bool) → (p || r) ≡ true → (((p || n) || r) || f) ≡ true
    step true n r f e = refl
    step false true r f e = refl
    step false false true f e = refl
    step false false false f e = absurd (cc e)
side_used own true is = step own.positive own.negative own.required own.refused is
  where
    step : (p n r f : Bool) → (n || f) ≡ true → (((p || n) || r) || f) ≡ true
    step true n r f e = refl
    step false true r f e = refl
    step false false true f e = refl
    step false false false f e = e

pub free_operand : (nodes : List Node) (uses : List Use) (bit : Bit) (own : ℕ) → AreOrdered nodes →
    0 < bit.index → bit.index ≤ length nodes →
    slice_get nodes (bit.index - 1) ≡ Some (Free own) →
    is_side (use_at uses (bit.index - 1)) bit.negated ≡ true → IsOperand nodes uses (bit.index - 1) bit
free_operand nodes uses bit own ordered some among found side = record {
  node = some;
  among = among;
  named = λ node here.
      let same : Some node ≡ Some (Free own) = sym here ∙ found in
      let is : node ≡ Free own = cc in
      subst (λ (n : Node). has_variable n (use_at uses (bit.index - 1)) ≡ true) (sym is) (side_used (use_at
      uses (bit.index - 1)) bit.negated side);
  implied = inl (found ∙ ap (λ (n : ℕ). Some (Free n)) (ordered.ordered (bit.index - 1) (Free own) found));
}

-- what is needed of the operands of the node of a bit
pub node_served : (nodes : List Node) (uses : List Use) (bit : Bit) (node : Node) →
    ArePassedOn nodes uses → slice_get nodes (bit.index - 1) ≡ Some node →
    is_side (use_at uses (bit.index - 1)) bit.negated ≡ true →
    AreServed uses node (is_side (use_at uses (bit.index - 1)) false) (is_side (use_at uses (bit.index -
    1)) true)
node_served nodes uses bit node graph found side = graph.passed (bit.index - 1) node found (some_side
    (use_at uses (bit.index - 1)) bit.negated side)

pub xor_operands : (nodes : List Node) (uses : List Use) (bit a b : Bit) → ArePassedOn nodes uses →
    slice_get nodes (bit.index - 1) ≡ Some (Xor a b) →
    is_side (use_at uses (bit.index - 1)) bit.negated ≡ true →
    (other : Bit) → other ≡ (if bit.negated then opposite a else a) →
    All (IsOperand nodes uses (bit.index - 1)) (other ∷ opposite other ∷ b ∷ opposite b ∷ [])
xor_operands nodes uses bit a b graph found side other is =
    let P : Bit → Type 0 = IsOperand nodes uses (bit.index - 1) in
    let served = node_served nodes uses bit (Xor a b) graph found side in
    let may = graph.ordered.ordered (bit.index - 1) (Xor a b) found in
    let le : a.index ≤ bit.index - 1 = omega (arith, may) in
    All-cons P other (opposite other ∷ b ∷ opposite b ∷ []) (subst P (sym is) (both_operand nodes uses
    (bit.index - 1) a bit.negated graph.size served.0 le))
    (All-cons P (opposite other) (b ∷ opposite b ∷ []) (subst (λ (x : Bit). P (opposite x)) (sym is)
    (both_opposite nodes uses (bit.index - 1) a bit.negated graph.size served.0 le))
    (All-cons P b (opposite b ∷ []) (both_operand nodes uses (bit.index - 1) b false graph.size served.1
    may.2)
    (All-cons P (opposite b) [] (both_opposite nodes uses (bit.index - 1) b false graph.size served.1
    may.2) (All-nil P))))

pub mux_operands : (nodes : List Node) (uses : List Use) (bit a b c : Bit) → ArePassedOn nodes uses →
    slice_get nodes (bit.index - 1) ≡ Some (Mux a b c) →
    is_side (use_at uses (bit.index - 1)) bit.negated ≡ true →
    (chosen otherwise : Bit) → chosen ≡ (if bit.negated then opposite b else b) →
    otherwise ≡ (if bit.negated then opposite c else c) →
    All (IsOperand nodes uses (bit.index - 1)) (a ∷ opposite a ∷ chosen ∷ otherwise ∷ [])
mux_operands nodes uses bit a b c graph found side chosen otherwise first second =
    let P : Bit → Type 0 = IsOperand nodes uses (bit.index - 1) in
    let own : Use = use_at uses (bit.index - 1) in
    let served = node_served nodes uses bit (Mux a b c) graph found side in
    let may = graph.ordered.ordered (bit.index - 1) (Mux a b c) found in
    All-cons P a (opposite a ∷ chosen ∷ otherwise ∷ []) (both_operand nodes uses (bit.index - 1) a false
    graph.size served.0 may.first.1)
    (All-cons P (opposite a) (chosen ∷ otherwise ∷ []) (both_opposite nodes uses (bit.index - 1) a false
    graph.size served.0 may.first.1)
    (All-cons P chosen (otherwise ∷ []) (subst P (sym first) (sided_operand nodes uses (bit.index - 1) b
    own bit.negated graph.size served.1 side may.second.1))
    (All-cons P otherwise [] (subst P (sym second) (sided_operand nodes uses (bit.index - 1) c own
    bit.negated graph.size served.2 side may.third.1)) (All-nil P))))

pub majority_operands : (nodes : List Node) (uses : List Use) (bit a b c : Bit) →
    ArePassedOn nodes uses → slice_get nodes (bit.index - 1) ≡ Some (Majority a b c) →
    is_side (use_at uses (bit.index - 1)) bit.negated ≡ true →
    (x y z : Bit) → x ≡ (if bit.negated then opposite a else a) →
    y ≡ (if bit.negated then opposite b else b) → z ≡ (if bit.negated then opposite c else c) →
    All (IsOperand nodes uses (bit.index - 1)) (x ∷ y ∷ z ∷ [])
majority_operands nodes uses bit a b c graph found side x y z first second third =
    let P : Bit → Type 0 = IsOperand nodes uses (bit.index - 1) in
    let own : Use = use_at uses (bit.index - 1) in
    let served = node_served nodes uses bit (Majority a b c) graph found side in
    let may = graph.ordered.ordered (bit.index - 1) (Majority a b c) found in
    let le : a.index ≤ bit.index - 1 = omega (arith, may) in
    let le' : b.index ≤ bit.index - 1 = omega (arith, may) in
    All-cons P x (y ∷ z ∷ []) (subst P (sym first) (sided_operand nodes uses (bit.index - 1) a own
    bit.negated graph.size served.0 side le))
    (All-cons P y (z ∷ []) (subst P (sym second) (sided_operand nodes uses (bit.index - 1) b own
    bit.negated graph.size served.1 side le'))
    (All-cons P z [] (subst P (sym third) (sided_operand nodes uses (bit.index - 1) c own bit.negated
    graph.size served.2 side may.3)) (All-nil P)))

-- the conjuncts that an `and` begins with
pub and_conjuncts : (nodes : List Node) (uses : List Use) (bit a b : Bit) → ArePassedOn nodes uses →
    slice_get nodes (bit.index - 1) ≡ Some (And a b) →
    is_side (use_at uses (bit.index - 1)) bit.negated ≡ true →
    IsConjunct uses (bit.index - 1) (is_side (use_at uses (bit.index - 1)) false) (is_side (use_at uses
    (bit.index - 1)) true) a ×
    IsConjunct uses (bit.index - 1) (is_side (use_at uses (bit.index - 1)) false) (is_side (use_at uses
    (bit.index - 1)) true) b
and_conjuncts nodes uses bit a b graph found side =
    let served = node_served nodes uses bit (And a b) graph found side in
    let may = graph.ordered.ordered (bit.index - 1) (And a b) found in (
      record { served = served.0; earlier = omega (arith, may) },
      record {
        served = served.1;
        earlier =
            omega (arith, may);
      },
    )

-- ---- values of gates, as they are or negated

pub xor_value : (free : ℕ → Bool) (nodes : List Node) (a b : Bit) (negated : Bool) →
    bool_xor (truth free nodes (if negated then opposite a else a)) (truth free nodes b) ≡ bool_xor negated
    (bool_xor (truth free nodes a) (truth free nodes b))
xor_value free nodes a b false = refl
xor_value free nodes a b true = ap (λ x. bool_xor x (truth free nodes b)) (truth-opposite free nodes a) ∙
    step (truth free nodes a) (truth free nodes b)
  where
    step : (x y : Bool) → bool_xor (not x) y ≡ not (bool_xor x y)
    step true true = refl
    step true false = refl
    step false y = refl

pub mux_value : (free : ℕ → Bool) (nodes : List Node) (a b c : Bit) (negated : Bool) →
    (if truth free nodes a then truth free nodes (if negated then opposite b else b) else truth free nodes
    (if negated then opposite c else c)) ≡
    bool_xor negated (if truth free nodes a then truth free nodes b else truth free nodes c)
mux_value free nodes a b c false = refl
mux_value free nodes a b c true =
    (λ i. if truth free nodes a then truth-opposite free nodes b i else truth-opposite free nodes c i) ∙
    step (truth free nodes a)
  where
    step : (x : Bool) →
        (if x then not (truth free nodes b) else not (truth free nodes c)) ≡ not (if x then truth free
        nodes b else truth free nodes c)
    step true = refl
    step false = refl

pub majority_value : (free : ℕ → Bool) (nodes : List Node) (a b c : Bit) (negated : Bool) →
    bool_majority (truth free nodes (if negated then opposite a else a)) (truth free nodes (if negated then
    opposite b else b)) (truth free nodes (if negated then opposite c else c)) ≡
    bool_xor negated (bool_majority (truth free nodes a) (truth free nodes b) (truth free nodes c))
majority_value free nodes a b c false = refl
majority_value free nodes a b c true =
    (λ i. bool_majority (truth-opposite free nodes a i) (truth-opposite free nodes b i) (truth-opposite
    free nodes c i))
    ∙ step (truth free nodes a) (truth free nodes b) (truth free nodes c)
  where
    step : (x y z : Bool) → bool_majority (not x) (not y) (not z) ≡ not (bool_majority x y z)
    step true true z = refl
    step true false true = refl
    step true false false = refl
    step false true true = refl
    step false true false = refl
    step false false z = refl

-- ---- the search for conjuncts

split_last : (P : Bit → Type 0) (xs : List Bit) (x : Bit) → AllByRecursion P (xs ++ x ∷ []) →
    AllByRecursion P xs × P x
split_last P [] x all = (tt, all.0)
split_last P (y ∷ xs) x all = let rest = split_last P xs x all.1 in ((all.0, rest.0), rest.1)

pub all_split : (P : Bit → Type 0) (xs rest : List Bit) (x : Bit) → xs ≡ rest ++ x ∷ [] → All P xs →
    All P rest × P x
all_split P xs rest x is all =
    let parts = split_last P rest x (recursion_from_All P (rest ++ x ∷ []) (subst (All P) is all)) in
    (All-from_recursion P rest parts.0, parts.1)

-- the conjuncts of two bits: those that are left, and those that were found
pub record IsCut (nodes : List Node) (uses : List Use) (a b : Bit) (left found : List Bit) : Type 0 where
  pub bits : All (IsOfNode nodes) left
  pub value : (free : ℕ → Bool) →
      (all_of (truth free nodes) left && all_of (truth free nodes) found) ≡ (truth free nodes a && truth
      free nodes b)
  pub conjuncts : (number : ℕ) (positive negative : Bool) → (positive || negative) ≡ true →
      IsConjunct uses number positive negative a → IsConjunct uses number positive negative b →
      All (IsConjunct uses number positive negative) left
  pub leaves : (number : ℕ) (positive negative : Bool) → (positive || negative) ≡ true →
      IsConjunct uses number positive negative a → IsConjunct uses number positive negative b →
      All (IsLeaf nodes uses number positive negative) found

pub IsCut-step : (nodes : List Node) (uses : List Use) (a b bit : Bit) (before left found later more : List
    Bit) → ArePassedOn nodes uses →
    IsCut nodes uses a b before found → before ≡ left ++ bit ∷ [] →
    Expands nodes uses bit left found later more → IsCut nodes uses a b later more
IsCut-step nodes uses a b bit before left found later more graph cut popped (stays kept same put) = record {
  bits = subst (All (IsOfNode nodes)) (sym same) (all_split (IsOfNode nodes) before left bit popped
      cut.bits).0;
  value = λ free. ap (λ xs. all_of (truth free nodes) xs && all_of (truth free nodes) more) same
      ∙ value_moved (truth free nodes) before left found more bit popped put ∙ cut.value free;
  conjuncts = λ number positive negative some one two.
      subst (All (IsConjunct uses number positive negative)) (sym same)
      (all_split (IsConjunct uses number positive negative) before left bit popped (cut.conjuncts number
      positive negative some one two)).0;
  leaves = λ number positive negative some one two.
      subst (All (IsLeaf nodes uses number positive negative)) (sym put)
      (All-push (IsLeaf nodes uses number positive negative) found bit (cut.leaves number positive negative
      some one two)
      (leaf_of nodes uses number bit positive negative some
      (all_split (IsConjunct uses number positive negative) before left bit popped (cut.conjuncts number
      positive negative some one two)).1 kept));
}
IsCut-step nodes uses a b bit before left found later more graph cut popped (taken first second as_is and
    put same) =
    let split = all_split (IsOfNode nodes) before left bit popped cut.bits in
    let may = graph.ordered.ordered (bit.index - 1) (And first second) and in
    let one_bit : IsOfNode nodes first = record {
      node = may.0;
      among = omega (
        arith,
        may,
        split.1.node,
        split.1.among,
      );
    } in
    let two_bit : IsOfNode nodes second = record {
      node = omega (arith, may);
      among = omega (
        arith,
        may,
        split.1.node,
        split.1.among,
      );
    } in
    record {
      bits = subst (All (IsOfNode nodes)) (sym put)
          (All-push (IsOfNode nodes) (left ++ second ∷ []) first (All-push (IsOfNode nodes) left second
          split.0 two_bit) one_bit);
      value = λ free.
          ap (λ xs. all_of (truth free nodes) later && all_of (truth free nodes) xs) same
          ∙ value_expanded (truth free nodes) before left (left ++ second ∷ []) later found bit first
          second popped refl put (meaning free)
          ∙ cut.value free;
      conjuncts = λ number positive negative some one two.
          let parts = all_split (IsConjunct uses number positive negative) before left bit popped
          (cut.conjuncts number positive negative some one two) in
          let below = conjuncts_below nodes uses number bit first second positive negative graph some
          parts.1 as_is and in
          subst (All (IsConjunct uses number positive negative)) (sym put)
          (All-push (IsConjunct uses number positive negative) (left ++ second ∷ []) first
          (All-push (IsConjunct uses number positive negative) left second parts.0 below.1) below.0);
      leaves = λ number positive negative some one two.
          subst (All (IsLeaf nodes uses number positive negative)) (sym same) (cut.leaves number positive
          negative some one two);
    }
  where
    meaning : (free : ℕ → Bool) → truth free nodes bit ≡ (truth free nodes first && truth free nodes second)
    meaning free =
        truth_bit free nodes bit (And first second) graph.ordered
        (all_split (IsOfNode nodes) before left bit popped cut.bits).1.node and
        ∙ ap (λ s. bool_xor s (truth free nodes first && truth free nodes second)) as_is

-- what is left falls
pub left_falls : (nodes : List Node) (uses : List Use) (bit : Bit) (before left found later more : List
    Bit) → AreOrdered nodes → 0 < bit.index →
    before ≡ left ++ bit ∷ [] → Expands nodes uses bit left found later more →
    sum_by (λ (x : Bit). 2 ^ x.index) later < sum_by (λ (x : Bit). 2 ^ x.index) before
left_falls nodes uses bit before left found later more ordered some popped (stays kept same put) =
    let f : Bit → ℕ = λ x. 2 ^ x.index in
    let whole : sum_by f before ≡ sum_by f left + (0 + 2 ^ bit.index) = ap (sum_by f) popped ∙
    sum_by-append f left (bit ∷ []) in
    let one : 1 ≤ 2 ^ bit.index = power_positive bit.index in
    omega (arith, whole, one, ap (sum_by f) same)
left_falls nodes uses bit before left found later more ordered some popped (taken first second as_is and
    put same) =
    let f : Bit → ℕ = λ x. 2 ^ x.index in
    let may = ordered.ordered (bit.index - 1) (And first second) and in
    let whole : sum_by f before ≡ sum_by f left + (0 + 2 ^ bit.index) = ap (sum_by f) popped ∙
    sum_by-append f left (bit ∷ []) in
    let part : sum_by f (left ++ second ∷ []) ≡ sum_by f left + (0 + 2 ^ second.index) = sum_by-append f
    left (second ∷ []) in
    let new : sum_by f later ≡ sum_by f (left ++ second ∷ []) + (0 + 2 ^ first.index) = ap (sum_by f) put ∙
    sum_by-append f (left ++ second ∷ []) (first ∷ []) in
    let less : 2 ^ first.index + 2 ^ second.index < 2 ^ bit.index = powers_fall first.index second.index
    bit.index may.1 (omega (arith, may, some)) in
    omega (arith, whole, part, new, less)

-- ---- the gate of a node

pub found_at : (nodes : List Node) (bit : Bit) (default node : Node) → 0 < bit.index →
    bit.index ≤ length nodes → get_or nodes (bit.index - 1) default ≡ node →
    slice_get nodes (bit.index - 1) ≡ Some node
found_at nodes bit default node some among is =
    let within : bit.index - 1 < length nodes = omega (arith, some, among) in
    slice_get-get_or nodes (bit.index - 1) default within ∙ ap Some is

pub and_is : (free : ℕ → Bool) (nodes : List Node) (bit a b : Bit) (bits : List Bit) → AreOrdered nodes →
    0 < bit.index → slice_get nodes (bit.index - 1) ≡ Some (And a b) →
    bit.negated ≡ false → all_of (truth free nodes) bits ≡ (truth free nodes a && truth free nodes b) →
    all_of (truth free nodes) bits ≡ truth free nodes bit
and_is free nodes bit a b bits ordered some found as_is value =
    value ∙ sym (truth_bit free nodes bit (And a b) ordered some found ∙ ap (λ s. bool_xor s (truth free
    nodes a && truth free nodes b)) as_is)

pub and_not_is : (free : ℕ → Bool) (nodes : List Node) (bit a b : Bit) (bits others : List Bit) →
    AreOrdered nodes → 0 < bit.index → slice_get nodes (bit.index - 1) ≡ Some (And a b) →
    bit.negated ≡ true → all_of (truth free nodes) bits ≡ (truth free nodes a && truth free nodes b) →
    others ≡ map opposite bits →
    any_of (truth free nodes) others ≡ truth free nodes bit
and_not_is free nodes bit a b bits others ordered some found turned value is =
    ap (any_of (truth free nodes)) is ∙ any_of-opposites free nodes bits ∙ ap not value
    ∙ sym (truth_bit free nodes bit (And a b) ordered some found ∙ ap (λ s. bool_xor s (truth free nodes a
    && truth free nodes b)) turned)

pub xor_is : (free : ℕ → Bool) (nodes : List Node) (bit a b other : Bit) → AreOrdered nodes →
    0 < bit.index → slice_get nodes (bit.index - 1) ≡ Some (Xor a b) →
    other ≡ (if bit.negated then opposite a else a) →
    bool_xor (truth free nodes other) (truth free nodes b) ≡ truth free nodes bit
xor_is free nodes bit a b other ordered some found is =
    ap (λ x. bool_xor (truth free nodes x) (truth free nodes b)) is ∙ xor_value free nodes a b bit.negated
    ∙ sym (truth_bit free nodes bit (Xor a b) ordered some found)

pub mux_is : (free : ℕ → Bool) (nodes : List Node) (bit a b c chosen otherwise : Bit) →
    AreOrdered nodes → 0 < bit.index → slice_get nodes (bit.index - 1) ≡ Some (Mux a b c) →
    chosen ≡ (if bit.negated then opposite b else b) → otherwise ≡ (if bit.negated then opposite c else c) →
    (if truth free nodes a then truth free nodes chosen else truth free nodes otherwise) ≡ truth free nodes
    bit
mux_is free nodes bit a b c chosen otherwise ordered some found first second =
    (λ i. if truth free nodes a then truth free nodes (first i) else truth free nodes (second i))
    ∙ mux_value free nodes a b c bit.negated ∙ sym (truth_bit free nodes bit (Mux a b c) ordered some found)

pub majority_is : (free : ℕ → Bool) (nodes : List Node) (bit a b c x y z : Bit) → AreOrdered nodes →
    0 < bit.index → slice_get nodes (bit.index - 1) ≡ Some (Majority a b c) →
    x ≡ (if bit.negated then opposite a else a) → y ≡ (if bit.negated then opposite b else b) →
    z ≡ (if bit.negated then opposite c else c) →
    bool_majority (truth free nodes x) (truth free nodes y) (truth free nodes z) ≡ truth free nodes bit
majority_is free nodes bit a b c x y z ordered some found first second third =
    (λ i. bool_majority (truth free nodes (first i)) (truth free nodes (second i)) (truth free nodes (third
    i)))
    ∙ majority_value free nodes a b c bit.negated ∙ sym (truth_bit free nodes bit (Majority a b c) ordered
    some found)

-- the operands of an `and`, as it is or negated, from its leaves
pub leaves_are_operands : (nodes : List Node) (uses : List Use) (bit a b : Bit) (bits : List Bit) →
    ArePassedOn nodes uses → slice_get nodes (bit.index - 1) ≡ Some (And a b) →
    is_side (use_at uses (bit.index - 1)) bit.negated ≡ true → bit.negated ≡ false →
    ((number : ℕ) (positive negative : Bool) → (positive || negative) ≡ true →
    IsConjunct uses number positive negative a → IsConjunct uses number positive negative b →
    All (IsLeaf nodes uses number positive negative) bits) →
    All (IsOperand nodes uses (bit.index - 1)) bits
leaves_are_operands nodes uses bit a b bits graph found side as_is leaves =
    let own : Use = use_at uses (bit.index - 1) in
    let conjuncts = and_conjuncts nodes uses bit a b graph found side in
    let on : is_side own false ≡ true = subst (λ (n : Bool). is_side own n ≡ true) as_is side in
    All-weaker (IsLeaf nodes uses (bit.index - 1) (is_side own false) (is_side own true)) (IsOperand nodes
    uses (bit.index - 1))
    (λ x leaf. leaf_same nodes uses (bit.index - 1) x (is_side own false) (is_side own true) graph.size
    leaf on) bits
    (leaves (bit.index - 1) (is_side own false) (is_side own true) (some_side own bit.negated side)
    conjuncts.0 conjuncts.1)

pub leaves_are_opposites : (nodes : List Node) (uses : List Use) (bit a b : Bit) (bits others : List Bit) →
    ArePassedOn nodes uses → slice_get nodes (bit.index - 1) ≡ Some (And a b) →
    is_side (use_at uses (bit.index - 1)) bit.negated ≡ true → bit.negated ≡ true →
    ((number : ℕ) (positive negative : Bool) → (positive || negative) ≡ true →
    IsConjunct uses number positive negative a → IsConjunct uses number positive negative b →
    All (IsLeaf nodes uses number positive negative) bits) →
    others ≡ map opposite bits → All (IsOperand nodes uses (bit.index - 1)) others
leaves_are_opposites nodes uses bit a b bits others graph found side turned leaves is =
    let own : Use = use_at uses (bit.index - 1) in
    let conjuncts = and_conjuncts nodes uses bit a b graph found side in
    let on : is_side own true ≡ true = subst (λ (n : Bool). is_side own n ≡ true) turned side in
    subst (All (IsOperand nodes uses (bit.index - 1))) (sym is)
    (All-map (IsOperand nodes uses (bit.index - 1)) opposite bits
    (All-weaker (IsLeaf nodes uses (bit.index - 1) (is_side own false) (is_side own true)) (λ x. IsOperand
    nodes uses (bit.index - 1) (opposite x))
    (λ x leaf. leaf_other nodes uses (bit.index - 1) x (is_side own false) (is_side own true) graph.size
    leaf on) bits
    (leaves (bit.index - 1) (is_side own false) (is_side own true) (some_side own bit.negated side)
    conjuncts.0 conjuncts.1)))

pub bits_of_and : (nodes : List Node) (bit a b : Bit) → AreOrdered nodes → 0 < bit.index →
    bit.index ≤ length nodes → slice_get nodes (bit.index - 1) ≡ Some (And a b) →
    IsOfNode nodes a × IsOfNode nodes b
bits_of_and nodes bit a b ordered some among found =
    let may = ordered.ordered (bit.index - 1) (And a b) found in (
      record { node = may.0; among = omega (arith, may, some, among) },
      record {
        node = omega (arith, may);
        among = omega (arith, may, some, among);
      },
    )

pub single_operand : (nodes : List Node) (uses : List Use) (bit : Bit) (bits : List Bit) →
    bits ≡ bit ∷ [] → IsOperand nodes uses (bit.index - 1) bit →
    All (IsOperand nodes uses (bit.index - 1)) bits
single_operand nodes uses bit bits is operand =
    subst (All (IsOperand nodes uses (bit.index - 1))) (sym is)
    (All-cons (IsOperand nodes uses (bit.index - 1)) bit [] operand (All-nil (IsOperand nodes uses
    (bit.index - 1))))
