-- What clauses tell of nodes.

use Rattle.std.proofs.Common.{◌≡◌, ℕ, ◌+◌, ◌-◌, ◌<◌, ◌≤◌, Bool, true, false, not, ◌||◌, List, [], ◌∷◌, length, get_or, Some, slice_get, refl, sym, ap, subst, ◌∙◌, arith, All, ⊎_elim}
use Rattle.std.proofs.lemmas.Bool.{cases_eq, or_cases, or_left, or_right, and_parts, and_from}
use Rattle.std.proofs.lemmas.List.Elements.{All-weaker}
use Rattle.std.proofs.lemmas.Option.{slice_get-get_or}
use Rattle.ba_nodes.specs.declared.Bit.{Bit}
use Rattle.ba_nodes.specs.declared.Node.{Node}
use Rattle.ba_nodes.specs.declared.Node.TheVariants.{Free}
use Rattle.ba_nodes.specs.Gates.{bool_xor, node_bit, truth, node_truth, AreOrdered}
use Rattle.ba_nodes.proofs.Truths.{truth-node, truth-opposite}
use Rattle.ba_lits.specs.Formulas.{Cnf}
use Rattle.ba_lits.specs.Literals.{Literal, negate}
use Rattle.ba_lits.specs.Satisfaction.{Assignment, signed, lit_true, any_true, all_true}
use Rattle.ba_lits.proofs.Satisfied.{lit_true-negate}
use Rattle.ba_clauses.specs.declared.uses.Use.{Use}
use Rattle.ba_clauses.specs.declared.gates.Gate.{Gate}
use Rattle.ba_clauses.specs.Clauses.{Adds, gate_value, operands_of, literal_of, literal_value, HasVariable}
use Rattle.ba_clauses.specs.Uses.{use_at, node_side, is_implied, is_asked}
use Rattle.ba_clauses.specs.Sides.{ArePassedOn, IsOperand, IsNumbering, free_of, Follows, IsAskedTrue, IsImpliedTrue, IsSound, AreSound, Tells, TellsUpTo, HeadOrBit}
use Rattle.ba_clauses.proofs.Adding.{literal_value-opposite}
use Rattle.ba_clauses.proofs.Monotone.{Rises, gate_rises}

signed_xor : (s b : Bool) → bool_xor s b ≡ signed s b
signed_xor true b = refl
signed_xor false b = refl

-- the value of a bit by the node that it names
pub truth_bit : (free : ℕ → Bool) (nodes : List Node) (bit : Bit) (node : Node) → AreOrdered nodes →
    0 < bit.index →
    slice_get nodes (bit.index - 1) ≡ Some node →
    truth free nodes bit ≡ bool_xor bit.negated (node_truth free nodes node)
truth_bit free nodes bit node ordered some found =
    let index : bit.index ≡ bit.index - 1 + 1 = omega arith in
    step bit.index bit.negated index
  where
    step : (index : ℕ) (negated : Bool) → index ≡ bit.index - 1 + 1 →
        truth free nodes (record { index = index; negated = negated }) ≡ bool_xor negated (node_truth free
        nodes node)
    step index false is =
        ap (λ (n : ℕ). truth free nodes (record { index = n; negated = false })) is ∙ truth-node free nodes
        (bit.index - 1) node ordered found
    step index true is =
        ap (λ (n : ℕ). truth free nodes (record { index = n; negated = true })) is
        ∙ truth-opposite free nodes (node_bit (bit.index - 1))
        ∙ ap not (truth-node free nodes (bit.index - 1) node ordered found)

-- a bit is the side of its node
pub side_is : (bit : Bit) → 0 < bit.index → node_side (bit.index - 1) bit.negated ≡ bit
side_is bit some =
    let index : bit.index - 1 + 1 ≡ bit.index = omega arith in
    λ i. record { index = index i; negated = bit.negated }

-- an operand's node has a variable
pub operand_numbered : (nodes : List Node) (uses : List Use) (variables : List ℕ) (bound number : ℕ) (bit :
    Bit) → length variables ≡ length nodes →
    IsNumbering nodes uses variables bound → IsOperand nodes uses number bit →
    1 ≤ get_or variables (bit.index - 1) 0
operand_numbered nodes uses variables bound number bit size numbering operand =
    let within : bit.index - 1 < length nodes = omega (arith, operand.node, operand.among) in
    let node : Node = get_or nodes (bit.index - 1) (Free 0) in
    let found : slice_get nodes (bit.index - 1) ≡ Some node = slice_get-get_or nodes (bit.index - 1) (Free
    0) within in
    numbering.named (bit.index - 1) node (omega arith) found (operand.named node found)

pub operand_has_variable : (nodes : List Node) (uses : List Use) (variables : List ℕ) (bound number : ℕ)
    (bit : Bit) → length variables ≡ length nodes →
    IsNumbering nodes uses variables bound → IsOperand nodes uses number bit → HasVariable variables bound bit
operand_has_variable nodes uses variables bound number bit size numbering operand = record {
  node = operand.node;
  numbered = omega (arith, size, operand.among);
  literal = record {
    counted = operand_numbered nodes uses variables bound number bit size numbering operand;
    within = numbering.within (bit.index - 1);
  };
}

pub operands_have_variables : (nodes : List Node) (uses : List Use) (variables : List ℕ) (bound number : ℕ)
    (bits : List Bit) → length variables ≡ length nodes →
    IsNumbering nodes uses variables bound → All (IsOperand nodes uses number) bits →
    All (HasVariable variables bound) bits
operands_have_variables nodes uses variables bound number bits size numbering operands =
    All-weaker (IsOperand nodes uses number) (HasVariable variables bound)
    (λ bit operand. operand_has_variable nodes uses variables bound number bit size numbering operand) bits
    operands

-- if earlier nodes are sound, an operand's literal implies it
pub operand_rises : (nodes : List Node) (uses : List Use) (variables : List ℕ) (bound number : ℕ) (v :
    Assignment) (bit : Bit) → AreOrdered nodes → length variables ≡ length nodes →
    IsNumbering nodes uses variables bound → AreSound nodes uses variables v number →
    IsOperand nodes uses number bit →
    literal_value variables v bit ≡ true → truth (free_of variables v) nodes bit ≡ true
operand_rises nodes uses variables bound number v bit ordered size numbering sound operand is = ⊎_elim
    (λ free. truth_bit (free_of variables v) nodes bit (Free (bit.index - 1)) ordered operand.node free
    ∙ signed_xor bit.negated (v (get_or variables (bit.index - 1) 0)) ∙ is)
    (λ earlier.
    let same : node_side (bit.index - 1) bit.negated ≡ bit = side_is bit operand.node in
    sym (ap (truth (free_of variables v) nodes) same)
    ∙ (sound (bit.index - 1) (omega (arith, operand.node, earlier.0))).implied bit.negated earlier.1
    (operand_numbered nodes uses variables bound number bit size numbering operand)
    (ap (literal_value variables v) same ∙ is))
    operand.implied

-- if the variables follow the nodes, a literal has the value of its bit
pub follows_bit : (nodes : List Node) (variables : List ℕ) (free : ℕ →
    Bool) (v : Assignment) (bit : Bit) → 0 < bit.index →
    v (get_or variables (bit.index - 1) 0) ≡ truth free nodes (node_bit (bit.index - 1)) →
    literal_value variables v bit ≡ truth free nodes bit
follows_bit nodes variables free v bit some same =
    ap (signed bit.negated) same ∙ step bit.negated ∙ ap (truth free nodes) (side_is bit some)
  where
    step : (negated : Bool) →
        signed negated (truth free nodes (node_bit (bit.index - 1))) ≡ truth free nodes (node_side
        (bit.index - 1) negated)
    step false = refl
    step true = sym (truth-opposite free nodes (node_bit (bit.index - 1)))

-- if the variables follow the nodes, an operand's literal has its value
operand_follows : (nodes : List Node) (uses : List Use) (variables : List ℕ) (bound number : ℕ) (free : ℕ →
    Bool) (v : Assignment) (bit : Bit) → length variables ≡ length nodes →
    IsNumbering nodes uses variables bound → Follows nodes variables free v →
    IsOperand nodes uses number bit →
    literal_value variables v bit ≡ truth free nodes bit
operand_follows nodes uses variables bound number free v bit size numbering follows operand =
    follows_bit nodes variables free v bit operand.node (follows (bit.index - 1) (operand_numbered nodes
    uses variables bound number bit size numbering operand))

-- the clauses of a gate
pub Tells-bit : (nodes : List Node) (uses : List Use) (variables : List ℕ) (head : List Literal) (bit :
    Bit) (gate : Gate) (old new : Cnf) →
    ArePassedOn nodes uses → length variables ≡ length nodes →
    IsNumbering nodes uses variables old.variables →
    ((free : ℕ → Bool) → gate_value (truth free nodes) gate ≡ truth free nodes bit) →
    All (IsOperand nodes uses (bit.index - 1)) (operands_of gate) →
    Adds old new (λ v. any_true v head || gate_value (literal_value variables v) gate) →
    Tells nodes uses variables (bit.index - 1) old new (λ v. HeadOrBit nodes head bit (free_of variables v)
    v) (λ free v. HeadOrBit nodes head bit free v)
Tells-bit nodes uses variables head bit gate old new graph size numbering value operands adds = record {
  variables_stay = adds.variables;
  back = λ v holds.
      let parts = and_parts (all_true v old.clauses) (any_true v head || gate_value (literal_value
      variables v) gate) (sym (adds.holds v) ∙ holds) in (
        parts.0,
        λ sound. ⊎_elim
            (λ here. or_left (any_true v head) (truth (free_of variables v) nodes bit) here)
            (λ true_gate. or_right (any_true v head) (truth (free_of variables v) nodes bit)
            (sym (value (free_of variables v)) ∙ gate_rises (literal_value variables v) (truth (free_of
            variables v) nodes)
            (literal_value-opposite variables v) (truth-opposite (free_of variables v) nodes) gate
            (All-weaker (IsOperand nodes uses (bit.index - 1)) (Rises (literal_value variables v) (truth
            (free_of variables v) nodes))
            (λ x operand. operand_rises nodes uses variables old.variables (bit.index - 1) v x
            graph.ordered size numbering sound operand)
            (operands_of gate) operands)
            true_gate))
            (or_cases (any_true v head) (gate_value (literal_value variables v) gate) parts.1),
      );
  forth = λ free v follows asks holds.
      adds.holds v ∙ and_from (all_true v old.clauses) (any_true v head || gate_value (literal_value
      variables v) gate) holds
      (⊎_elim
      (λ here. or_left (any_true v head) (gate_value (literal_value variables v) gate) here)
      (λ is. or_right (any_true v head) (gate_value (literal_value variables v) gate)
      (gate_rises (truth free nodes) (literal_value variables v) (truth-opposite free nodes)
      (literal_value-opposite variables v) gate
      (All-weaker (IsOperand nodes uses (bit.index - 1)) (Rises (truth free nodes) (literal_value variables
      v))
      (λ x operand on. operand_follows nodes uses variables old.variables (bit.index - 1) free v x size
      numbering follows operand ∙ on)
      (operands_of gate) operands)
      (value free ∙ is)))
      (or_cases (any_true v head) (truth free nodes bit) asks));
}

-- ---- one after the other

pub Tells-both : (nodes : List Node) (uses : List Use) (variables : List ℕ) (number : ℕ) (old middle new :
    Cnf)
    (first second whole : Assignment → Type 0) (ask also all : (ℕ → Bool) → Assignment → Type 0) →
    ((v : Assignment) → first v → second v → whole v) → ((free : ℕ → Bool) (v : Assignment) →
    Follows nodes variables free v → all free v → ask free v) →
    ((free : ℕ → Bool) (v : Assignment) → Follows nodes variables free v → all free v → also free v) →
    Tells nodes uses variables number old middle first ask →
    Tells nodes uses variables number middle new second also →
    Tells nodes uses variables number old new whole all
Tells-both nodes uses variables number old middle new first second whole ask also all join left right one
    two = record {
      variables_stay = two.variables_stay ∙ one.variables_stay;
      back = λ v holds.
          let later = two.back v holds in
          let earlier = one.back v later.0 in
          (earlier.0, λ sound. join v (earlier.1 sound) (later.1 sound));
      forth = λ free v follows asked holds.
          two.forth free v follows (right free v follows asked) (one.forth free v follows (left free v follows
          asked) holds);
    }

-- ---- all nodes

pub TellsAll-more : (nodes : List Node) (uses : List Use) (variables : List ℕ) (number : ℕ) (old middle new
    : Cnf) → TellsUpTo nodes uses variables number old middle →
    Tells nodes uses variables number middle new (λ v. IsSound nodes uses variables v number) (λ free v.
    IsAskedTrue nodes uses free number) →
    TellsUpTo nodes uses variables (number + 1) old new
TellsAll-more nodes uses variables number old middle new before now = record {
  variables_stay = now.variables_stay ∙ before.variables_stay;
  back = λ v holds.
      let later = now.back v holds in
      let earlier = before.back v later.0 in (
        earlier.0,
        λ k below. ⊎_elim
            (λ here. subst (IsSound nodes uses variables v) (sym here) (later.1 earlier.1))
            (λ other. earlier.1 k (omega (arith, below, other)))
            (cases_eq k number),
      );
  forth = λ free v follows asked holds. now.forth free v follows (asked number) (before.forth free v
      follows asked holds);
}

-- ---- a side of a node

pub number_of_side : (number : ℕ) (negated : Bool) → (node_side number negated).index - 1 ≡ number
number_of_side number negated = omega arith

pub Tells-side : (nodes : List Node) (uses : List Use) (variables : List ℕ) (head : List Literal) (number :
    ℕ) (negated : Bool) (bit : Bit) (gate : Gate) (old new : Cnf) →
    bit ≡ node_side number negated → ArePassedOn nodes uses → length variables ≡ length nodes →
    IsNumbering nodes uses variables old.variables →
    ((free : ℕ → Bool) → gate_value (truth free nodes) gate ≡ truth free nodes bit) →
    All (IsOperand nodes uses (bit.index - 1)) (operands_of gate) →
    Adds old new (λ v. any_true v head || gate_value (literal_value variables v) gate) →
    Tells nodes uses variables number old new (λ v. HeadOrBit nodes head (node_side number negated)
    (free_of variables v) v)
    (λ free v. HeadOrBit nodes head (node_side number negated) free v)
Tells-side nodes uses variables head number negated bit gate old new is graph size numbering value operands
    adds =
    subst (λ (n : ℕ). Tells nodes uses variables n old new (λ v. HeadOrBit nodes head (node_side number
    negated) (free_of variables v) v)
    (λ free v. HeadOrBit nodes head (node_side number negated) free v)) (number_of_side number negated)
    (subst (λ (x : Bit). Tells nodes uses variables (x.index - 1) old new (λ v. HeadOrBit nodes head x
    (free_of variables v) v)
    (λ free v. HeadOrBit nodes head x free v)) is
    (Tells-bit nodes uses variables head bit gate old new graph size numbering value operands adds))

-- the two sides of a node, of which those that are asked for are true
pub Tells-asked : (nodes : List Node) (uses : List Use) (variables : List ℕ) (number : ℕ) (old middle new :
    Cnf) (required refused : Bool) →
    Tells nodes uses variables number old middle (λ v. required ≡ true →
    HeadOrBit nodes [] (node_side number false) (free_of variables v) v)
    (λ free v. required ≡ true → HeadOrBit nodes [] (node_side number false) free v) →
    Tells nodes uses variables number middle new (λ v. refused ≡ true →
    HeadOrBit nodes [] (node_side number true) (free_of variables v) v)
    (λ free v. refused ≡ true → HeadOrBit nodes [] (node_side number true) free v) →
    required ≡ is_asked (use_at uses number) false → refused ≡ is_asked (use_at uses number) true →
    Tells nodes uses variables number old new (λ v. IsAskedTrue nodes uses (free_of variables v) number) (λ
    free v. IsAskedTrue nodes uses free number)
Tells-asked nodes uses variables number old middle new required refused one two first second =
    Tells-both nodes uses variables number old middle new _ _ _ _ _ _
    (λ v on off. join (free_of variables v) on off)
    (λ free v follows asked is. asked false (sym first ∙ is))
    (λ free v follows asked is. asked true (sym second ∙ is))
    one two
  where
    join : (free : ℕ → Bool) → (required ≡ true → truth free nodes (node_side number false) ≡ true) →
        (refused ≡ true → truth free nodes (node_side number true) ≡ true) →
        IsAskedTrue nodes uses free number
    join free on off false is = on (first ∙ is)
    join free on off true is = off (second ∙ is)

-- and those that are implied by their literals
pub Tells-implied : (nodes : List Node) (uses : List Use) (variables : List ℕ) (number : ℕ) (old middle new
    : Cnf) (positive negative : Bool) (lit opposite_lit : Literal) →
    Tells nodes uses variables number old middle (λ v. positive ≡ true →
    HeadOrBit nodes (opposite_lit ∷ []) (node_side number false) (free_of variables v) v)
    (λ free v. positive ≡ true → HeadOrBit nodes (opposite_lit ∷ []) (node_side number false) free v) →
    Tells nodes uses variables number middle new (λ v. negative ≡ true →
    HeadOrBit nodes (lit ∷ []) (node_side number true) (free_of variables v) v)
    (λ free v. negative ≡ true → HeadOrBit nodes (lit ∷ []) (node_side number true) free v) →
    lit ≡ literal_of variables (node_side number false) → opposite_lit ≡ negate lit →
    1 ≤ get_or variables number 0 →
    positive ≡ is_implied (use_at uses number) false → negative ≡ is_implied (use_at uses number) true →
    Tells nodes uses variables number old new (λ v. IsImpliedTrue nodes uses variables v number) (λ free v.
    Unit {0})
Tells-implied nodes uses variables number old middle new positive negative lit opposite_lit one two is
    turned counted first second =
    Tells-both nodes uses variables number old middle new _ _ _ _ _ _
    (λ v on off. join v on off)
    (λ free v follows asked needed. or_flipped (lit_true v lit) (truth free nodes (node_side number false))
    (lit_true v opposite_lit) (flipped v) (valued free v follows))
    (λ free v follows asked needed. or_same (lit_true v lit) (truth free nodes (node_side number true))
    (valued free v follows ∙ sym (not_not (truth free nodes (node_side number false))) ∙ ap not (sym
    (truth-opposite free nodes (node_side number false)))))
    one two
  where
    not_not : (b : Bool) → not (not b) ≡ b
    not_not true = refl
    not_not false = refl

    flipped : (v : Assignment) → lit_true v opposite_lit ≡ not (lit_true v lit)
    flipped v = ap (lit_true v) turned ∙ lit_true-negate v lit

    valued : (free : ℕ → Bool) (v : Assignment) → Follows nodes variables free v →
        lit_true v lit ≡ truth free nodes (node_side number false)
    valued free v follows =
        let same : number + 1 - 1 ≡ number = omega arith in
        ap (lit_true v) is ∙ ap (λ (n : ℕ). v (get_or variables n 0)) same ∙ follows number counted

    or_flipped : (l b o : Bool) → o ≡ not l → l ≡ b → ((o || false) || b) ≡ true
    or_flipped true true o e f = or_right (o || false) true refl
    or_flipped true false o e f = absurd (cc f)
    or_flipped false b o e f = or_left (o || false) b (or_left o false e)

    or_same : (l o : Bool) → l ≡ not o → ((l || false) || o) ≡ true
    or_same true o e = refl
    or_same false true e = refl
    or_same false false e = absurd (cc e)

    left_out : (l b : Bool) → l ≡ false → ((l || false) || b) ≡ true → b ≡ true
    left_out true b e h = absurd (cc e)
    left_out false b e h = h

    join : (v : Assignment) → (positive ≡ true →
        ((lit_true v opposite_lit || false) || truth (free_of variables v) nodes (node_side number false))
        ≡ true) →
        (negative ≡ true →
        ((lit_true v lit || false) || truth (free_of variables v) nodes (node_side number true)) ≡
        true) →
        IsImpliedTrue nodes uses variables v number
    join v on off false side some value =
        left_out (lit_true v opposite_lit) (truth (free_of variables v) nodes (node_side number false))
        (flipped v ∙ ap not (ap (lit_true v) is ∙ value)) (on (first ∙ side))
    join v on off true side some value =
        left_out (lit_true v lit) (truth (free_of variables v) nodes (node_side number true))
        (ap (lit_true v) is ∙ sym (not_not (v (get_or variables (number + 1 - 1) 0))) ∙ ap not value) (off
        (second ∙ side))

pub Tells-node : (nodes : List Node) (uses : List Use) (variables : List ℕ) (number : ℕ) (old middle new :
    Cnf) →
    Tells nodes uses variables number old middle (λ v. IsAskedTrue nodes uses (free_of variables v) number)
    (λ free v. IsAskedTrue nodes uses free number) →
    Tells nodes uses variables number middle new (λ v. IsImpliedTrue nodes uses variables v number) (λ free
    v. Unit {0}) →
    Tells nodes uses variables number old new (λ v. IsSound nodes uses variables v number) (λ free v.
    IsAskedTrue nodes uses free number)
Tells-node nodes uses variables number old middle new one two =
    Tells-both nodes uses variables number old middle new _ _ _ _ _ _
    (λ v asked implied. record { asked = asked; implied = implied }) (λ free v follows asked. asked) (λ
    free v follows asked. tt) one two
