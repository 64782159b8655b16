-- What a bit's truth value is as nodes are added.

use Rattle.std.proofs.Common.{◌≡◌, ℕ, zero, suc, ◌+◌, ◌*◌, ◌<◌, ◌≤◌, Bool, true, false, not, ◌&&◌, List, [], ◌∷◌, ◌++◌, length, get_or, take, drop, fold, Some, slice_get, ◌⊎◌, inl, inr, refl, sym, ap, subst, ◌∙◌, arith, length-append, append_assoc, if◌then◌else◌}
use Rattle.std.proofs.lemmas.Grind.{fold-append}
use Rattle.std.proofs.lemmas.List.Sums.{sum_by-cons, sum_by_push}
use Rattle.std.proofs.lemmas.List.{get_or_append_left, get_or_at, length_push, take-append-drop, length-take-le, drop_more}
use Rattle.std.proofs.lemmas.Option.{slice_get_within, slice_get-get_or, get_or_from_slice_get}
use Rattle.ba_nodes.specs.declared.Bit.{Bit}
use Rattle.ba_nodes.specs.declared.Node.{Node}
use Rattle.ba_nodes.specs.declared.Node.TheVariants.{Free, And, Xor, Mux, Majority}
use Rattle.ba_nodes.specs.Gates.{bool_xor, bool_majority, constant_bit, node_bit, opposite, value_in, node_value, values_of, truth, node_truth, IsBitOf, weight, gates_in, MayStandAt, AreOrdered, Extends, Grows}

abbrev step : (ℕ → Bool) → List Bool → Node → List Bool
step free values node = values ++ node_value free values node ∷ []

length-grown : (free : ℕ → Bool) (nodes : List Node) (values : List Bool) → length (fold (step free) values nodes) ≡ length values + length nodes
length-grown free [] values = omega arith
length-grown free (node ∷ nodes) values =
    omega (arith, length-grown free nodes (step free values node), length_push values (node_value free values node))

get_or-grown : (free : ℕ → Bool) (nodes : List Node) (values : List Bool) (i : ℕ) → i < length values → get_or (fold (step free) values nodes) i false ≡ get_or values i false
get_or-grown free [] values i within = refl
get_or-grown free (node ∷ nodes) values i within =
    let still : i < length (step free values node) = omega (arith, length_push values (node_value free values node)) in
    get_or-grown free nodes (step free values node) i still ∙ get_or_append_left values (node_value free values node ∷ []) false i within

pub length-values : (free : ℕ → Bool) (nodes : List Node) → length (values_of free nodes) ≡ 1 + length nodes
unfolding values_of
length-values free nodes = length-grown free nodes (false ∷ [])

values-append : (free : ℕ → Bool) (old more : List Node) → values_of free (old ++ more) ≡ fold (step free) (values_of free old) more
unfolding values_of
values-append free old more = fold-append (step free) (false ∷ []) old more

-- nodes added after leave a bit its value
pub truth-append : (free : ℕ → Bool) (old more : List Node) (bit : Bit) → IsBitOf old bit → truth free (old ++ more) bit ≡ truth free old bit
unfolding truth
truth-append free old more bit named =
    let within : bit.index < length (values_of free old) = omega (arith, length-values free old) in
    ap (λ values. value_in values bit) (values-append free old more)
    ∙ ap (bool_xor bit.negated) (get_or-grown free more (values_of free old) bit.index within)

node_value-truths : (free : ℕ → Bool) (nodes : List Node) (node : Node) → node_value free (values_of free nodes) node ≡ node_truth free nodes node
unfolding truth
node_value-truths free nodes (Free number) = refl
node_value-truths free nodes (And a b) = refl
node_value-truths free nodes (Xor a b) = refl
node_value-truths free nodes (Mux a b c) = refl
node_value-truths free nodes (Majority a b c) = refl

-- the value of a node that was just added
pub truth-push : (free : ℕ → Bool) (old : List Node) (node : Node) → truth free (old ++ node ∷ []) (node_bit (length old)) ≡ node_truth free old node
unfolding truth
truth-push free old node =
    let last : length (values_of free old) ≡ length old + 1 = omega (arith, length-values free old) in
    ap (λ values. value_in values (node_bit (length old))) (values-append free old (node ∷ []))
    ∙ get_or_at (values_of free old) (node_value free (values_of free old) node) [] false (length old + 1) last
    ∙ node_value-truths free old node

pub truth-constant : (free : ℕ → Bool) (nodes : List Node) (value : Bool) → truth free nodes (constant_bit value) ≡ value
unfolding truth values_of
truth-constant free nodes value =
    ap (bool_xor value) (get_or-grown free nodes (false ∷ []) 0 (omega arith)) ∙ xor_false value
  where
    xor_false : (value : Bool) → bool_xor value false ≡ value
    xor_false true = refl
    xor_false false = refl

xor-not : (a b : Bool) → bool_xor (not a) b ≡ not (bool_xor a b)
xor-not true true = refl
xor-not true false = refl
xor-not false true = refl
xor-not false false = refl

pub truth-opposite : (free : ℕ → Bool) (nodes : List Node) (bit : Bit) → truth free nodes (opposite bit) ≡ not (truth free nodes bit)
unfolding truth
truth-opposite free nodes bit = xor-not bit.negated (get_or (values_of free nodes) bit.index false)

pub Extends_refl : (nodes : List Node) → Extends nodes nodes
Extends_refl nodes = record { grows = omega arith; stays = λ number within. refl; keeps = λ free bit named. refl }

pub Extends-through : (old middle new : List Node) → Extends old middle → Extends middle new → Extends old new
Extends-through old middle new first second = record {
  grows = omega arith;
  stays = λ number within. second.stays number (omega (arith, first.grows)) ∙ first.stays number within;
  keeps = λ free bit named. second.keeps free bit (omega (arith, first.grows)) ∙ first.keeps free bit named;
}

pub Grows_refl : (nodes : List Node) (gates : ℕ) → Grows nodes nodes gates
Grows_refl nodes gates = record { extends = Extends_refl nodes; count = omega arith }

pub Grows-through : {first second gates : ℕ} (old middle new : List Node) → Grows old middle first → Grows middle new second → first + second ≤ gates → Grows old new gates
Grows-through old middle new before after enough = record {
  extends = Extends-through old middle new before.extends after.extends;
  count = omega (arith, before.count, after.count, enough);
}

pub Grows-more : {few gates : ℕ} (old new : List Node) → Grows old new few → few ≤ gates → Grows old new gates
Grows-more old new grows enough = record { extends = grows.extends; count = omega (arith, grows.count, enough) }

slice_get-append : (old more : List Node) (number : ℕ) → number < length old → slice_get (old ++ more) number ≡ slice_get old number
slice_get-append old more number within =
    let longer : number < length (old ++ more) = omega (arith, length-append old more) in
    slice_get-get_or (old ++ more) number (Free 0) longer
    ∙ ap Some (get_or_append_left old more (Free 0) number within)
    ∙ sym (slice_get-get_or old number (Free 0) within)

pub Extends-append : (old more : List Node) → Extends old (old ++ more)
Extends-append old more = record {
  grows = omega (arith, length-append old more);
  stays = λ number within. slice_get-append old more number within;
  keeps = λ free bit named. truth-append free old more bit named;
}

-- ---- nodes in their order

split_at : (nodes : List Node) (number : ℕ) (node : Node) → slice_get nodes number ≡ Some node → nodes ≡ (take number nodes ++ node ∷ []) ++ drop (number + 1) nodes
split_at nodes number node found =
    let within : number < length nodes = slice_get_within nodes number node found in
    let here : get_or nodes number node ≡ node = get_or_from_slice_get nodes number node node found in
    sym (take-append-drop number nodes)
    ∙ ap (λ rest. take number nodes ++ rest) (drop_more nodes number node within ∙ ap (λ x. x ∷ drop (number + 1) nodes) here)
    ∙ sym (append_assoc (take number nodes) (node ∷ []) (drop (number + 1) nodes))

-- the nodes that a node names are before it
pub node_truth-append : (free : ℕ → Bool) (old more : List Node) (node : Node) → MayStandAt (length old) node → node_truth free (old ++ more) node ≡ node_truth free old node
node_truth-append free old more (Free number) may = refl
node_truth-append free old more (And a b) may =
    let first : truth free (old ++ more) a ≡ truth free old a = truth-append free old more a (omega (arith, may)) in
    let second : truth free (old ++ more) b ≡ truth free old b = truth-append free old more b may.2 in
    ap (λ x. x && truth free (old ++ more) b) first ∙ ap (λ y. truth free old a && y) second
node_truth-append free old more (Xor a b) may =
    let first : truth free (old ++ more) a ≡ truth free old a = truth-append free old more a (omega (arith, may)) in
    let second : truth free (old ++ more) b ≡ truth free old b = truth-append free old more b may.2 in
    λ i. bool_xor (first i) (second i)
node_truth-append free old more (Mux a b c) may =
    let first : truth free (old ++ more) a ≡ truth free old a = truth-append free old more a may.first.1 in
    let second : truth free (old ++ more) b ≡ truth free old b = truth-append free old more b may.second.1 in
    let third : truth free (old ++ more) c ≡ truth free old c = truth-append free old more c may.third.1 in
    λ i. if first i then second i else third i
node_truth-append free old more (Majority a b c) may =
    let first : truth free (old ++ more) a ≡ truth free old a = truth-append free old more a (omega (arith, may)) in
    let second : truth free (old ++ more) b ≡ truth free old b = truth-append free old more b (omega (arith, may)) in
    let third : truth free (old ++ more) c ≡ truth free old c = truth-append free old more c may.3 in
    λ i. bool_majority (first i) (second i) (third i)

-- a node's bit has the value of the node
pub truth-node : (free : ℕ → Bool) (nodes : List Node) (number : ℕ) (node : Node) → AreOrdered nodes → slice_get nodes number ≡ Some node → truth free nodes (node_bit number) ≡ node_truth free nodes node
truth-node free nodes number node sound found =
    let within : number < length nodes = slice_get_within nodes number node found in
    let size : length (take number nodes) ≡ number = length-take-le number nodes (omega arith) in
    let may : MayStandAt (length (take number nodes)) node = subst (λ n. MayStandAt n node) (sym size) (sound.ordered number node found) in
    truth-at (take number nodes) (drop (number + 1) nodes) size may (split_at nodes number node found)
  where
    truth-at : (front more : List Node) → length front ≡ number → MayStandAt (length front) node → nodes ≡ (front ++ node ∷ []) ++ more → truth free nodes (node_bit number) ≡ node_truth free nodes node
    truth-at front more size may is =
        let named : IsBitOf (front ++ node ∷ []) (node_bit number) = omega (arith, length_push front node) in
        ap (λ xs. truth free xs (node_bit number)) is
        ∙ truth-append free (front ++ node ∷ []) more (node_bit number) named
        ∙ ap (λ n. truth free (front ++ node ∷ []) (node_bit n)) (sym size)
        ∙ truth-push free front node
        ∙ sym (node_truth-append free front (node ∷ [] ++ more) node may)
        ∙ ap (λ xs. node_truth free xs node) (sym (append_assoc front (node ∷ []) more) ∙ sym is)

slice_get-push_cases : (nodes : List Node) (last node : Node) (number : ℕ) → slice_get (nodes ++ last ∷ []) number ≡ Some node → (slice_get nodes number ≡ Some node) ⊎ ((number ≡ length nodes) × (node ≡ last))
slice_get-push_cases [] last node zero found = inr (refl, sym (cc))
slice_get-push_cases [] last node (suc number) found = absurd (cc)
slice_get-push_cases (first ∷ nodes) last node zero found = inl found
slice_get-push_cases (first ∷ nodes) last node (suc number) found =
    elim (slice_get-push_cases nodes last node number found) [ inl there ↦ inl there | inr here ↦ inr (ap suc here.0, here.1) ]

-- a node that is not there yet
pub AreOrdered-push : (nodes : List Node) (last : Node) → AreOrdered nodes → MayStandAt (length nodes) last → ((number : ℕ) → slice_get nodes number ≡ Some last → ⊥) → AreOrdered (nodes ++ last ∷ [])
AreOrdered-push nodes last sound may new = record {
  ordered = λ number node found.
      elim (slice_get-push_cases nodes last node number found) [
        | inl there ↦ sound.ordered number node there
        | inr here ↦ subst (λ n. MayStandAt number n) (sym here.1) (subst (λ n. MayStandAt n last) (sym here.0) may)
      ];
  distinct = λ number other node found also.
      elim (slice_get-push_cases nodes last node number found) [
        | inl there ↦ elim (slice_get-push_cases nodes last node other also) [
          | inl too ↦ sound.distinct number other node there too
          | inr here ↦ absurd (new number (there ∙ ap Some here.1))
        ]
        | inr here ↦ elim (slice_get-push_cases nodes last node other also) [
          | inl there ↦ absurd (new other (there ∙ ap Some here.1))
          | inr too ↦ here.0 ∙ sym too.0
        ]
      ];
}

pub gates-push : (nodes : List Node) (last : Node) → gates_in (nodes ++ last ∷ []) ≡ gates_in nodes + weight last
gates-push nodes last = sum_by_push weight nodes last

-- a node counts three at most
pub gates-few : (nodes : List Node) → gates_in nodes ≤ 3 * length nodes
gates-few [] = omega arith
gates-few (node ∷ nodes) = omega (arith, sum_by-cons weight node nodes, gates-few nodes, weight-small node)
  where
    weight-small : (node : Node) → weight node ≤ 3
    weight-small (Free number) = omega arith
    weight-small (And a b) = omega arith
    weight-small (Xor a b) = omega arith
    weight-small (Mux a b c) = omega arith
    weight-small (Majority a b c) = omega arith
