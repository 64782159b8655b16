-- What a set says of a node that is sought or inserted, as facts on the list of its nodes.

use Rattle.std.proofs.Common.{◌≡◌, ℕ, Bool, true, false, ◌&&◌, List, [], ◌∷◌, ◌++◌, get_or, Some, slice_get, position, if◌then◌else◌, inl, inr, refl, sym, ap, ◌∙◌, eqb, eq-eqb}
use mathlib.Core.Bool.{beq}
use Rattle.std.proofs.lemmas.Bool.{and_from, and_parts, eqb-true, false≢true}
use Rattle.std.specs.List.{list_any}
use Rattle.std.proofs.lemmas.Map.Keys.{any_passes_from_place}
use Rattle.std.proofs.lemmas.List.Quantifiers.{position-Some}
use Rattle.std.proofs.lemmas.Option.{slice_get-get_or}
use Rattle.indexmap.specs.IndexSet.{insert_key}
use Rattle.ba_nodes.specs.declared.Bit.{Bit}
use Rattle.ba_nodes.specs.declared.Node.{Node}
use Rattle.ba_nodes.specs.declared.Node.TheVariants.{Free, And, Xor, Mux, Majority}
use Rattle.ba_nodes.specs.Gates.{IsAbsent, Puts}
use Rattle.ba_nodes.specs.contracts.NodePartialEq.TheImpl.{eq-value}

beq_own : (b : Bool) → beq b b ≡ true
beq_own true = refl
beq_own false = refl

beq_same : (a b : Bool) → beq a b ≡ true → a ≡ b
beq_same true true equal = refl
beq_same false false equal = refl
beq_same true false equal = sym equal
beq_same false true equal = equal

three : (a b c : Bool) → a ≡ true → b ≡ true → c ≡ true → (a && (b && c)) ≡ true
three a b c first second third = and_from a (b && c) first (and_from b c second third)

three_parts : (a b c : Bool) → (a && (b && c)) ≡ true → (a ≡ true) × (b ≡ true) × (c ≡ true)
three_parts a b c holds =
    let whole = and_parts a (b && c) holds in
    let rest = and_parts b c whole.1 in
    (whole.0, rest.0, rest.1)

bit_eq : Bit → Bit → Bool
bit_eq a b = eqb a.index b.index && beq a.negated b.negated

bit_own : (a : Bit) → bit_eq a a ≡ true
unfolding bit_eq
bit_own a = and_from (eqb a.index a.index) (beq a.negated a.negated) (eq-eqb a.index a.index refl) (beq_own a.negated)

bit_same : (a b : Bit) → bit_eq a b ≡ true → a ≡ b
unfolding bit_eq
bit_same a b equal =
    let parts = and_parts (eqb a.index b.index) (beq a.negated b.negated) equal in
    let index : a.index ≡ b.index = eqb-true a.index b.index parts.0 in
    let negated : a.negated ≡ b.negated = beq_same a.negated b.negated parts.1 in
    λ i. record { index = index i; negated = negated i }

pub eq_own : (node : Node) → eq-value.it node node ≡ true
unfolding bit_eq
eq_own (Free number) = eq-eqb number number refl
eq_own (And a b) = and_from (bit_eq a a) (bit_eq b b) (bit_own a) (bit_own b)
eq_own (Xor a b) = and_from (bit_eq a a) (bit_eq b b) (bit_own a) (bit_own b)
eq_own (Mux a b c) = three (bit_eq a a) (bit_eq b b) (bit_eq c c) (bit_own a) (bit_own b) (bit_own c)
eq_own (Majority a b c) = three (bit_eq a a) (bit_eq b b) (bit_eq c c) (bit_own a) (bit_own b) (bit_own c)

pub eq_same : (node other : Node) → eq-value.it node other ≡ true → node ≡ other
unfolding bit_eq
eq_same (Free number) (Free other) equal = ap Free (eqb-true number other equal)
eq_same (And a b) (And x y) equal =
    let parts = and_parts (bit_eq a x) (bit_eq b y) equal in
    let first : a ≡ x = bit_same a x parts.0 in
    let second : b ≡ y = bit_same b y parts.1 in
    λ i. And (first i) (second i)
eq_same (Xor a b) (Xor x y) equal =
    let parts = and_parts (bit_eq a x) (bit_eq b y) equal in
    let first : a ≡ x = bit_same a x parts.0 in
    let second : b ≡ y = bit_same b y parts.1 in
    λ i. Xor (first i) (second i)
eq_same (Mux a b c) (Mux x y z) equal =
    let parts = three_parts (bit_eq a x) (bit_eq b y) (bit_eq c z) equal in
    let first : a ≡ x = bit_same a x parts.0 in
    let second : b ≡ y = bit_same b y parts.1 in
    let third : c ≡ z = bit_same c z parts.2 in
    λ i. Mux (first i) (second i) (third i)
eq_same (Majority a b c) (Majority x y z) equal =
    let parts = three_parts (bit_eq a x) (bit_eq b y) (bit_eq c z) equal in
    let first : a ≡ x = bit_same a x parts.0 in
    let second : b ≡ y = bit_same b y parts.1 in
    let third : c ≡ z = bit_same c z parts.2 in
    λ i. Majority (first i) (second i) (third i)
eq_same one other equal = absurd (false≢true equal)

-- ---- a set without the node

pub absent_from_any : (nodes : List Node) (node : Node) → list_any (eq-value.it node) nodes ≡ false → IsAbsent nodes node
absent_from_any nodes node none number found =
    let there : list_any (eq-value.it node) nodes ≡ true =
    any_passes_from_place (eq-value.it node) nodes number node found (eq_own node) in
    cc

pub found_from_position : (nodes : List Node) (node : Node) (number : ℕ) → position (eq-value.it node) nodes ≡ Some number → slice_get nodes number ≡ Some node
found_from_position nodes node number found =
    let at = position-Some (eq-value.it node) nodes number node found in
    slice_get-get_or nodes number node at.0 ∙ ap Some (sym (eq_same node (get_or nodes number node) at.1))

pub puts_from_insert : (old new : List Node) (node : Node) → new ≡ insert_key eq-value.it old node → Puts old node new
puts_from_insert old new node is = by_cases (list_any (eq-value.it node) old) refl
  where
    by_cases : (any : Bool) → list_any (eq-value.it node) old ≡ any → Puts old node new
    by_cases true there = inl (is ∙ ap (λ b. if b then old else old ++ node ∷ []) there)
    by_cases false none = inr (is ∙ ap (λ b. if b then old else old ++ node ∷ []) none, absent_from_any old node none)

pub found_from_stored : (nodes : List Node) (node stored : Node) (number : ℕ) → slice_get nodes number ≡ Some stored → eq-value.it node stored ≡ true → slice_get nodes number ≡ Some node
found_from_stored nodes node stored number found equal = found ∙ ap Some (sym (eq_same node stored equal))
