-- Bits depend on the free bits of their nodes alone.
use Rattle.std.proofs.Common.{◌≡◌, ℕ, zero, suc, ◌+◌, ◌<◌, ◌≤◌, Bool, false, List, length, get_or, Some, slice_get, refl, sym, ◌∙◌, ap, subst, arith, inl, inr, if◌then◌else◌, ◌&&◌}
use Rattle.std.proofs.lemmas.Bool.{cases_lt}
use Rattle.std.proofs.lemmas.Option.{slice_get-get_or}
use Rattle.ba_bits.specs.Bits.{AgreeBelow}
use Rattle.ba_nodes.specs.declared.Bit.{Bit}
use Rattle.ba_nodes.specs.declared.Node.{Node}
use Rattle.ba_nodes.specs.declared.Node.TheVariants.{Free, And, Xor, Mux, Majority}
use Rattle.ba_nodes.specs.Gates.{AreOrdered, IsBitOf, MayStandAt, bool_majority, bool_xor, node_truth, truth}
use Rattle.ba_nodes.proofs.Truths.{truth-constant, truth-node}

pub agree-less : (m n : ℕ) (free other : ℕ → Bool) → m ≤ n → AgreeBelow n free other → AgreeBelow m free other
agree-less m n free other le same k below = same k (omega arith)

pub agree-then : (n : ℕ) (f g h : ℕ → Bool) → AgreeBelow n f g → AgreeBelow n g h → AgreeBelow n f h
agree-then n f g h first second k below = first k below ∙ second k below

abbrev plain : Bit → Bit
plain bit = record { index = bit.index; negated = false }

truth-plain : (free : ℕ → Bool) (nodes : List Node) (bit : Bit)
    → truth free nodes bit ≡ bool_xor bit.negated (truth free nodes (plain bit))
unfolding truth
truth-plain free nodes bit = refl

module _ (nodes : List Node) (free other : ℕ → Bool) (ordered : AreOrdered nodes)
    (agree : AgreeBelow (length nodes) free other) where
  abbrev Same : ℕ → Type 0
  Same k = (bit : Bit) → bit.index ≤ k → truth free nodes bit ≡ truth other nodes bit

  node-same : (k : ℕ) (node : Node) → k < length nodes → MayStandAt k node → Same k
      → node_truth free nodes node ≡ node_truth other nodes node
  node-same k (Free own) below may same = agree own (omega arith)
  node-same k (And a b) below may same =
      let a_same = same a (omega (arith, may.1, may.2)) in
      let b_same = same b may.2 in
      λ i. a_same i && b_same i
  node-same k (Xor a b) below may same =
      let a_same = same a (omega (arith, may.1, may.2)) in
      let b_same = same b may.2 in
      λ i. bool_xor (a_same i) (b_same i)
  node-same k (Mux a b c) below may same =
      let a_same = same a may.first.1 in
      let b_same = same b may.second.1 in
      let c_same = same c may.third.1 in
      λ i. if a_same i then b_same i else c_same i
  node-same k (Majority a b c) below may same =
      let a_same = same a (omega (arith, may.1, may.2, may.3)) in
      let b_same = same b (omega (arith, may.2, may.3)) in
      let c_same = same c may.3 in
      λ i. bool_majority (a_same i) (b_same i) (c_same i)

  by-plain : (bit : Bit) → truth free nodes (plain bit) ≡ truth other nodes (plain bit)
      → truth free nodes bit ≡ truth other nodes bit
  by-plain bit same = truth-plain free nodes bit ∙ ap (bool_xor bit.negated) same
      ∙ sym (truth-plain other nodes bit)

  at-zero : (index : ℕ) → index ≡ 0 → truth free nodes (record { index = index; negated = false })
      ≡ truth other nodes (record { index = index; negated = false })
  at-zero index is = subst (λ n. truth free nodes (record { index = n; negated = false })
      ≡ truth other nodes (record { index = n; negated = false })) (sym is)
      (truth-constant free nodes false ∙ sym (truth-constant other nodes false))

  at-node : (k index : ℕ) → index ≡ k + 1 → k < length nodes → Same k
      → truth free nodes (record { index = index; negated = false })
      ≡ truth other nodes (record { index = index; negated = false })
  at-node k index is below same =
      let node : Node = get_or nodes k (Free 0) in
      let found : slice_get nodes k
      ≡ Some (get_or nodes k (Free 0)) = slice_get-get_or nodes k (Free 0) below in
      subst (λ n. truth free nodes (record { index = n; negated = false })
      ≡ truth other nodes (record { index = n; negated = false })) (sym is)
      (truth-node free nodes k node ordered found
      ∙ node-same k node below (ordered.ordered k node found) same
      ∙ sym (truth-node other nodes k node ordered found))

  up-to : (k : ℕ) → k ≤ length nodes → Same k
  up-to zero le bit small = by-plain bit (at-zero bit.index (omega arith))
  up-to (suc k) le bit small = elim (cases_lt bit.index (suc k)) [
    | inl below ↦ up-to k (omega arith) bit (omega arith)
    | inr above ↦ by-plain bit (at-node k bit.index (omega arith) (omega arith) (up-to k (omega arith)))
  ]

  -- bits have the same values if the free bits of their nodes do
  pub truth-agree : (bit : Bit) → IsBitOf nodes bit → truth free nodes bit ≡ truth other nodes bit
  truth-agree = up-to (length nodes) (omega arith)
