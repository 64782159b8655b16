-- What a node that is put among others, or found there, leaves.

use Rattle.std.proofs.Common.{is_some, Result, Ok, Err, IfOk, ◌≡◌, ℕ, ◌+◌, ◌<◌, Bool, true, false, nat_lt, List, [], ◌∷◌, length, Some, None, Option, IsNone, slice_get, if◌then◌else◌, inl, inr, sym, ap, subst, ◌∙◌, arith}
use Rattle.std.proofs.lemmas.Bool.Decides.{nat_tests}
use Rattle.std.proofs.lemmas.List.{length_push}
use Rattle.std.proofs.lemmas.Option.{slice_get_within}
use Rattle.std.specs.declared.alloc.AllocError.{AllocError}
use Rattle.ba_nodes.specs.declared.Bit.{Bit}
use Rattle.ba_nodes.specs.declared.Node.{Node}
use Rattle.ba_nodes.specs.declared.Node.TheVariants.{Free, And}
use Rattle.ba_nodes.specs.Gates.{node_bit, node_truth, weight, gates_in, MayStandAt, AreOrdered, Puts, Extends, Grows, HasValue, IsGateOf, folded, IsMade}
use Rattle.ba_nodes.proofs.Folding.{folded_turned}
use Rattle.ba_nodes.proofs.Truths.{truth-node, node_truth-append, Extends_refl, Extends-append, AreOrdered-push, gates-push}

pub added_ordered : (old new : List Node) (node : Node) → AreOrdered old → MayStandAt (length old) node → Puts old node new → AreOrdered new
added_ordered old new node sound may puts =
    elim puts [
      | inl same ↦ subst AreOrdered (sym same) sound
      | inr more ↦ subst AreOrdered (sym more.0) (AreOrdered-push old node sound may more.1)
    ]

pub added_extends : (old new : List Node) (node : Node) → Puts old node new → Extends old new
added_extends old new node puts =
    elim puts [
      | inl same ↦ subst (λ nodes. Extends old nodes) (sym same) (Extends_refl old)
      | inr more ↦ subst (λ nodes. Extends old nodes) (sym more.0) (Extends-append old (node ∷ []))
    ]

node_truth_kept : (free : ℕ → Bool) (old new : List Node) (node : Node) → MayStandAt (length old) node → Puts old node new → node_truth free new node ≡ node_truth free old node
node_truth_kept free old new node may puts =
    elim puts [
      | inl same ↦ ap (λ nodes. node_truth free nodes node) same
      | inr more ↦ ap (λ nodes. node_truth free nodes node) more.0 ∙ node_truth-append free old (node ∷ []) node may
    ]

pub added_value : (old new : List Node) (node : Node) (number : ℕ) → AreOrdered old → MayStandAt (length old) node → Puts old node new → slice_get new number ≡ Some node → HasValue new (node_bit number) (λ free. node_truth free old node)
added_value old new node number sound may puts found =
    record {
      is_bit = omega (arith, slice_get_within new number node found);
      holds = λ free. truth-node free new number node (added_ordered old new node sound may puts) found ∙ node_truth_kept free old new node may puts;
    }

pub added_before : (old new : List Node) (node : Node) (number known : ℕ) → AreOrdered old → Puts old node new → slice_get new number ≡ Some node → slice_get old known ≡ Some node → (number ≡ known) × (new ≡ old)
added_before old new node number known sound puts found before =
    elim puts [
      | inl same ↦ (sound.distinct number known node (sym (ap (λ nodes. slice_get nodes number) same) ∙ found) before, same)
      | inr more ↦ absurd (more.1 known before)
    ]

-- a node is counted if the list grew
pub added_gates : (old new : List Node) (node : Node) (count more : ℕ) → Puts old node new → count ≡ gates_in old → more ≡ (if nat_lt (length old) (length new) then weight node else 0) → count + more ≡ gates_in new
added_gates old new node count more puts counted is =
    elim puts [
      | inl same ↦
          let as_long : nat_lt (length old) (length new) ≡ false = grind (arith, nat_tests, ap length same) in
          let none : more ≡ 0 = is ∙ ap (λ b. if b then weight node else 0) as_long in
          omega (arith, counted, ap gates_in same)
      | inr longer ↦
          let grown : nat_lt (length old) (length new) ≡ true = grind (arith, nat_tests, ap length longer.0, length_push old node) in
          let one : more ≡ weight node = is ∙ ap (λ b. if b then weight node else 0) grown in
          ap (λ n. n + more) counted ∙ ap (λ n. gates_in old + n) one ∙ sym (gates-push old node) ∙ sym (ap gates_in longer.0)
    ]

pub added_grows : (old new : List Node) (node : Node) → Puts old node new → Grows old new (weight node)
added_grows old new node puts = record {
  extends = added_extends old new node puts;
  count = elim puts [ inl same ↦ omega (arith, ap gates_in same) | inr more ↦ omega (arith, ap gates_in more.0, gates-push old node) ];
}

-- a free bit has the number at which it stands
pub added_free : (old new : List Node) (bit : Bit) → AreOrdered new → ((number : ℕ) × (bit ≡ node_bit number) × (slice_get new number ≡ Some (Free (length old)))) → bit ≡ node_bit (length old)
added_free old new bit sound found = found.1 ∙ ap node_bit (sym (sound.ordered found.0 (Free (length old)) found.2))

pub free_gates : (old new : List Node) → Puts old (Free (length old)) new → gates_in new ≡ gates_in old
free_gates old new puts =
    elim puts [ inl same ↦ ap gates_in same | inr more ↦ ap gates_in more.0 ∙ gates-push old (Free (length old)) ∙ omega arith ]

-- a gate is in one order of its bits
pub gate_in_order : (old new : List Node) (number : ℕ) (a b : Bit) → Extends old new → AreOrdered new → a.index < b.index → IsGateOf old number a b → slice_get old number ≡ Some (And a b)
gate_in_order old new number a b extends sound below gate =
    elim gate [
      | inl here ↦ here
      | inr turned ↦
          let there = extends.stays number (slice_get_within old number (And b a) turned) ∙ turned in
          let may = sound.ordered number (And b a) there in
          absurd (omega (arith, may.1))
    ]

pub gate_turned : (nodes : List Node) (number : ℕ) (a b : Bit) → IsGateOf nodes number a b → IsGateOf nodes number b a
gate_turned nodes number a b gate = elim gate [ inl here ↦ inr here | inr here ↦ inl here ]

pub gates_stay : (old new : List Node) (number : ℕ) (a b : Bit) → Extends old new → IsGateOf old number a b → IsGateOf new number a b
gates_stay old new number a b extends gate =
    elim gate [
      | inl here ↦ inl (extends.stays number (slice_get_within old number (And a b) here) ∙ here)
      | inr here ↦ inr (extends.stays number (slice_get_within old number (And b a) here) ∙ here)
    ]

-- ---- pairs that were made

pub made_folded : (nodes : List Node) (a b bit : Bit) → folded a b ≡ Some bit → IsMade nodes a b bit
unfolding IsMade
made_folded nodes a b bit is = inl is

pub made_gate : (nodes : List Node) (a b bit : Bit) → IsNone (folded a b) → ((number : ℕ) × (bit ≡ node_bit number) × IsGateOf nodes number a b) → IsMade nodes a b bit
unfolding IsMade
made_gate nodes a b bit needed gate = inr (needed, gate)

pub made_before : (nodes : List Node) (a b bit : Bit) → IsNone (folded a b) → IsMade nodes a b bit → (number : ℕ) × (bit ≡ node_bit number) × IsGateOf nodes number a b
unfolding IsMade
made_before nodes a b bit needed made = elim made [ inl settled ↦ absurd (unneeded (folded a b) bit needed settled) | inr gate ↦ gate.1 ]
  where
    unneeded : (found : Option Bit) (bit : Bit) → IsNone found → found ≡ Some bit → ⊥
    unneeded None bit none is = absurd (cc)
    unneeded (Some other) bit none is = absurd (cc)

pub made_settled : (nodes : List Node) (a b bit known : Bit) → folded a b ≡ Some known → IsMade nodes a b bit → bit ≡ known
unfolding IsMade
made_settled nodes a b bit known is made = elim made [ inl settled ↦ cc | inr gate ↦ absurd (needless (folded a b) gate.0 is) ]
  where
    needless : (found : Option Bit) → IsNone found → found ≡ Some known → ⊥
    needless None none is = absurd (cc)
    needless (Some other) none is = absurd (cc)

pub made_stays : (old new : List Node) (a b bit : Bit) → Extends old new → IsMade old a b bit → IsMade new a b bit
unfolding IsMade
made_stays old new a b bit extends made =
    elim made [ inl settled ↦ inl settled | inr gate ↦ inr (gate.0, (gate.1.0, gate.1.1, gates_stay old new gate.1.0 a b extends gate.1.2)) ]

pub all_made : (nodes : List Node) (a b : Bit) (result : Result Bit AllocError) → IsNone (folded a b) → IfOk result (λ bit. (number : ℕ) × (bit ≡ node_bit number) × IsGateOf nodes number a b) → IfOk result (IsMade nodes a b)
all_made nodes a b (Ok bit) needed gate = made_gate nodes a b bit needed gate
all_made nodes a b (Err error) needed gate = tt

pub made_turned : (nodes : List Node) (a b bit : Bit) → IsMade nodes a b bit → IsMade nodes b a bit
unfolding IsMade
made_turned nodes a b bit made = elim made [
  | inl settled ↦ inl (sym (folded_turned a b) ∙ settled)
  | inr gate ↦ inr (ap is_some (sym (folded_turned a b)) ∙ gate.0, (gate.1.0, gate.1.1, gate_turned nodes gate.1.0 a b gate.1.2))
]
