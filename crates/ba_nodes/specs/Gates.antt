-- Gates over free bits, and their truth values. Under each assignment of the free bits every node and every
-- bit has a truth value. An assignment gives a free bit its value by the number of its node.

use Rattle.std.specs.Prelude.{◌≡◌, ℕ, ◌+◌, ◌<◌, ◌≤◌, ◌==◌, Bool, true, false, not, ◌&&◌, ◌||◌, ◌≢◌, List, [], ◌∷◌, ◌++◌, length, fold, Option, Some, None, slice_get, slice_index_or, sum_by, if◌then◌else◌, ◌⊎◌, IsNone, Result, IfOk}
use Rattle.std.specs.declared.alloc.AllocError.{AllocError}
use Rattle.ba_nodes.specs.declared.Bit.{Bit}
use Rattle.ba_nodes.specs.declared.Node.{Node}
use Rattle.ba_nodes.specs.declared.Node.TheVariants.{Free, And, Xor, Mux, Majority}

-- one of the two, and not both
abbrev pub bool_xor : Bool → Bool → Bool
bool_xor true b = not b
bool_xor false b = b

-- the value of at least two of the three
abbrev pub bool_majority : Bool → Bool → Bool → Bool
bool_majority true b c = b || c
bool_majority false b c = b && c

-- the bit that always has this value
abbrev pub constant_bit : Bool → Bit
constant_bit value = record { index = 0; negated = value }

-- the bit of the node of this number
abbrev pub node_bit : ℕ → Bit
node_bit number = record { index = number + 1; negated = false }

-- the other value of a bit
abbrev pub opposite : Bit → Bit
opposite bit = record { index = bit.index; negated = not bit.negated }

-- the value of a bit, by the values of the constant and of the nodes in their order
abbrev pub value_in : List Bool → Bit → Bool
value_in values bit = bool_xor bit.negated (slice_index_or values bit.index false)

-- the value of a node, by those of the earlier nodes
abbrev pub node_value : (ℕ → Bool) → List Bool → Node → Bool
node_value free values (Free number) = free number
node_value free values (And a b) = value_in values a && value_in values b
node_value free values (Xor a b) = bool_xor (value_in values a) (value_in values b)
node_value free values (Mux a b c) = if value_in values a then value_in values b else value_in values c
node_value free values (Majority a b c) = bool_majority (value_in values a) (value_in values b) (value_in values c)

-- the value of the constant, false, and then those of the nodes
unfoldable pub values_of : (ℕ → Bool) → List Node → List Bool
values_of free nodes = fold (λ values node. values ++ node_value free values node ∷ []) (false ∷ []) nodes

-- the truth value of a bit under an assignment of the free bits
unfoldable pub truth : (ℕ → Bool) → List Node → Bit → Bool
truth free nodes bit = value_in (values_of free nodes) bit

-- the truth value of a node by those of the bits that it names
abbrev pub node_truth : (ℕ → Bool) → List Node → Node → Bool
node_truth free nodes (Free number) = free number
node_truth free nodes (And a b) = truth free nodes a && truth free nodes b
node_truth free nodes (Xor a b) = bool_xor (truth free nodes a) (truth free nodes b)
node_truth free nodes (Mux a b c) = if truth free nodes a then truth free nodes b else truth free nodes c
node_truth free nodes (Majority a b c) = bool_majority (truth free nodes a) (truth free nodes b) (truth free nodes c)

-- the bit is the constant or of one of the nodes
abbrev pub IsBitOf : List Node → Bit → Type 0
IsBitOf nodes bit = bit.index ≤ length nodes

-- how many and-gates a node counts as
abbrev pub weight : Node → ℕ
weight (Free number) = 0
weight (And a b) = 1
weight (Xor a b) = 3
weight (Mux a b c) = 3
weight (Majority a b c) = 3

-- gates, counted as and-gates
abbrev pub gates_in : List Node → ℕ
gates_in nodes = sum_by weight nodes

-- three bits of different nodes before this number
pub record AreApart (number : ℕ) (a b c : Bit) : Type 0 where
  pub first : (0 < a.index) × (a.index ≤ number)
  pub second : (0 < b.index) × (b.index ≤ number)
  pub third : (0 < c.index) × (c.index ≤ number)
  pub first_second : a.index ≢ b.index
  pub first_third : a.index ≢ c.index
  pub second_third : b.index ≢ c.index

-- A node may have this number. A free bit names itself. A gate names different earlier nodes, in ascending
-- order if the order of its bits is free.
abbrev pub MayStandAt : ℕ → Node → Type 0
MayStandAt number (Free own) = own ≡ number
MayStandAt number (And a b) = (0 < a.index) × (a.index < b.index) × (b.index ≤ number)
MayStandAt number (Xor a b) = (0 < a.index) × (a.index < b.index) × (b.index ≤ number)
MayStandAt number (Mux a b c) = AreApart number a b c
MayStandAt number (Majority a b c) = (0 < a.index) × (a.index < b.index) × (b.index < c.index) × (c.index ≤ number)

-- each node is after the nodes that it names, and no two nodes are the same
pub record AreOrdered (nodes : List Node) : Type 0 where
  pub ordered : (number : ℕ) (node : Node) → slice_get nodes number ≡ Some node → MayStandAt number node
  pub distinct : (number other : ℕ) (node : Node) → slice_get nodes number ≡ Some node → slice_get nodes other ≡ Some node → number ≡ other

-- the node of this number is the gate of these two bits, in either order
abbrev pub IsGateOf : List Node → ℕ → Bit → Bit → Type 0
IsGateOf nodes number a b = (slice_get nodes number ≡ Some (And a b)) ⊎ (slice_get nodes number ≡ Some (And b a))

-- the bit of an `and` that needs no gate: of a constant, or of equal or opposite bits
abbrev pub folded : Bit → Bit → Option Bit
folded a b =
    if a.index == 0 then Some (if a.negated then b else a)
    else if b.index == 0 then Some (if b.negated then a else b)
    else if a.index == b.index then Some (if bool_xor a.negated b.negated then constant_bit false else a)
    else None

-- the bit is the `and` of two bits among these nodes, with a gate or without
unfoldable pub IsMade : List Node → Bit → Bit → Bit → Type 0
IsMade nodes a b bit = (folded a b ≡ Some bit) ⊎ (IsNone (folded a b) × ((number : ℕ) × (bit ≡ node_bit number) × IsGateOf nodes number a b))

-- new nodes were added, and every old bit has its old value
pub record Extends (old new : List Node) : Type 0 where
  pub grows : length old ≤ length new
  pub stays : (number : ℕ) → number < length old → slice_get new number ≡ slice_get old number
  pub keeps : (free : ℕ → Bool) (bit : Bit) → IsBitOf old bit → truth free new bit ≡ truth free old bit

-- nodes were added that count as at most this many gates
pub record Grows (old new : List Node) (gates : ℕ) : Type 0 where
  pub extends : Extends old new
  pub count : gates_in new ≤ gates_in old + gates

-- a bit of these nodes has this value under each assignment
pub record HasValue (nodes : List Node) (bit : Bit) (value : (ℕ → Bool) → Bool) : Type 0 where
  pub is_bit : IsBitOf nodes bit
  pub holds : (free : ℕ → Bool) → truth free nodes bit ≡ value free

-- a call gives a bit of this value, by at most this many gates, also if memory runs out
pub record MakesBit (old new : List Node) (result : Result Bit AllocError) (gates : ℕ) (meaning : (ℕ → Bool) → Bool) : Type 0 where
  pub value : IfOk result (λ bit. HasValue new bit meaning)
  pub grows : Grows old new gates

-- no node of the list is this one
abbrev pub IsAbsent : List Node → Node → Type 0
IsAbsent nodes node = (number : ℕ) → slice_get nodes number ≡ Some node → ⊥

-- the node was among them, or was added at the end
abbrev pub Puts : List Node → Node → List Node → Type 0
Puts old node new = (new ≡ old) ⊎ ((new ≡ old ++ node ∷ []) × IsAbsent old node)
