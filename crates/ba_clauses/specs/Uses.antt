-- The needs of nodes: what is needed of a gate is needed of its operands.

use Rattle.std.specs.Prelude.{◌≡◌, ℕ, ◌+◌, ◌-◌, ◌<◌, ◌≤◌, Bool, true, false, not, ◌&&◌, ◌||◌, List, length, Some, slice_get, slice_index_or, All, Contains, ◌⊎◌}
use Rattle.ba_nodes.specs.declared.Bit.{Bit}
use Rattle.ba_nodes.specs.declared.Node.{Node}
use Rattle.ba_nodes.specs.declared.Node.TheVariants.{Free, And, Xor, Mux, Majority}
use Rattle.ba_nodes.specs.Gates.{truth}
use Rattle.ba_clauses.specs.Encodings.{all_hold}
use Rattle.ba_clauses.specs.declared.uses.Use.{Use}

-- a node that nothing needs
abbrev pub no_use : Use
no_use = record { positive = false; negative = false; required = false; refused = false; merged = false }

-- what is needed of the node of a number
abbrev pub use_at : List Use → ℕ → Use
use_at uses number = slice_index_or uses number no_use

-- the node's bit, or its negation
abbrev pub node_side : ℕ → Bool → Bit
node_side number negated = record { index = number + 1; negated = negated }

-- the bit is true if its literal is
abbrev pub is_implied : Use → Bool → Bool
is_implied own false = own.positive
is_implied own true = own.negative

-- the bit must be true
abbrev pub is_asked : Use → Bool → Bool
is_asked own false = own.required
is_asked own true = own.refused

-- the clauses of this direction are needed
abbrev pub is_side : Use → Bool → Bool
is_side own negated = is_implied own negated || is_asked own negated

-- something needs the node
abbrev pub is_used : Use → Bool
is_used own = ((own.positive || own.negative) || own.required) || own.refused

-- the use of a node whose bit, negated or not, must be true
abbrev pub with_asked : Use → Bool → Use
with_asked own false = record own { required = true; merged = false }
with_asked own true = record own { refused = true; merged = false }

-- the use of a node that is an operand of one more gate
abbrev pub with_operand : Use → Bool → Bool → Bool → Bool → Use
with_operand own false positive negative conjunct =
    record own {
      positive = own.positive || positive;
      negative = own.negative || negative;
      merged =
          conjunct && not (is_used own);
    }
with_operand own true positive negative conjunct =
    record own { positive = own.positive || negative; negative = own.negative || positive; merged = false }

-- An operand's literal implies the operand, and its negation's literal the negation, as far as needed. The
-- operand is merged only as a conjunct without negation.
pub record IsServed (uses : List Use) (bit : Bit) (positive negative conjunct : Bool) : Type 0 where
  pub node : 0 < bit.index
  pub among : bit.index ≤ length uses
  pub same : positive ≡ true → is_implied (use_at uses (bit.index - 1)) bit.negated ≡ true
  pub other : negative ≡ true → is_implied (use_at uses (bit.index - 1)) (not bit.negated) ≡ true
  pub merges : (use_at uses (bit.index - 1)).merged ≡ true → (conjunct ≡ true) × (bit.negated ≡ false)

-- each operand is needed as far as the sides of its gate are
abbrev pub AreServed : List Use → Node → Bool → Bool → Type 0
AreServed uses (Free own) positive negative = Unit {0}
AreServed uses (And a b) positive negative = IsServed uses a positive negative true × IsServed uses b
    positive negative true
AreServed uses (Xor a b) positive negative = IsServed uses a true true false × IsServed uses b true true false
AreServed uses (Mux a b c) positive negative =
    IsServed uses a true true false × IsServed uses b positive negative false × IsServed uses c positive
    negative false
AreServed uses (Majority a b c) positive negative =
    IsServed uses a positive negative false × IsServed uses b positive negative false × IsServed uses c
    positive negative false

-- if a node is needed, so are its operands in the directions that its clauses need
abbrev pub IsPassedOn : List Use → ℕ → Node → Type 0
IsPassedOn uses number node =
    (is_side (use_at uses number) false || is_side (use_at uses number) true) ≡ true →
    AreServed uses node (is_side (use_at uses number) false) (is_side (use_at uses number) true)

-- at least as much is needed of a node; a node in use is not merged later
pub record NeedsMore (old new : Use) : Type 0 where
  pub implied : (negated : Bool) → is_implied old negated ≡ true → is_implied new negated ≡ true
  pub asked : (negated : Bool) → is_asked new negated ≡ is_asked old negated
  pub merged : is_used old ≡ true → new.merged ≡ true → old.merged ≡ true

-- more may be needed of the nodes below a number, and the same of all others
pub record NeedMoreBelow (number : ℕ) (old new : List Use) : Type 0 where
  pub size : length new ≡ length old
  pub stays : (k : ℕ) → number ≤ k → use_at new k ≡ use_at old k
  pub more : (k : ℕ) → NeedsMore (use_at old k) (use_at new k)

-- what must be true is true if the required bits are
abbrev pub AreAsked : List Node → List Bit → List Use → Type 0
AreAsked nodes required uses = (free : ℕ → Bool) → all_hold free nodes required ≡ true →
    (number : ℕ) (negated : Bool) →
    is_asked (use_at uses number) negated ≡ true → truth free nodes (node_side number negated) ≡ true

-- the bit is asked for, if it is no constant
abbrev pub IsAsked : List Use → Bit → Type 0
IsAsked uses bit = 0 < bit.index → is_asked (use_at uses (bit.index - 1)) bit.negated ≡ true

-- some bits are asked for besides what was asked for before
pub record Asks (bits : List Bit) (old new : List Use) : Type 0 where
  pub size : length new ≡ length old
  pub keeps : (number : ℕ) (negated : Bool) → is_asked (use_at old number) negated ≡ true →
      is_asked (use_at new number) negated ≡ true
  pub only : (number : ℕ) (negated : Bool) → is_asked (use_at new number) negated ≡ true →
      (is_asked (use_at old number) negated ≡ true) ⊎ Contains bits (node_side number negated)
  pub all_asked : All (IsAsked new) bits

-- both sides of the bit are implied, if it is no constant, and it is not merged
abbrev pub IsRead : List Use → Bit → Type 0
IsRead uses bit = 0 < bit.index → IsServed uses bit true true false

-- the needs of all nodes
pub record AreUses (nodes : List Node) (required read : List Bit) (uses : List Use) : Type 0 where
  pub size : length uses ≡ length nodes
  pub asked : AreAsked nodes required uses
  pub all_asked : All (IsAsked uses) required
  pub all_read : All (IsRead uses) read
  pub passed : (number : ℕ) (node : Node) → slice_get nodes number ≡ Some node → IsPassedOn uses number node
