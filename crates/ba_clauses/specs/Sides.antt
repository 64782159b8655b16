-- The clauses of nodes, one node after the other.

use Rattle.std.specs.Prelude.{◌≡◌, ℕ, ◌-◌, ◌^◌, ◌<◌, ◌≤◌, Bool, true, false, not, ◌&&◌, ◌||◌, List, [], ◌∷◌, ◌++◌, length, Some, slice_get, slice_index, ◌⊎◌}
use Rattle.ba_nodes.specs.declared.Bit.{Bit}
use Rattle.ba_nodes.specs.declared.Node.{Node}
use Rattle.ba_nodes.specs.declared.Node.TheVariants.{Free, And, Xor, Mux, Majority}
use Rattle.ba_nodes.specs.Gates.{truth, node_bit, AreOrdered}
use Rattle.ba_lits.specs.Formulas.{Cnf}
use Rattle.ba_lits.specs.Literals.{Literal}
use Rattle.ba_lits.specs.Satisfaction.{Assignment, any_true, all_true}
use Rattle.ba_clauses.specs.declared.uses.Use.{Use}
use Rattle.ba_clauses.specs.Clauses.{literal_value}
use Rattle.ba_clauses.specs.Uses.{use_at, node_side, is_implied, is_asked, is_used, IsServed, IsPassedOn}

-- nodes in order, each of whose needs is passed on to its operands
pub record ArePassedOn (nodes : List Node) (uses : List Use) : Type 0 where
  pub ordered : AreOrdered nodes
  pub small : length nodes < 2 ^ 32
  pub size : length uses ≡ length nodes
  pub passed : (number : ℕ) (node : Node) → slice_get nodes number ≡ Some node → IsPassedOn uses number node

-- the node is an `and`
abbrev pub is_and : Node → Bool
is_and (Free own) = false
is_and (And a b) = true
is_and (Xor a b) = false
is_and (Mux a b c) = false
is_and (Majority a b c) = false

-- the node has a variable: it is used, and it is no `and` that is merged into another
abbrev pub has_variable : Node → Use → Bool
has_variable (Free number) own = is_used own
has_variable (And a b) own = (own.positive || own.negative) && not own.merged
has_variable (Xor a b) own = own.positive || own.negative
has_variable (Mux a b c) own = own.positive || own.negative
has_variable (Majority a b c) own = own.positive || own.negative

-- what an `and` merges: another `and` without negation, used there alone
abbrev pub is_taken_in : Bit → Node → Use → Bool
is_taken_in bit node own = (not bit.negated && own.merged) && is_and node

-- the node of the bit has a variable
abbrev pub IsNamed : List Node → List Use → Bit → Type 0
IsNamed nodes uses bit = (node : Node) → slice_get nodes (bit.index - 1) ≡ Some node →
    has_variable node (use_at uses (bit.index - 1)) ≡ true

-- a conjunct of the `and` of this number that is not merged; `positive` and `negative` tell the sides of the
-- `and` that are needed
pub record IsConjunct (uses : List Use) (number : ℕ) (positive negative : Bool) (bit : Bit) : Type 0 where
  pub served : IsServed uses bit positive negative true
  pub earlier : bit.index ≤ number

-- a conjunct that is not merged, and whose node has a variable
pub record IsLeaf (nodes : List Node) (uses : List Use) (number : ℕ) (positive negative : Bool) (bit : Bit)
    : Type 0 where
  pub conjunct : IsConjunct uses number positive negative bit
  pub named : IsNamed nodes uses bit

-- A conjunct is merged and replaced by its operands, or it is found.
pub data Expands (nodes : List Node) (uses : List Use) (bit : Bit) (left found later more : List Bit) :
    Type 0 where
  stays : ((node : Node) → slice_get nodes (bit.index - 1) ≡ Some node →
      is_taken_in bit node (use_at uses (bit.index - 1)) ≡ false) →
      later ≡ left → more ≡ found ++ bit ∷ [] → Expands nodes uses bit left found later more
  taken : (first second : Bit) → bit.negated ≡ false →
      slice_get nodes (bit.index - 1) ≡ Some (And first second) →
      later ≡ (left ++ second ∷ []) ++ first ∷ [] → more ≡ found →
      Expands nodes uses bit left found later more

-- the bit names one of the nodes
pub record IsOfNode (nodes : List Node) (bit : Bit) : Type 0 where
  pub node : 0 < bit.index
  pub among : bit.index ≤ length nodes

-- An operand of the gate of this number. Its literal implies it, since it is free, or an earlier node of
-- which that is needed.
pub record IsOperand (nodes : List Node) (uses : List Use) (number : ℕ) (bit : Bit) : Type 0 where
  pub node : 0 < bit.index
  pub among : bit.index ≤ length nodes
  pub named : IsNamed nodes uses bit
  pub implied : (slice_get nodes (bit.index - 1) ≡ Some (Free (bit.index - 1))) ⊎
      ((bit.index ≤ number) × (is_implied (use_at uses (bit.index - 1)) bit.negated ≡ true))

-- different variables for those of the first nodes that have one; any values of the nodes are those of an
-- assignment
pub record IsNumbering (nodes : List Node) (uses : List Use) (variables : List ℕ) (bound : ℕ) : Type 0 where
  pub among : length variables ≤ length nodes
  pub named : (number : ℕ) (node : Node) → number < length variables → slice_get nodes number ≡ Some node →
      has_variable node (use_at uses number) ≡ true → 1 ≤ slice_index variables number
  pub within : (number : ℕ) → slice_index variables number ≤ bound
  pub assigns : (values : ℕ → Bool) →
      (v : Assignment) × ((number : ℕ) → 1 ≤ slice_index variables number →
      v (slice_index variables number) ≡ values number)

-- the next variable of a formula, or 0
pub record IsNext (old new : Cnf) (named : Bool) (variable : ℕ) : Type 0 where
  pub clauses : new.clauses ≡ old.clauses
  pub grows : old.variables ≤ new.variables
  pub counted : named ≡ true → 1 ≤ variable
  pub fresh : 1 ≤ variable → old.variables < variable
  pub within : variable ≤ new.variables

-- the free bits by an assignment of the variables
abbrev pub free_of : List ℕ → Assignment → ℕ → Bool
free_of variables v number = v (slice_index variables number)

-- each variable has the value of its node
abbrev pub Follows : List Node → List ℕ → (ℕ → Bool) → Assignment → Type 0
Follows nodes variables free v =
    (number : ℕ) → 1 ≤ slice_index variables number →
    v (slice_index variables number) ≡ truth free nodes (node_bit number)

-- the sides of a node that must be true are true
abbrev pub IsAskedTrue : List Node → List Use → (ℕ → Bool) → ℕ → Type 0
IsAskedTrue nodes uses free number =
    (negated : Bool) → is_asked (use_at uses number) negated ≡ true →
    truth free nodes (node_side number negated) ≡ true

-- the sides of a node that are implied by their literals are true if these are
abbrev pub IsImpliedTrue : List Node → List Use → List ℕ → Assignment → ℕ → Type 0
IsImpliedTrue nodes uses variables v number =
    (negated : Bool) → is_implied (use_at uses number) negated ≡ true → 1 ≤ slice_index variables number →
    literal_value variables v (node_side number negated) ≡ true →
    truth (free_of variables v) nodes (node_side number negated) ≡ true

-- what is asked of a node and what is implied of it hold in the model
pub record IsSound (nodes : List Node) (uses : List Use) (variables : List ℕ) (v : Assignment) (number : ℕ)
    : Type 0 where
  pub asked : IsAskedTrue nodes uses (free_of variables v) number
  pub implied : IsImpliedTrue nodes uses variables v number

-- the same of all nodes below `count`
abbrev pub AreSound : List Node → List Use → List ℕ → Assignment → ℕ → Type 0
AreSound nodes uses variables v count = (number : ℕ) → number < count → IsSound nodes uses variables v number

-- clauses were added that hold if the variables follow the nodes; they say something of the node if earlier
-- nodes are sound
pub record Tells (nodes : List Node) (uses : List Use) (variables : List ℕ) (number : ℕ) (old new : Cnf)
    (says : Assignment → Type 0) (asks : (ℕ → Bool) → Assignment → Type 0) : Type 0 where
  pub variables_stay : new.variables ≡ old.variables
  pub back : (v : Assignment) → all_true v new.clauses ≡ true →
      (all_true v old.clauses ≡ true) × (AreSound nodes uses variables v number → says v)
  pub forth : (free : ℕ → Bool) (v : Assignment) → Follows nodes variables free v → asks free v →
      all_true v old.clauses ≡ true →
      all_true v new.clauses ≡ true

-- a literal of the head is true, or the bit
abbrev pub HeadOrBit : List Node → List Literal → Bit → (ℕ → Bool) → Assignment → Type 0
HeadOrBit nodes head bit free v = (any_true v head || truth free nodes bit) ≡ true

-- all clauses of the first nodes
pub record TellsUpTo (nodes : List Node) (uses : List Use) (variables : List ℕ) (count : ℕ) (old new : Cnf)
    : Type 0 where
  pub variables_stay : new.variables ≡ old.variables
  pub back : (v : Assignment) → all_true v new.clauses ≡ true →
      (all_true v old.clauses ≡ true) × AreSound nodes uses variables v count
  pub forth : (free : ℕ → Bool) (v : Assignment) → Follows nodes variables free v → ((number : ℕ) →
      IsAskedTrue nodes uses free number) →
      all_true v old.clauses ≡ true → all_true v new.clauses ≡ true
