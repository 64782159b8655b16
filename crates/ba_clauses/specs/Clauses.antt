-- The meaning of added clauses.

use Rattle.std.specs.Prelude.{◌≡◌, ℕ, ◌+◌, ◌-◌, ◌*◌, ◌<◌, ◌≤◌, length, Bool, true, false, ◌&&◌, ◌||◌, List, [], ◌∷◌, slice_index, if◌then◌else◌}
use Rattle.ba_nodes.specs.declared.Bit.{Bit}
use Rattle.ba_nodes.specs.Gates.{bool_xor, bool_majority, opposite}
use Rattle.ba_lits.specs.Formulas.{Cnf}
use Rattle.ba_lits.specs.Literals.{Literal, literal_at}
use Rattle.ba_lits.specs.Satisfaction.{Assignment, lit_true, all_true}
use Rattle.ba_clauses.specs.declared.gates.Gate.{Gate}
use Rattle.ba_clauses.specs.declared.gates.Gate.TheVariants.{All, Any, Xor, Mux, Majority}

-- clauses were added that hold if a test does
pub record Adds (old new : Cnf) (says : Assignment → Bool) : Type 0 where
  pub variables : new.variables ≡ old.variables
  pub holds : (v : Assignment) → all_true v new.clauses ≡ (all_true v old.clauses && says v)

-- all of the bits, or one of them, have the value true
abbrev pub all_of : (Bit → Bool) → List Bit → Bool
all_of value [] = true
all_of value (bit ∷ bits) = value bit && all_of value bits

-- some bit is true
abbrev pub any_of : (Bit → Bool) → List Bit → Bool
any_of value [] = false
any_of value (bit ∷ bits) = value bit || any_of value bits

-- the value of a gate by those of its bits
abbrev pub gate_value : (Bit → Bool) → Gate → Bool
gate_value value (All bits) = all_of value bits.items
gate_value value (Any bits) = any_of value bits.items
gate_value value (Xor a b) = bool_xor (value a) (value b)
gate_value value (Mux a b c) = if value a then value b else value c
gate_value value (Majority a b c) = bool_majority (value a) (value b) (value c)

-- the bits with which a gate's value rises; the opposites too, if it may also fall
abbrev pub operands_of : Gate → List Bit
operands_of (All bits) = bits.items
operands_of (Any bits) = bits.items
operands_of (Xor a b) = a ∷ opposite a ∷ b ∷ opposite b ∷ []
operands_of (Mux a b c) = a ∷ opposite a ∷ b ∷ c ∷ []
operands_of (Majority a b c) = a ∷ b ∷ c ∷ []

-- the literal of a bit, by the variables of the nodes, and its value
abbrev pub literal_of : List ℕ → Bit → Literal
literal_of variables bit = record { variable = slice_index variables (bit.index - 1); negated = bit.negated }

-- the value of a bit by the model
abbrev pub literal_value : List ℕ → Assignment → Bit → Bool
literal_value variables v bit = lit_true v (literal_of variables bit)

-- the literal is one of these variables, or the negation of one
pub record IsLiteralOf (bound : ℕ) (lit : Literal) : Type 0 where
  pub counted : 1 ≤ lit.variable
  pub within : lit.variable ≤ bound

-- the bit's node has one of these variables
pub record HasVariable (variables : List ℕ) (bound : ℕ) (bit : Bit) : Type 0 where
  pub node : 0 < bit.index
  pub numbered : bit.index ≤ length variables
  pub literal : IsLiteralOf bound (literal_of variables bit)

-- the index of such a literal
pub record IsCodeOf (bound code : ℕ) : Type 0 where
  pub low : 2 ≤ code
  pub high : code ≤ 2 * bound + 1

-- the literal of an index
abbrev pub code_true : Assignment → ℕ → Bool
code_true v code = lit_true v (literal_at code)
