-- Formulas that encode bits of gates.

use Rattle.std.specs.Prelude.{◌≡◌, ℕ, ◌<◌, ◌≤◌, ◌==◌, Bool, true, not, ◌&&◌, List, [], ◌∷◌, map, Contains, if◌then◌else◌}
use Rattle.ba_nodes.specs.declared.Bit.{Bit}
use Rattle.ba_nodes.specs.declared.Node.{Node}
use Rattle.ba_nodes.specs.Gates.{truth}
use Rattle.ba_lits.specs.Formulas.{Cnf}
use Rattle.ba_lits.specs.Satisfaction.{Assignment, lit_true, all_true}
use Rattle.ba_clauses.specs.declared.encoding.Reading.{Reading}
use Rattle.ba_clauses.specs.declared.encoding.Reading.TheVariants.{Constant, Variable}

-- each of the bits is true if the free bits have these values
abbrev pub all_hold : (ℕ → Bool) → List Node → List Bit → Bool
all_hold free nodes [] = true
all_hold free nodes (bit ∷ bits) = truth free nodes bit && all_hold free nodes bits

-- the constant that is false
abbrev pub is_false : Bit → Bool
is_false bit = (bit.index == 0) && not bit.negated

-- the value of a bit with this reading under an assignment of the variables
abbrev pub value_read : Assignment → Reading → Bool
value_read v (Constant value) = value
value_read v (Variable lit) = lit_true v lit

-- the reading of a bit, by the variable of each index of bits
abbrev pub reading_by : (ℕ → ℕ) → Bit → Reading
reading_by variable_of bit =
    if bit.index == 0 then Constant bit.negated else Variable (record {
      variable = variable_of bit.index;
      negated = bit.negated;
    })

-- under assignments of the variables and of the free bits, the readings have the values of the bits
abbrev pub AreRead : (ℕ → Bool) → List Node → List Bit → Assignment → List Reading → Type 0
AreRead free nodes read v readings = map (value_read v) readings ≡ map (truth free nodes) read

-- The models of a formula are the assignments of the free bits under which all required bits are true. The
-- bits that are read have the values of their readings. Different nodes are read by different variables.
pub record IsEncoding (nodes : List Node) (required read : List Bit) (formula : Cnf)
    (readings : List Reading) : Type 0 where
  pub variable_of : ℕ → ℕ
  pub read_by : readings ≡ map (reading_by variable_of) read
  pub counted : (bit : Bit) → Contains read bit → 0 < bit.index → 1 ≤ variable_of bit.index
  pub within : (bit : Bit) → Contains read bit → 0 < bit.index →
      variable_of bit.index ≤ formula.variables
  pub apart : (a b : Bit) → Contains read a → Contains read b → 0 < a.index → 0 < b.index →
      variable_of a.index ≡ variable_of b.index → a.index ≡ b.index
  pub has_model : (free : ℕ → Bool) → all_hold free nodes required ≡ true →
      (v : Assignment) × (all_true v formula.clauses ≡ true) × AreRead free nodes read v readings
  pub has_values : (v : Assignment) → all_true v formula.clauses ≡ true →
      (free : ℕ → Bool) × (all_hold free nodes required ≡ true) × AreRead free nodes read v readings
