-- Selectors of groups, as bits and as literals.

use Rattle.std.specs.Prelude.{◌≡◌, ◌-◌, ◌<◌, false, List, [], ◌∷◌, All, AllPairs}
use Rattle.ba_clauses.specs.declared.encoding.Reading.{Reading}
use Rattle.ba_clauses.specs.declared.encoding.Reading.TheVariants.{Constant, Variable}
use Rattle.ba_encode.specs.declared.encoded.Group.{Group}
use Rattle.ba_encode.specs.declared.grouping.Numbered.{Numbered}
use Rattle.ba_lits.specs.Literals.{Literal}
use Rattle.ba_nodes.specs.declared.Bit.{Bit}
use Rattle.ba_nodes.specs.declared.Node.{Node}
use Rattle.ba_nodes.specs.Gates.{HasValue}

-- a free bit, whose value an assignment gives
pub record IsFree (nodes : List Node) (bit : Bit) : Type 0 where
  pub counted : 0 < bit.index
  pub plain : bit.negated ≡ false
  pub value : HasValue nodes bit (λ free. free (bit.index - 1))

-- free bits of different numbers, in ascending order
pub record AreFree (nodes : List Node) (bits : List Bit) : Type 0 where
  pub each : All (IsFree nodes) bits
  pub ascending : AllPairs (λ (a b : Bit). a.index < b.index) bits

-- the literal of a reading that is no constant
abbrev pub literal_of : Reading → Literal
literal_of (Variable lit) = lit
literal_of (Constant value) = record { variable = 1; negated = false }

-- a group with its selector
abbrev pub with_selector : Numbered → Reading → Group
with_selector group reading = record {
  number = group.number;
  statement = group.statement;
  weight = group.weight;
  selector = literal_of reading;
}

-- the groups with the selectors that have these readings
abbrev pub with_selectors : List Numbered → List Reading → List Group
with_selectors [] readings = []
with_selectors (group ∷ groups) [] = []
with_selectors (group ∷ groups) (reading ∷ readings) =
    with_selector group reading ∷ with_selectors groups readings
