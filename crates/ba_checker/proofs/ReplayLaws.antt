-- Unit propagation along hints, as the code does it.

use Rattle.std.proofs.Common.{Option, None, Some}
use Rattle.ba_lits.specs.Literals.{Literal}
use Rattle.ba_lits.specs.Hints.{Standing, IsFalse, IsUnit, IsOpen}

-- a literal without a value was seen, and then the rest of the clause
abbrev pub joined : Option Literal → Standing → Standing
joined None s = s
joined (Some l) IsFalse = IsUnit l
joined (Some l) (IsUnit m) = IsOpen
joined (Some l) IsOpen = IsOpen
