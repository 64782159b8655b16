-- Weights of statements.

use Rattle.std.specs.Prelude.{ℕ, Bool, true, ◌&&◌, nat_le, Option, None, Some}

-- an entry of a list of weights: none, or a weight from 1 to 1,000
abbrev pub is_weight : Option ℕ → Bool
is_weight None = true
is_weight (Some weight) = nat_le 1 weight && nat_le weight 1000
