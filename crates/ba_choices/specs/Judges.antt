-- Which runs are good.

use Rattle.std.specs.Prelude.{Bool, List, ℕ}
use Rattle.ba_choices.specs.declared.Choice.{Choice}

-- which choices make a good run if the groups or statements of a set are relaxed
abbrev pub Judge : Type 0
Judge = List ℕ → List Choice → Bool
