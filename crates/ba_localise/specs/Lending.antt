-- What a sink tells that is lent.

use base.Fml.{GName}
use Rattle.std.specs.Prelude.{◌∷◌}
use Rattle.ba_steps.specs.Sinks.{Told}

-- what a sink behind a reference tells: it writes through that too
abbrev pub told_through : GName → Told → Told
told_through name told = record told { references = name ∷ told.references }
