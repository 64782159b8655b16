-- A sink that keeps what it takes.

use Rattle.std.specs.Prelude.{Some, List, [], ◌∷◌}
use Rattle.ba_steps.specs.Sinks.{Told}
use Rattle.ba_steps.specs.declared.sink.Basis.{Basis}
use Rattle.ba_steps.specs.declared.step.CertStep.{CertStep}

-- the steps that a list holds, and the formulas that were begun
pub record Listing : Type 0 where
  pub steps : List CertStep
  pub over : List Basis

-- it tells everything, writes to nothing, and never fails
abbrev pub told_by_list : Listing → Told
told_by_list s = record { over = Some s.over; logs = Some s.steps ∷ []; faults = 0; references = [] }
