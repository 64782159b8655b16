-- DERIVATIONS handed to a sink of steps.

use Rattle.std.specs.Prelude.{◌≡◌, ℕ, List}
use Rattle.ba_checker.specs.Puts.{with_steps}
use Rattle.ba_choices.specs.Judges.{Judge}
use Rattle.ba_steps.specs.Sinks.{Told, with_told}
use Rattle.ba_steps.specs.declared.sink.Basis.{Basis}
use Rattle.ba_steps.specs.declared.step.CertStep.{CertStep}
use Rattle.ba_derivations.specs.Derivations.{Problem}

-- A DERIVATION: a formula with its soft literals, and steps over it
pub record Derivation : Type 0 where
  pub begun : Basis
  pub steps : List CertStep

-- a derivation was handed to a sink: the formula was begun, and the steps were added to each log
pub record Hands (d : Derivation) (old new : Told) : Type 0 where
  pub over : new.over ≡ with_told d.begun old.over
  pub logs : new.logs ≡ with_steps d.steps old.logs

-- the problem of a derivation, with a judge and the limits on conflicts and sets
abbrev pub problem_of : Derivation → Judge → ℕ → ℕ → Problem
problem_of d good conflicts most = record {
  formula = d.begun.formula;
  softs = d.begun.softs;
  good = good;
  conflicts = conflicts;
  most_sets = most;
}
