-- What a search for the least sets of a program comes to, and what it hands to a sink of steps.

use Rattle.std.specs.Prelude.{◌≡◌, ◌≢◌, ℕ, ◌≤◌, List, [], All, Contains, length}
use Rattle.ba_derivations.specs.Derivations.{AreTooMany, IsGood, conflicts_in, sets_of, start_of}
use Rattle.ba_derivations.specs.Encodings.{IsFaithful}
use Rattle.ba_derivations.specs.Handing.{Derivation, Hands, problem_of}
use Rattle.ba_derivations.specs.declared.verdict.FoundSet.{FoundSet}
use Rattle.ba_derivations.specs.declared.verdict.Verdict.{Verdict}
use Rattle.ba_derivations.specs.declared.verdict.Verdict.TheVariants.{Located, NoRepair, TooMany, Spent}
use Rattle.ba_enum.specs.Enumerating.{Says}
use Rattle.ba_enum.specs.Leading.{AreNew, LeavesBetween}
use Rattle.ba_steps.specs.Sinks.{MayAdd, Told, with_told}
use Rattle.ba_steps.specs.declared.sink.Basis.{Basis}
use Rattle.ba_steps.specs.declared.step.CertStep.{CertStep}
use Rattle.ba_checker.specs.States.{State, first_state}
use Rattle.ba_tree.specs.Least.{AreLeast, WeightList, weight_of}
use Rattle.ba_choices.specs.Judges.{Judge}

-- these are all least sets, each once and in order, of this weight, with good runs, and no more than may be
-- listed
pub record AreLocated (weights : WeightList) (good : Judge) (most weight : ℕ) (sets : List FoundSet) : Type
    0 where
  pub least : AreLeast weights good (sets_of sets)
  pub some : sets ≢ []
  pub each_weighs : (set : List ℕ) → Contains (sets_of sets) set → weight_of weights set ≡ weight
  pub runs : All (IsGood good) sets
  pub few : length sets ≤ most

-- A VERDICT IS TRUE of which runs are good, where it is derived by these steps: all least sets; that no set
-- is least; one more least sets than may be listed, with good runs; or that the steps hold exactly as many
-- conflicts as are allowed
abbrev pub IsVerdict : WeightList → Judge → ℕ → ℕ → List CertStep → Verdict → Type 0
IsVerdict weights good conflicts most steps (Located weight sets) = AreLocated weights good most weight sets
IsVerdict weights good conflicts most steps NoRepair = AreLeast weights good []
IsVerdict weights good conflicts most steps (TooMany weight sets) =
    AreTooMany weights good weight most (sets_of sets) × All (IsGood good) sets
IsVerdict weights good conflicts most steps Spent = conflicts_in steps ≡ conflicts

-- A DERIVATION SHOWS A VERDICT: its formula encodes faithfully which runs are good, each clause that its
-- steps learn is new to propagation where it is learnt, and the steps say the verdict, which is true
pub record Shows (weights : WeightList) (good : Judge) (conflicts most : ℕ) (d : Derivation)
    (verdict : Verdict) :
    Type 0 where
  pub faithful : IsFaithful d.begun.formula d.begun.softs weights good
  pub news : AreNew (start_of (problem_of d good conflicts most)) d.steps
  pub says : Says (problem_of d good conflicts most) d.steps verdict
  pub is_verdict : IsVerdict weights good conflicts most d.steps verdict

-- A SEARCH FINDS A VERDICT: a derivation that shows it was handed to its sink
pub record Finds (weights : WeightList) (good : Judge) (conflicts most : ℕ) (old new : Told)
    (verdict : Verdict) :
    Type 0 where
  pub derivation : Derivation
  pub hands : Hands derivation old new
  pub shows : Shows weights good conflicts most derivation verdict

-- WHAT IS LEFT OF A DERIVATION, also after an error. Nothing was begun; or the formula was, and may be told;
-- or it is told, and steps over it were handed on that are allowed one after the other, or one more was
-- tried, which some of the logs may hold. The formula encodes faithfully which runs are good.
pub data LeavesDerivation (weights : WeightList) (good : Judge) (conflicts most : ℕ) (old new : Told) : Type
    0 where
  leaves_nothing : new.over ≡ old.over → new.logs ≡ old.logs →
      LeavesDerivation weights good conflicts most old new
  leaves_formula : (begun : Basis) → IsFaithful begun.formula begun.softs weights good →
      MayAdd begun old.over new.over →
      new.logs ≡ old.logs → LeavesDerivation weights good conflicts most old new
  leaves_steps : (begun : Basis) (last : State) → IsFaithful begun.formula begun.softs weights good →
      new.over ≡ with_told begun old.over →
      LeavesBetween good (first_state begun.formula begun.softs conflicts most) old.logs last new.logs →
      LeavesDerivation weights good conflicts most old new
