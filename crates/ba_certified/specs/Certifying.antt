-- WHAT A SEARCH WRITES: its derivation, to the file of a certificate if one is named.

use Rattle.std.specs.Prelude.{◌≡◌, ◌⊎◌, ℕ, Option, None, Some, List, [], ◌∷◌}
use Rattle.ba_cert.specs.Text.{text_of as certificate_of}
use Rattle.ba_cert.specs.Writing.{Holds, HoldsBeginning, IsUnbegun, OnlyWritesTo}
use Rattle.ba_cert.specs.declared.head.CertHead.{CertHead}
use Rattle.ba_choices.specs.Judges.{Judge}
use Rattle.ba_commands.specs.Modes.{Word}
use Rattle.ba_derivations.specs.Handing.{Derivation, Hands}
use Rattle.ba_derivations.specs.declared.verdict.Verdict.{Verdict}
use Rattle.ba_localise.specs.Verdicts.{Shows}
use Rattle.ba_steps.specs.Sinks.{Told}
use Rattle.ba_tree.specs.Least.{WeightList}
use Rattle.ba_world.specs.World.{Outside}

-- only the file of this name was written, and it holds this text, if it is told what the file holds
pub record Writes (name text : List ℕ) (old new : Outside) : Type 0 where
  pub only : OnlyWritesTo name old new
  pub holds : Holds name text new

-- The text of these settings and of the steps of the first derivation was written to the certificate, if one
-- is named. Nothing else was written.
abbrev pub Certifies : CertHead → Option Word → List Derivation → Outside → Outside → Type 0
Certifies h None handed old new = new ≡ old
Certifies h (Some name) [] old new = new ≡ old
Certifies h (Some name) (d ∷ others) old new = Writes name (certificate_of h d.steps) old new

-- Only the file of this name was written. It holds the first bytes of a certificate of these settings, if
-- that is told. Or it couldn't be begun, and is as it was.
pub record Begins (h : CertHead) (name : List ℕ) (old new : Outside) : Type 0 where
  pub only : OnlyWritesTo name old new
  pub beginning : IsUnbegun name old new ⊎ HoldsBeginning h name new

-- A VERDICT IS FOUND: a derivation that shows it was handed to the sink of steps, and written to the
-- certificate, if one is named. The settings say how many conflicts and sets there may be.
pub record FindsCertified (h : CertHead) (name : Option Word) (weights : WeightList) (good : Judge)
    (before after : Outside) (t u : Told) (verdict : Verdict) : Type 0
  where
    pub derivation : Derivation
    pub shows : Shows weights good h.conflicts h.sets derivation verdict
    pub hands : Hands derivation t u
    pub certifies : Certifies h name (derivation ∷ []) before after

-- what held before a certificate of this name and these settings was begun: the outside, and the faults of
-- the sink
pub record Starts (name : Word) (head : CertHead) (outside : Outside) (faults : ℕ)
    (start_name : Word) (start_head : CertHead) (start_outside : Outside) (start_faults : ℕ) : Type 0 where
  pub named : name ≡ start_name
  pub headed : head ≡ start_head
  pub start : outside ≡ start_outside
  pub faults_are : faults ≡ start_faults
