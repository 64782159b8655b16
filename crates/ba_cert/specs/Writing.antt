-- A certificate written to a file of a world, which may tell what it keeps under the file's name.

use base.Fml.{GName}
use Rattle.std.specs.Prelude.{◌≡◌, ◌⊎◌, ℕ, ◌^◌, nat_lt, Bool, true, false, ◌&&◌, is_some, Option, None, Some, option_and_then, option_map, Result, Err, OnOk, List, [], ◌∷◌, take, bytes_eq, All, IfSome}
use Rattle.ba_steps.specs.declared.sink.SinkError.{SinkError}
use Rattle.ba_steps.specs.declared.sink.SinkError.TheVariants as sink
use Rattle.ba_steps.specs.declared.step.CertStep.{CertStep}
use Rattle.ba_steps.specs.Sinks.{Logs, Told}
use Rattle.ba_steps.specs.Steps.{IsFormed}
use Rattle.ba_world.specs.World.{HasWriteFault, OnlyWrites, Outside, StaysBut}
use Rattle.ba_world.specs.declared.world.WorldError.{WorldError}
use Rattle.ba_world.specs.declared.world.WorldError.TheVariants as world
use Rattle.ba_cert.specs.declared.head.CertHead.{CertHead}
use Rattle.ba_cert.specs.Certificates.{steps_from}
use Rattle.ba_cert.specs.Text.{text_of}

-- each fault by its name
abbrev pub sink_error : WorldError → SinkError
sink_error world.Failed = sink.Failed
sink_error world.Memory = sink.Memory

-- the steps of the whole lines that are kept, after the lines of these settings
abbrev pub steps_kept : CertHead → Option (List ℕ) → Option (List CertStep)
steps_kept h kept = option_and_then (steps_from h false) kept

-- the steps of the whole lines in the file of this name
abbrev pub steps_at : CertHead → List ℕ → Outside → Option (List CertStep)
steps_at h name outside = steps_kept h (outside.kept name)

-- the file has no step, if it is told; its text has the steps and no more
abbrev pub HasNoStep : CertHead → List ℕ → Outside → Type 0
HasNoStep h name outside = steps_at h name outside ≡ option_map (λ _. []) (outside.kept name)

-- the file, if it is told, holds the text of the steps that it keeps
abbrev pub HoldsLog : CertHead → List ℕ → Outside → Type 0
HoldsLog h name outside = outside.kept name ≡ option_map (text_of h) (steps_at h name outside)

-- the steps of the file as the only log of a sink
abbrev pub logs_at : CertHead → List ℕ → Outside → Logs
logs_at h name outside = steps_at h name outside ∷ []

-- what a sink tells that writes there, through a reference of this name
abbrev pub told_at : CertHead → List ℕ → Outside → GName → Told
told_at h name outside world = record {
  over = None;
  logs = logs_at h name outside;
  faults = outside.write_faults;
  references = world ∷ [];
}

-- the file of this name holds this text, if it is told what the file holds
abbrev pub Holds : List ℕ → List ℕ → Outside → Type 0
Holds name text outside = IfSome (outside.kept name) (λ bytes. bytes ≡ text)

-- the first bytes of a text; the same for the file of this name, if it is told
abbrev pub IsPrefix : List ℕ → List ℕ → Type 0
IsPrefix bytes text = (count : ℕ) × (bytes ≡ take count text)

-- the file, if it is told, holds the first bytes of a text
abbrev pub HoldsPrefix : List ℕ → List ℕ → Outside → Type 0
HoldsPrefix name text outside = IfSome (outside.kept name) (λ bytes. IsPrefix bytes text)

-- the first bytes of some certificate of these settings; the same for the file of this name, if it is told
abbrev pub BeginsText : CertHead → List ℕ → Type 0
BeginsText h bytes = (steps : List CertStep) × All IsFormed steps × IsPrefix bytes (text_of h steps)

-- the file, if it is told, holds the first bytes of a certificate with these settings
abbrev pub HoldsBeginning : CertHead → List ℕ → Outside → Type 0
HoldsBeginning h name outside = ∥ IfSome (outside.kept name) (BeginsText h) ∥₁

-- the file being written has this name; in the second also if its name isn't told
abbrev pub is_named : List ℕ → Option (List ℕ) → Bool
is_named name None = false
is_named name (Some other) = bytes_eq other name

-- the file that is being written, if it is told, has this name
abbrev pub may_be_named : List ℕ → Option (List ℕ) → Bool
may_be_named name None = true
may_be_named name (Some other) = bytes_eq other name

-- These settings have a line, and a file of this name is being written, as far as that is told. If it is told
-- what is kept under the name, that is the two lines of the settings and lines of steps. A whole file has
-- nothing after them.
abbrev pub is_written : CertHead → Bool → List ℕ → Bool → Option (List ℕ) → Option (List ℕ) → Bool
is_written h whole name is_writing writing None = is_writing && may_be_named name writing
is_written h whole name is_writing writing (Some bytes) =
    is_writing && (is_named name writing && is_some (steps_from h whole bytes))

-- what a sink that writes the text keeps
unfoldable pub is_sound : CertHead → Bool → List ℕ → Outside → Bool
is_sound h whole name outside =
    nat_lt h.conflicts (2 ^ 62)
    && is_written h whole name outside.is_writing outside.writing (outside.kept name)

-- the file of this name was not begun: no file is being written, and what is kept under this name is as it
-- was
abbrev pub IsUnbegun : List ℕ → Outside → Outside → Type 0
IsUnbegun name old new = (new.is_writing ≡ false) × (new.kept name ≡ old.kept name)

-- only the file of this name was written
pub record OnlyWritesTo (name : List ℕ) (old new : Outside) : Type 0 where
  pub held : StaysBut name old.held new.held
  pub kept : StaysBut name old.kept new.kept
  pub stays : OnlyWrites old new

-- A text is written in place of the file of this name. The file then holds it; or it was not begun, or holds
-- some first bytes. A failure comes only with a fault. Only this file is written.
pub record Writes (name text : List ℕ) (result : Result Unit SinkError) (old new : Outside) : Type 0 where
  pub whole : OnOk result (Holds name text new)
  pub prefix : IsUnbegun name old new ⊎ HoldsPrefix name text new
  pub cause : result ≡ Err sink.Failed → HasWriteFault old new
  pub stays : OnlyWritesTo name old new

-- settings of no call
abbrev pub no_head : CertHead
no_head = record { bounds = record { turns = 0; frames = 0 }; conflicts = 0; sets = 0 }

-- an outside of which nothing is told
abbrev pub nothing_told : Outside
nothing_told = record {
  held = λ _. None;
  left = None;
  kept = λ _. None;
  writing = None;
  printed = None;
  is_reading = false;
  is_writing = false;
  read_faults = 0;
  write_faults = 0;
  print_shortages = 0;
  given = 0;
}
