-- WHAT IS LEFT OF A DERIVATION, wherever a search stops, and where it ends.

use Rattle.std.specs.Prelude.{◌≡◌, ◌⊎◌, true, Option, None, Some, IfSome, Result, List, [], ◌∷◌}
use Rattle.ba_cases.specs.Searching.{Ends, HandsAll, HasHandFault}
use Rattle.ba_cert.specs.Text.{text_of as certificate_of}
use Rattle.ba_cert.specs.Writing.{HoldsPrefix, IsUnbegun, steps_at}
use Rattle.ba_cert.specs.declared.head.CertHead.{CertHead}
use Rattle.ba_certified.specs.Certifying.{Begins, FindsCertified}
use Rattle.ba_choices.specs.Judges.{Judge}
use Rattle.ba_commands.specs.Modes.{Word}
use Rattle.ba_derivations.specs.declared.verdict.Verdict.{Verdict}
use Rattle.ba_localise.specs.Verdicts.{LeavesDerivation}
use Rattle.ba_search.specs.declared.search.SearchError.{SearchError}
use Rattle.ba_steps.specs.Sinks.{Told}
use Rattle.ba_steps.specs.declared.step.CertStep.{CertStep}
use Rattle.ba_tree.specs.Least.{WeightList}
use Rattle.ba_world.specs.World.{Outside}

-- what a search for the least sets by these weights and this judge leaves, as far as the sink tells
abbrev pub LeavesPart : CertHead → WeightList → Judge → Told → Told → Type 0
LeavesPart h weights good t u = LeavesDerivation weights good h.conflicts h.sets t u

-- what a sink tells, with one more log before its own
abbrev pub with_log : Option (List CertStep) → Told → Told
with_log log t = record t { logs = log ∷ t.logs }

-- a file is being written, of this name if that is told
abbrev pub IsWriting : Word → Outside → Type 0
IsWriting name o = (o.is_writing ≡ true) × IfSome o.writing (λ written. written ≡ name)

-- What a search leaves that writes the file of this name. Either nothing was handed on, and the file was not
-- begun or holds first bytes of its settings. Or it is being written: its steps, none at first, are one more
-- log before those of the sink.
pub data LeavesWritten (h : CertHead) (weights : WeightList) (good : Judge) (name : Word) (old new : Outside)
    (t u : Told) : Type 0
  where
    writes_no_step : IsUnbegun name old new ⊎ HoldsPrefix name (certificate_of h []) new →
        HandsAll [] t u → LeavesWritten h weights good name old new t u
    writes_steps : IsWriting name new → (first : Option (List CertStep)) →
        IfSome first (λ steps. steps ≡ []) →
        LeavesPart h weights good (with_log first t) (with_log (steps_at h name new) u) →
        LeavesWritten h weights good name old new t u

-- what a search leaves that writes the certificate, if one is named, and no other file
abbrev pub SearchLeaves : CertHead → Option Word → WeightList → Judge → Outside → Outside → Told → Told →
    Type 0
SearchLeaves h None weights good old new t u = (new ≡ old) × LeavesPart h weights good t u
SearchLeaves h (Some name) weights good old new t u =
    Begins h name old new × LeavesWritten h weights good name old new t u

-- WHERE A SEARCH ENDS, which writes the certificate, if one is named
abbrev pub SearchEnds : CertHead → Option Word → WeightList → Judge → Outside → Outside → Told → Told →
    Result Verdict SearchError → Type 0
SearchEnds h name weights good before after t u = Ends (FindsCertified h name weights good before after t u)
    (SearchLeaves h name weights good before after t u) (HasHandFault name before after t u) t u
