-- WHAT THE WORDS of a call ask for.

use Rattle.std.specs.Prelude.{◌≡◌, ◌≤◌, Bool, true, false, Option, None, Some, List, []}
use Rattle.ba_cert.specs.Writing.{no_head}
use Rattle.ba_cert.specs.declared.head.CertHead.{CertHead}
use Rattle.ba_commands.specs.Commands.{command_of}
use Rattle.ba_commands.specs.Modes.{Word}
use Rattle.ba_commands.specs.declared.commands.Command.{Command}
use Rattle.ba_commands.specs.declared.commands.Command.TheVariants as command
use Rattle.ba_files.specs.declared.files.Named.{Named}
use Rattle.ba_tree.specs.Run.{are_bounds}
use Rattle.mode_all.specs.Jobs as several
use Rattle.mode_check.specs.Jobs as check
use Rattle.mode_check.specs.declared.jobs.CheckJob.{CheckJob}
use Rattle.mode_localise.specs.Jobs as localise
use Rattle.mode_localise.specs.declared.jobs.Telling.TheVariants as telling
use Rattle.mode_places.specs.Jobs as places
use Rattle.mode_rank.specs.Jobs as rank
use Rattle.mode_repair.specs.Jobs as repair
use Rattle.mode_run.specs.Runs as run
use Rattle.ba_tool.specs.declared.requests.Request.{Request}
use Rattle.ba_tool.specs.declared.requests.Request.TheVariants as request

-- a check of the run on one input, or of those on all
abbrev pub check_by : CheckJob → Bool → Request
check_by j false = request.Check j
check_by j true = request.CheckAll j

-- what a command asks for, if words are one
abbrev pub request_by : Option Command → Request
request_by None = request.Refused
request_by (Some (command.Localise program input bounds weights conflicts sets cert runs false false steady))
    =
    request.Localise (record {
      program = program;
      input = input;
      weights = weights;
      bounds = bounds;
      conflicts = conflicts;
      sets = sets;
      cert = cert;
      telling = telling.Report runs;
      steady = steady;
    })
request_by (Some (command.Localise program input bounds weights conflicts sets cert runs false true steady)) =
    request.LocaliseAll (record {
      program = program;
      inputs = input;
      weights = weights;
      bounds = bounds;
      conflicts = conflicts;
      sets = sets;
      cert = cert;
      runs = runs;
      steady = steady;
    })
request_by (Some (command.Localise program input bounds weights conflicts sets cert runs true all steady)) =
    request.Places (record {
      program = program;
      input = input;
      weights = weights;
      bounds = bounds;
      conflicts = conflicts;
      sets = sets;
      runs = runs;
      steady = steady;
    })
request_by (Some (command.Check program input cert bounds weights conflicts sets all)) = check_by
    (record {
      program = program;
      input = input;
      cert = cert;
      weights = weights;
      bounds = bounds;
      conflicts = conflicts;
      sets = sets;
    }) all
request_by (Some (command.Run program input bounds)) =
    request.Run (record { program = program; input = input; bounds = bounds })
request_by (Some (command.Rank program inputs bounds weights conflicts sets steady)) =
    request.Rank (record {
      program = program;
      inputs = inputs;
      weights = weights;
      bounds = bounds;
      conflicts = conflicts;
      sets = sets;
      steady = steady;
    })
request_by (Some (command.Repair program failing passing bounds weights conflicts sets steady)) =
    request.Repair (record {
      program = program;
      failing = failing;
      passing = passing;
      weights = weights;
      bounds = bounds;
      conflicts = conflicts;
      sets = sets;
      steady = steady;
    })
request_by (Some (command.Sample additions)) = request.Sample additions

-- WHAT IS ASKED FOR: the words are refused exactly where they are no command
abbrev pub request_of : List Word → Request
request_of words = request_by (command_of words)

-- the files that are read whole, in their order
abbrev pub files_in : Request → List Named
files_in (request.Localise j) = localise.files_of j
files_in (request.LocaliseAll j) = several.files_of j
files_in (request.Check j) = check.files_of j
files_in (request.CheckAll j) = check.files_with_inputs j
files_in (request.Run j) = run.files_of j
files_in (request.Rank j) = rank.files_of j
files_in (request.Places j) = places.files_of j
files_in (request.Repair j) = repair.files_of j
files_in _ = []

-- whether restarts come at a steady pace; else they follow Luby's sequence, as those of a sample do
abbrev pub steady_of : Request → Bool
steady_of (request.Localise j) = j.steady
steady_of (request.Rank j) = j.steady
steady_of (request.Places j) = j.steady
steady_of (request.LocaliseAll j) = j.steady
steady_of (request.Repair j) = j.steady
steady_of _ = false

-- the name of the certificate that is written, where one is asked for, and its settings
abbrev pub cert_of : Request → Option Word
cert_of (request.Localise j) = j.cert
cert_of (request.LocaliseAll j) = j.cert
cert_of _ = None

abbrev pub head_in : Request → CertHead
head_in (request.Localise j) = localise.head_by j
head_in (request.LocaliseAll j) = several.head_by j
head_in _ = no_head

-- WHAT IS ASKED OF A REQUEST, which holds of all that words ask for
abbrev pub MayBeDone : Request → Type 0
MayBeDone request.Refused = Unit {0}
MayBeDone (request.Sample additions) = additions ≤ 500
MayBeDone (request.Localise j) = localise.MayBeDone j
MayBeDone (request.LocaliseAll j) = several.MayBeDone j
MayBeDone (request.Check j) = are_bounds j.bounds ≡ true
MayBeDone (request.CheckAll j) = are_bounds j.bounds ≡ true
MayBeDone (request.Run j) = are_bounds j.bounds ≡ true
MayBeDone (request.Rank j) = rank.MayBeDone j
MayBeDone (request.Places j) = places.MayBeDone j
MayBeDone (request.Repair j) = repair.MayBeDone j
