-- A CALL of the program: how its answer comes from words and files, what it hands to the sink of steps, and
-- what it leaves of the outside.

use Rattle.std.specs.Prelude.{◌≡◌, ◌⊎◌, ℕ, ◌+◌, ◌*◌, ◌≤◌, Option, None, Some, Result, List, [], map, length}
use denote.Ref.{Bor}
use Rattle.ba_answers.specs.Limits.{certificate_limit, limit}
use Rattle.ba_answers.specs.Printed.{status_of, text_of}
use Rattle.ba_answers.specs.declared.answers.Answer.{Answer}
use Rattle.ba_answers.specs.declared.answers.Answer.TheVariants as answer
use Rattle.ba_answers.specs.declared.answers.Claim.{Claim}
use Rattle.ba_answers.specs.declared.answers.InputFault.{InputFault}
use Rattle.ba_answers.specs.declared.fault.Fault.{Fault}
use Rattle.ba_answers.specs.declared.file.File.{File}
use Rattle.ba_answers.specs.declared.status.Status.{Status}
use Rattle.ba_answers.specs.declared.status.Status.TheVariants as status
use Rattle.ba_cases.specs.AllCases.{all_answer}
use Rattle.ba_cases.specs.AtOnce.{IsAtOnce, case_answer}
use Rattle.ba_cases.specs.Reading.{FilesAreDue, FilesComeTo, TellsUndecided, Unaided, parts_of, source_of}
use Rattle.ba_cases.specs.Searching.{Ends, HandsAll, HasHandFault}
use Rattle.ba_cases.specs.declared.texts.Texts.{Texts}
use Rattle.ba_commands.specs.Modes.{Word}
use Rattle.ba_files.specs.Files.{AreRead}
use Rattle.ba_derivations.specs.Handing.{Derivation}
use Rattle.ba_numbers.specs.declared.ids.At.{At}
use Rattle.ba_search.specs.declared.search.SearchError.{SearchError}
use Rattle.ba_steps.specs.Sinks.{Told}
use Rattle.ba_world.specs.Read.{piece_size}
use Rattle.ba_world.specs.World.{HasPrintShortage, HasReadFault, HasWriteFault, OnlyPrints, OnlyReads, Outside, Prints, PrintsPrefix, StaysBut}
use Rattle.mode_all.specs.Answers as several
use Rattle.mode_all.specs.Searches as all_searches
use Rattle.mode_check.specs.Checks.{IsEndOfCheck, all_runs, one_run}
use Rattle.mode_check.specs.Checks as check
use Rattle.mode_localise.specs.Answers as localise
use Rattle.ba_certified.specs.Certifying.{Certifies}
use Rattle.mode_localise.specs.Jobs.{sample_job, sample_texts}
use Rattle.mode_localise.specs.Leaving as leaving
use Rattle.mode_places.specs.Answers as places
use Rattle.mode_places.specs.Searches as place_searches
use Rattle.mode_rank.specs.Answers as rank
use Rattle.mode_rank.specs.Inputs.{rank_answer}
use Rattle.mode_rank.specs.Searches as searches
use Rattle.mode_repair.specs.Answers as repair
use Rattle.mode_repair.specs.Cases.{repair_answer}
use Rattle.mode_repair.specs.Jobs as repair_jobs
use Rattle.mode_repair.specs.Searches as repair_searches
use Rattle.mode_repair.specs.declared.jobs.RepairJob.{RepairJob}
use Rattle.mode_repair.specs.declared.texts.RepairTexts.{RepairTexts}
use Rattle.mode_run.specs.Runs.{run_answer}
use Rattle.mode_run.specs.declared.running.RunJob.{RunJob}
use Rattle.ba_tool.specs.Requests.{cert_of, files_in, head_in, request_of}
use Rattle.ba_tool.specs.declared.requests.Request.{Request}
use Rattle.ba_tool.specs.declared.requests.Request.TheVariants as request

-- what the words ask for
abbrev pub asked_by : List (Bor Word) → Request
asked_by words = request_of (map (λ word. word.now) words)

-- a call: its words, and the outside and the sink of steps at its start and at its end, as far as these
-- tell
pub record Call : Type 0 where
  pub words : List Word
  pub before : Outside
  pub after : Outside
  pub told_before : Told
  pub told_after : Told

abbrev pub call : List (Bor Word) → Outside → Outside → Told → Told → Call
call words before after told_before told_after = record {
  words = map (λ word. word.now) words;
  before = before;
  after = after;
  told_before = told_before;
  told_after = told_after;
}

-- THE ANSWER of words and files, where reading leads from one moment to a later one: a row for each mode

-- the answer of a run comes at once
abbrev pub RunsTo : RunJob → Texts → List Derivation → Answer → Type 0
RunsTo j x handed a = IsAtOnce x.program (run_answer j.bounds x) a × (handed ≡ [])

-- words that are no command are answered at once. A sample is no file, and its text comes to the answer.
-- Otherwise files are read, and their texts come to it
abbrev pub RequestComesTo : Request → Outside → Outside → List Derivation → Answer → Type 0
RequestComesTo request.Refused before after handed a =
    (a ≡ answer.BadWords) × (after ≡ before) × (handed ≡ [])
RequestComesTo (request.Sample additions) before after handed a =
    (after ≡ before) × localise.IsAnswer (sample_job additions) (sample_texts additions) handed a
RequestComesTo (request.Localise j) before after handed a =
    FilesComeTo parts_of (files_in (request.Localise j)) (Unaided (localise.IsAnswer j)) before after handed a
RequestComesTo (request.Check j) before after handed a =
    FilesComeTo parts_of (files_in (request.Check j)) (check.IsAnswer (one_run j) j) before after handed a
RequestComesTo (request.CheckAll j) before after handed a =
    FilesComeTo parts_of (files_in (request.CheckAll j)) (check.IsAnswer (all_runs j) j) before after handed a
RequestComesTo (request.Run j) before after handed a =
    FilesComeTo parts_of (files_in (request.Run j)) (Unaided (RunsTo j)) before after handed a
RequestComesTo (request.Rank j) before after handed a =
    FilesComeTo parts_of (files_in (request.Rank j)) (Unaided (rank.IsAnswer j)) before after handed a
RequestComesTo (request.Places j) before after handed a =
    FilesComeTo parts_of (files_in (request.Places j)) (Unaided (places.IsAnswer j)) before after handed a
RequestComesTo (request.LocaliseAll j) before after handed a =
    FilesComeTo parts_of (files_in (request.LocaliseAll j)) (Unaided (several.IsAnswer j))
    before after handed a
RequestComesTo (request.Repair j) before after handed a =
    FilesComeTo repair_jobs.parts_of (files_in (request.Repair j)) (Unaided (repair.IsAnswer j))
    before after handed a

-- WHAT A REQUEST COMES TO before anything is printed. By what is read it comes to an answer. The derivations
-- of its searches were handed to the sink of steps, and only the certificate was written.
pub record Comes (r : Request) (before after : Outside) (t u : Told) (a : Answer) : Type 0
  where
    pub read : Outside
    pub handed : List Derivation
    pub comes : RequestComesTo r before read handed a
    pub reads : OnlyReads before read
    pub hands : HandsAll handed t u
    pub certifies : Certifies (head_in r) (cert_of r) handed read after

-- WHAT IS LEFT where a request stops: in reading, and nothing was handed on; or where all is read, a row for
-- each mode. `repair` has texts of its own, and so a case of its own

abbrev pub StopsBehind : Request → Texts → Outside → Outside → Told → Told → Type 0
StopsBehind (request.Localise j) x read after t u = leaving.Stops j x read after t u
StopsBehind (request.LocaliseAll j) x read after t u = all_searches.Stops j x read after t u
StopsBehind (request.Check j) x read after t u = check.Stops (one_run j) j x read after t u
StopsBehind (request.CheckAll j) x read after t u = check.Stops (all_runs j) j x read after t u
StopsBehind (request.Rank j) x read after t u = (after ≡ read) × searches.Stops j x t u
StopsBehind (request.Places j) x read after t u = (after ≡ read) × place_searches.Stops j x t u
StopsBehind _ x read after t u = ⊥

pub data Stops (r : Request) (before after : Outside) (t u : Told) : Type 0 where
  in_reading : OnlyReads before after → HandsAll [] t u → Stops r before after t u
  in_sample : (additions : ℕ) → r ≡ request.Sample additions →
      leaving.Stops (sample_job additions) (sample_texts additions) before after t u →
      Stops r before after t u
  in_repair : (j : RepairJob) → r ≡ request.Repair j → (x : RepairTexts) →
      AreRead (files_in r) (repair_jobs.parts_of x) before after → repair_searches.Stops j x t u →
      Stops r before after t u
  behind : (x : Texts) (read : Outside) → AreRead (files_in r) (parts_of x) before read →
      StopsBehind r x read after t u → Stops r before after t u

-- where a request ends
abbrev pub RequestEnds : Request → Outside → Outside → Told → Told → Result Answer SearchError → Type 0
RequestEnds r before after t u = Ends (Comes r before after t u) (Stops r before after t u)
    (HasHandFault (cert_of r) before after t u) t u

-- A CALL COMES TO AN ANSWER, and from then on only prints
pub record ComesTo (c : Call) (a : Answer) : Type 0 where
  pub written : Outside
  pub comes : Comes (request_of c.words) c.before written c.told_before c.told_after a
  pub prints : OnlyPrints written c.after

-- it came to this answer, and printed its text
abbrev pub Answered : Call → Answer → Type 0
Answered c a = ComesTo c a × Prints c.before c.after (text_of a)

-- it came to an answer, and printed a prefix of its text
abbrev pub AnsweredInPart : Call → Type 0
AnsweredInPart c = (a : Answer) × ComesTo c a × PrintsPrefix c.before c.after (text_of a)

-- it ended before it printed anything
abbrev pub Unanswered : Call → Type 0
Unanswered c = Stops (request_of c.words) c.before c.after c.told_before c.told_after

-- a fault of what its derivation is handed to rose; and that one, or a fault of writing or of printing
abbrev pub HandFails : Call → Type 0
HandFails c = HasHandFault (cert_of (request_of c.words)) c.before c.after c.told_before c.told_after

abbrev pub HasFault : Call → Type 0
HasFault c = HasWriteFault c.before c.after ⊎ HandFails c

-- a text was printed, and the call ends with this status. Or a fault of writing rose in printing it, or there
-- was no memory to print it
abbrev pub IsPrinted : List ℕ → Status → Outside → Outside → Status → Type 0
IsPrinted text wanted before after result = ((result ≡ wanted) × Prints before after text)
    ⊎ ((result ≡ status.WriteFault) × HasWriteFault before after)
    ⊎ ((result ≡ status.Memory) × HasPrintShortage before after)

-- the text of an answer was printed, and the call ends with its status. Or a fault of writing rose in
-- printing it, or there was no memory to make it or to print it
abbrev pub IsShown : Answer → Outside → Outside → Status → Type 0
IsShown a before after result =
    ((result ≡ status_of a) × Prints before after (text_of a))
    ⊎ ((result ≡ status.WriteFault) × HasWriteFault before after)
    ⊎ ((result ≡ status.Memory) × ((after ≡ before) ⊎ HasPrintShortage before after))

-- WHAT EACH STATUS SAYS of a call that ends with it

abbrev pub Says : Call → Status → Type 0
-- A derivation shows that these sets are all that are least. Their report was printed, or for a sample what
-- they weigh and how many they are. Or derivations show the least sets for each input, and their ranking was
-- printed. Or one shows the least sets of the failing run. Then the edits of their statements that pass all
-- inputs were printed. Or a certificate claims what is true, and is accepted. Or the run of a program fails
-- that was to be run, and where.
Says c status.Ok = ((report : List ℕ) × Answered c (answer.Located report))
    ⊎ ((additions weight sets : ℕ) × Answered c (answer.Sampled additions weight sets))
    ⊎ ((report : List ℕ) × Answered c (answer.Ranked report))
    ⊎ ((report : List ℕ) × Answered c (answer.Edits report))
    ⊎ ((claimed : Claim) × Answered c (answer.Accepted claimed))
    ⊎ ((at : At) × Answered c (answer.AssertFails at)) ⊎ ((at : At) × Answered c (answer.Trap at))
-- where there are several inputs, the line of the first run that doesn't fail is named. So it is with a run
-- beyond its bound; in a ranking also with 8 and 9
Says c status.NotFailing = (line : Option ℕ) × Answered c (answer.NotFailing line)
Says c status.BadWords = Answered c answer.BadWords
Says c status.BadProgram = (fault : Fault) × Answered c (answer.BadProgram fault)
Says c status.BadInput =
    (which : File) × (fault : InputFault) × (line : Option ℕ) × Answered c (answer.BadInput which fault line)
Says c status.TooLarge = Answered c answer.TooLarge
Says c status.BeyondBound = (at : At) × (line : Option ℕ) × Answered c (answer.BeyondBound at line)
-- the run on the input in this line is the first that had to pass and isn't done
Says c status.PassingFails = (line : ℕ) × Answered c (answer.PassingFails line)
-- a derivation shows that there is no least set
Says c status.NoRepair = Answered c answer.NoRepair
-- a derivation shows that there are more least sets than may be listed, and this is their weight, or how
-- many places each has
Says c status.TooManySets =
    (weight most : ℕ) × (line : Option ℕ) × Answered c (answer.TooManySets weight most line)
-- the steps that were handed to the sink spend the conflicts that are allowed
Says c status.BudgetSpent = (conflicts : ℕ) × (line : Option ℕ) × Answered c (answer.BudgetSpent conflicts
    line)
-- the certificate is refused, at its first refused line
Says c status.BadCertificate = (code line : ℕ) × Answered c (answer.BadCertificate code line)
Says c status.ReadFault = (which : File) × Answered c (answer.Unreadable which)
-- a fault of printing rose, and a prefix of the text of an answer was printed. Or a fault rose of what
-- derivations are handed to, and the call ended before it printed
Says c status.WriteFault =
    (HasWriteFault c.before c.after × AnsweredInPart c) ⊎ (HandFails c × Unanswered c)
-- it ended before it printed; or the printing found no memory, and a prefix of the text of an answer was
-- printed
Says c status.Memory = Unanswered c ⊎ (HasPrintShortage c.before c.after × AnsweredInPart c)
Says c status.TooLong = (which : File) × Answered c (answer.TooLong which)
Says c status.BadWeights = (line : ℕ) × Answered c (answer.BadWeights line)

-- WHAT IS WRITTEN. No count of faults falls.

-- no file is begun or added to: what is held and kept stays
pub record WritesNoFile (old new : Outside) : Type 0 where
  pub held : new.held ≡ old.held
  pub kept : new.kept ≡ old.kept
  pub writing : new.writing ≡ old.writing
  pub is_writing : new.is_writing ≡ old.is_writing
  pub read_no_fall : old.read_faults ≤ new.read_faults
  pub write_no_fall : old.write_faults ≤ new.write_faults

-- what is held and kept of every file stays, but of the one of this name
pub record WritesOneFile (name : List ℕ) (old new : Outside) : Type 0 where
  pub held : StaysBut name old.held new.held
  pub kept : StaysBut name old.kept new.kept
  pub read_no_fall : old.read_faults ≤ new.read_faults
  pub write_no_fall : old.write_faults ≤ new.write_faults

-- no file is written but the certificate, if one is named
abbrev pub WritesOnly : Option Word → Outside → Outside → Type 0
WritesOnly None old new = WritesNoFile old new
WritesOnly (Some name) old new = WritesOneFile name old new

-- THE OTHER WAY ROUND, from words and told files to the status

-- the call ends with one of these statuses, unless a fault or out of memory comes in its place
pub data EndsWith (c : Call) (wanted : Status → Type 0) (result : Status) : Type 0 where
  as_wanted : wanted result → EndsWith c wanted result
  read_fault : result ≡ status.ReadFault → HasReadFault c.before c.after → EndsWith c wanted result
  write_fault : result ≡ status.WriteFault → HasFault c → EndsWith c wanted result
  memory : result ≡ status.Memory → EndsWith c wanted result

-- a search ends with the least sets, with that there are none, or more than may be listed; or
-- with that its conflicts are spent
pub data IsEndOfSearch : Status → Type 0 where
  located : IsEndOfSearch status.Ok
  no_repair : IsEndOfSearch status.NoRepair
  too_many : IsEndOfSearch status.TooManySets
  spent : IsEndOfSearch status.BudgetSpent

-- the searches of a ranking end with it, or one has more least sets than may be listed, or its conflicts are
-- spent
pub data IsEndOfRanking : Status → Type 0 where
  ranked : IsEndOfRanking status.Ok
  too_many_at : IsEndOfRanking status.TooManySets
  spent_at : IsEndOfRanking status.BudgetSpent

-- a sample ends with its least sets, or with that its conflicts are spent
pub data IsEndOfSample : Status → Type 0 where
  sampled : IsEndOfSample status.Ok
  sample_spent : IsEndOfSample status.BudgetSpent

-- How a call ends to which an answer is due: with the answer's status. A search may end with that its
-- conflicts are spent in its place; and where this is due, it may also end otherwise.
abbrev pub IsEndFor : Answer → Status → Type 0
IsEndFor (answer.Located bytes) result = (result ≡ status.Ok) ⊎ (result ≡ status.BudgetSpent)
IsEndFor (answer.Sampled additions weight sets) result = (result ≡ status.Ok) ⊎ (result ≡ status.BudgetSpent)
IsEndFor (answer.Ranked bytes) result = (result ≡ status.Ok) ⊎ (result ≡ status.BudgetSpent)
IsEndFor (answer.Edits bytes) result = (result ≡ status.Ok) ⊎ (result ≡ status.BudgetSpent)
IsEndFor answer.NoRepair result = (result ≡ status.NoRepair) ⊎ (result ≡ status.BudgetSpent)
IsEndFor (answer.TooManySets weight most line) result =
    (result ≡ status.TooManySets) ⊎ (result ≡ status.BudgetSpent)
IsEndFor (answer.BudgetSpent conflicts line) result = IsEndOfSearch result
IsEndFor due result = result ≡ status_of due

-- THE ANSWER THAT IS DUE, where the world tells the files: a row for each mode

abbrev pub IsDue : Request → Outside → Answer → Type 0
IsDue request.Refused before a = a ≡ answer.BadWords
IsDue (request.Sample additions) before a =
    (handed : List Derivation) × localise.IsAnswer (sample_job additions) (sample_texts additions) handed a
IsDue (request.Localise j) before a = FilesAreDue parts_of (files_in (request.Localise j))
    (λ x a. (handed : List Derivation) × localise.IsAnswer j x handed a) before a
IsDue (request.Check j) before a = FilesAreDue parts_of (files_in (request.Check j))
    (λ x a. IsAtOnce x.program (case_answer j.bounds x) a) before a
IsDue (request.CheckAll j) before a = FilesAreDue parts_of (files_in (request.CheckAll j))
    (λ x a. IsAtOnce x.program (all_answer j.bounds x) a) before a
IsDue (request.Run j) before a = FilesAreDue parts_of (files_in (request.Run j))
    (λ x a. IsAtOnce x.program (run_answer j.bounds x) a) before a
IsDue (request.Rank j) before a = FilesAreDue parts_of (files_in (request.Rank j))
    (λ x a. (handed : List Derivation) × rank.IsAnswer j x handed a) before a
IsDue (request.Places j) before a = FilesAreDue parts_of (files_in (request.Places j))
    (λ x a. (handed : List Derivation) × places.IsAnswer j x handed a) before a
IsDue (request.LocaliseAll j) before a = FilesAreDue parts_of (files_in (request.LocaliseAll j))
    (λ x a. (handed : List Derivation) × several.IsAnswer j x handed a) before a
IsDue (request.Repair j) before a = FilesAreDue repair_jobs.parts_of (files_in (request.Repair j))
    (λ x a. (handed : List Derivation) × repair.IsAnswer j x handed a) before a

-- the world tells all files of a request, and its texts have no answer at once. So the runs that are to fail
-- do, those that are to pass are done, and least sets are searched for. A sample is searched whatever is told

abbrev pub TellsFailing : Request → Outside → Type 0
TellsFailing (request.Localise j) before =
    TellsUndecided parts_of source_of (files_in (request.Localise j)) (case_answer j.bounds) before
TellsFailing (request.Rank j) before =
    TellsUndecided parts_of source_of (files_in (request.Rank j)) (rank_answer j.bounds) before
TellsFailing (request.Places j) before =
    TellsUndecided parts_of source_of (files_in (request.Places j)) (case_answer j.bounds) before
TellsFailing (request.LocaliseAll j) before =
    TellsUndecided parts_of source_of (files_in (request.LocaliseAll j)) (all_answer j.bounds) before
TellsFailing (request.Repair j) before =
    TellsUndecided repair_jobs.parts_of repair_jobs.source_of (files_in (request.Repair j))
    (repair_answer j.bounds) before
TellsFailing (request.Sample additions) before = Unit {0}
TellsFailing _ before = ⊥

-- how the searches end then
abbrev pub IsEndOf : Request → Status → Type 0
IsEndOf (request.Localise j) = IsEndOfSearch
IsEndOf (request.Rank j) = IsEndOfRanking
IsEndOf (request.Places j) = IsEndOfSearch
IsEndOf (request.LocaliseAll j) = IsEndOfSearch
IsEndOf (request.Repair j) = IsEndOfSearch
IsEndOf (request.Sample additions) = IsEndOfSample
IsEndOf _ = λ result. ⊥

abbrev pub TellsCheck : Request → Outside → Word → Type 0
TellsCheck (request.Check j) before name =
    (name ≡ j.cert)
    × TellsUndecided parts_of source_of (files_in (request.Check j)) (case_answer j.bounds) before
TellsCheck (request.CheckAll j) before name =
    (name ≡ j.cert)
    × TellsUndecided parts_of source_of (files_in (request.CheckAll j)) (all_answer j.bounds) before
TellsCheck _ before name = ⊥

-- HOW MANY BYTES of files may come: of each file no more than its limit and one piece
abbrev pub most_behind : Request → ℕ
most_behind (request.Check j) = certificate_limit + piece_size
most_behind (request.CheckAll j) = certificate_limit + piece_size
most_behind _ = 0

abbrev pub most_given : Request → ℕ
most_given r = length (files_in r) * (limit + piece_size) + most_behind r

-- THE OTHER WAY ROUND: with which status a call ends, by its words and by what is told of its files before
pub record EndsWhere (c : Call) (result : Status) : Type 0 where
  -- words and told files have an answer that is due
  pub due : (a : Answer) → IsDue (request_of c.words) c.before a → EndsWith c (IsEndFor a) result
  -- the searches of runs that fail, with all others done, come to an end
  pub failing : TellsFailing (request_of c.words) c.before → EndsWith c (IsEndOf (request_of c.words)) result
  -- a check comes to an end, by what the world tells of its certificate. Whether it is accepted or refused,
  -- and at which line, `Says` tells, over the formula that was handed to the sink
  pub checking : (name : Word) (file : Option (List ℕ)) → TellsCheck (request_of c.words) c.before name
      → c.before.held name ≡ Some file → EndsWith c (IsEndOfCheck file) result
