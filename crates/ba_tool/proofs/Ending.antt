-- How a call ends, by the answer that it comes to.

use Rattle.std.proofs.Common.{◌≡◌, inl, inr, ℕ, ◌≤◌, Option, None, Some, List, [], ◌∷◌, ◌++◌, length, take, option_map, All, IfSome, refl, sym, ap, subst, ◌∙◌, arith}
use Rattle.std.proofs.lemmas.List.{take_all}
use Rattle.ba_answers.specs.Printed.{status_of, text_of}
use Rattle.ba_answers.specs.declared.answers.Answer.{Answer}
use Rattle.ba_answers.specs.declared.answers.Answer.TheVariants as answer
use Rattle.ba_answers.specs.declared.status.Status.{Status}
use Rattle.ba_cases.specs.Reading.{FilesComeTo, Unaided, by_texts, parts_of, unread}
use Rattle.ba_cases.specs.Searching.{at_once, by_search}
use Rattle.ba_cases.specs.declared.texts.Texts.{Texts}
use Rattle.ba_cert.specs.Text.{text_of as certificate_of}
use Rattle.ba_cert.specs.Writing.{BeginsText, no_head}
use Rattle.ba_cert.specs.declared.head.CertHead.{CertHead}
use Rattle.ba_choices.specs.Judges.{Judge}
use Rattle.ba_commands.specs.Modes.{Word}
use Rattle.ba_derivations.specs.Handing.{Derivation}
use Rattle.ba_derivations.specs.declared.verdict.Verdict.{Verdict}
use Rattle.ba_derivations.specs.declared.verdict.Verdict.TheVariants as verdict
use Rattle.ba_files.proofs.Told.{all_only}
use Rattle.ba_localise.specs.Verdicts.{Shows}
use Rattle.ba_steps.specs.Sinks.{Told}
use Rattle.ba_steps.specs.Steps.{IsFormed}
use Rattle.ba_steps.specs.declared.step.CertStep.{CertStep}
use Rattle.ba_tree.specs.Least.{WeightList}
use Rattle.ba_world.proofs.WholeReads.{only_reads_none, only_reads_on, rose_since}
use Rattle.ba_world.specs.World.{HasPrintShortage, HasWriteFault, OnlyPrints, OnlyReads, OnlyWrites, Outside, Prints, PrintsPrefix}
use Rattle.mode_all.proofs.Leaving.{stops_begin as all_stops_begin}
use Rattle.mode_all.specs.Answers as several
use Rattle.mode_all.specs.Jobs as all_jobs
use Rattle.mode_all.specs.declared.jobs.AllJob.{AllJob}
use Rattle.mode_check.specs.Checks.{Subject, all_runs, one_run}
use Rattle.mode_check.specs.Checks as check
use Rattle.mode_check.specs.declared.jobs.CheckJob.{CheckJob}
use Rattle.ba_certified.proofs.Leaving.{MayBegin, nothing_begun}
use Rattle.mode_localise.proofs.Leaving.{stops_begin}
use Rattle.mode_localise.specs.Answers.{IsAnswer}
use Rattle.ba_certified.specs.Certifying.{Certifies}
use Rattle.mode_localise.specs.Jobs.{files_of, head_by, sample_job, sample_texts}
use Rattle.mode_localise.specs.declared.jobs.LocaliseJob.{LocaliseJob}
use Rattle.mode_repair.specs.Jobs as repair_jobs
use Rattle.ba_tool.specs.Calls.{Answered, AnsweredInPart, Call, Comes, ComesTo, IsShown, RequestComesTo, Says, Stops, StopsBehind, WritesOnly, behind, in_reading, in_repair, in_sample}
use Rattle.ba_tool.specs.Requests.{cert_of, files_in, head_in, request_of}
use Rattle.ba_tool.specs.declared.requests.Request.{Request}
use Rattle.ba_tool.specs.declared.requests.Request.TheVariants as request

-- what the status of an answer says, by the answer
said : (c : Call) (a : Answer) → Answered c a → Says c (status_of a)
said c (answer.Located report) h = inl (report, h)
said c (answer.Sampled additions weight sets) h = inr (inl (additions, weight, sets, h))
said c (answer.Ranked report) h = inr (inr (inl (report, h)))
said c (answer.Edits report) h = inr (inr (inr (inl (report, h))))
said c (answer.Accepted claimed) h = inr (inr (inr (inr (inl (claimed, h)))))
said c (answer.AssertFails at) h = inr (inr (inr (inr (inr (inl (at, h))))))
said c (answer.Trap at) h = inr (inr (inr (inr (inr (inr (at, h))))))
said c (answer.NotFailing line) h = (line, h)
said c answer.BadWords h = h
said c (answer.BadProgram fault) h = (fault, h)
said c (answer.BadInput which fault line) h = (which, fault, line, h)
said c answer.TooLarge h = h
said c (answer.BeyondBound at line) h = (at, line, h)
said c (answer.PassingFails line) h = (line, h)
said c answer.NoRepair h = h
said c (answer.TooManySets weight most line) h = (weight, most, line, h)
said c (answer.BudgetSpent conflicts line) h = (conflicts, line, h)
said c (answer.Unreadable which) h = (which, h)
said c (answer.TooLong which) h = (which, h)
said c (answer.BadWeights line) h = (line, h)
said c (answer.BadCertificate code line) h = (code, line, h)

-- THE STEPS OF A CERTIFICATE are formed

shows_formed : (weights : WeightList) (good : Judge) (conflicts most : ℕ) (d : Derivation) (v : Verdict) →
    Shows weights good conflicts most d v → All IsFormed d.steps
shows_formed weights good conflicts most d (verdict.Located weight sets) shows = shows.says.0.formed
shows_formed weights good conflicts most d verdict.NoRepair shows = shows.says.0.formed
shows_formed weights good conflicts most d (verdict.TooMany weight sets) shows = shows.says.0.formed
shows_formed weights good conflicts most d verdict.Spent shows = shows.says.formed

-- those of the first derivation, which is the one that is written
abbrev IsFirstFormed : List Derivation → Type 0
IsFirstFormed [] = Unit {0}
IsFirstFormed (d ∷ others) = All IsFormed d.steps

answer_formed : (j : LocaliseJob) (x : Texts) (handed : List Derivation) (a : Answer) → IsAnswer j x handed a
    →
    IsFirstFormed handed
answer_formed j x handed a (at_once is none) = subst IsFirstFormed (sym none) tt
answer_formed j x handed a (by_search p spells none found) = subst IsFirstFormed (sym found.handed_is)
    (shows_formed _ _ j.conflicts j.sets found.derivation found.verdict found.shows)

all_answer_formed : (j : AllJob) (x : Texts) (handed : List Derivation) (a : Answer) →
    several.IsAnswer j x handed a → IsFirstFormed handed
all_answer_formed j x handed a (at_once is none) = subst IsFirstFormed (sym none) tt
all_answer_formed j x handed a (by_search p spells none found) = subst IsFirstFormed (sym found.handed_is)
    (shows_formed _ _ j.conflicts j.sets found.derivation found.verdict found.shows)

localise_formed : (j : LocaliseJob) (before read : Outside) (handed : List Derivation) (a : Answer) →
    FilesComeTo parts_of (files_of j) (Unaided (IsAnswer j)) before read handed a → IsFirstFormed handed
localise_formed j before read handed a (unread is none) = subst IsFirstFormed (sym none) tt
localise_formed j before read handed a (by_texts x opened are holds) = answer_formed j x handed a holds.1

all_formed : (j : AllJob) (before read : Outside) (handed : List Derivation) (a : Answer) →
    FilesComeTo parts_of (all_jobs.files_of j) (Unaided (several.IsAnswer j)) before read handed a →
    IsFirstFormed handed
all_formed j before read handed a (unread is none) = subst IsFirstFormed (sym none) tt
all_formed j before read handed a (by_texts x opened are holds) = all_answer_formed j x handed a holds.1

-- WHAT IS WRITTEN before anything is printed

-- a whole certificate begins with its first bytes
whole_begins : (h : CertHead) (steps : List CertStep) (kept : Option (List ℕ)) → All IsFormed steps →
    IfSome kept (λ bytes. bytes ≡ certificate_of h steps) → IfSome kept (BeginsText h)
whole_begins h steps None formed held = tt
whole_begins h steps (Some bytes) formed held = (
  steps,
  formed,
  (length bytes, sym (take_all (length bytes) bytes (omega arith)) ∙ ap (take (length bytes)) held),
)

may_begin : (h : CertHead) (name : Option Word) (handed : List Derivation) (old new : Outside) →
    IsFirstFormed handed → Certifies h name handed old new → MayBegin h name old new
may_begin h None handed old new formed same = same
may_begin h (Some name) [] old new formed same = inl same
may_begin h (Some name) (d ∷ others) old new formed writes = inr (record {
  only = writes.only;
  beginning = inr ∣ whole_begins h d.steps (new.kept name) formed writes.holds ∣₁;
})

comes_begin : (r : Request) (before read after : Outside) (handed : List Derivation) (a : Answer) →
    RequestComesTo r before read handed a → Certifies (head_in r) (cert_of r) handed read after →
    MayBegin (head_in r) (cert_of r) read after
comes_begin (request.Localise j) before read after handed a comes certifies =
    may_begin (head_by j) j.cert handed read after (localise_formed j before read handed a comes) certifies
comes_begin (request.LocaliseAll j) before read after handed a comes certifies =
    may_begin (all_jobs.head_by j) j.cert handed read after (all_formed j before read handed a comes)
    certifies
comes_begin request.Refused before read after handed a comes same = same
comes_begin (request.Sample additions) before read after handed a comes same = same
comes_begin (request.Check j) before read after handed a comes same = same
comes_begin (request.CheckAll j) before read after handed a comes same = same
comes_begin (request.Run j) before read after handed a comes same = same
comes_begin (request.Places j) before read after handed a comes same = same
comes_begin (request.Rank j) before read after handed a comes same = same
comes_begin (request.Repair j) before read after handed a comes same = same

-- WHAT A REQUEST PASSED: it read, and may have begun the certificate, if one is named
record Passes (h : CertHead) (cert : Option Word) (before after : Outside) : Type 0 where
  pub read : Outside
  pub reads : OnlyReads before read
  pub may : MayBegin h cert read after

comes_passes : (r : Request) (before after : Outside) (t u : Told) (a : Answer) →
    Comes r before after t u a → Passes (head_in r) (cert_of r) before after
comes_passes r before after t u a c = record {
  read = c.read;
  reads = c.reads;
  may = comes_begin r before c.read after c.handed a c.comes c.certifies;
}

only_read : (before after : Outside) → OnlyReads before after → Passes no_head None before after
only_read before after reads = record { read = after; reads = reads; may = refl }

check_reads : (of : Subject) (j : CheckJob) (x : Texts) (before after : Outside) (t u : Told) →
    check.Stops of j x before after t u → OnlyReads before after
check_reads of j x before after t u (check.at_once same hands) =
    subst (OnlyReads before) (sym same) (only_reads_none before)
check_reads of j x before after t u (check.in_check p spells none reads may logs) = reads

behind_passes : (r : Request) (x : Texts) (before read after : Outside) (t u : Told) → OnlyReads before read →
    StopsBehind r x read after t u → Passes (head_in r) (cert_of r) before after
behind_passes (request.Localise j) x before read after t u reads s =
    record { read = read; reads = reads; may = stops_begin j x read after t u s }
behind_passes (request.LocaliseAll j) x before read after t u reads s =
    record { read = read; reads = reads; may = all_stops_begin j x read after t u s }
behind_passes (request.Check j) x before read after t u reads s = only_read before after
    (only_reads_on before read after reads (check_reads (one_run j) j x read after t u s))
behind_passes (request.CheckAll j) x before read after t u reads s = only_read before after
    (only_reads_on before read after reads (check_reads (all_runs j) j x read after t u s))
behind_passes (request.Places j) x before read after t u reads s =
    record { read = read; reads = reads; may = s.0 }
behind_passes (request.Rank j) x before read after t u reads s =
    record { read = read; reads = reads; may = s.0 }
behind_passes request.Refused x before read after t u reads never = absurd never
behind_passes (request.Sample additions) x before read after t u reads never = absurd never
behind_passes (request.Run j) x before read after t u reads never = absurd never
behind_passes (request.Repair j) x before read after t u reads never = absurd never

read_passes : (r : Request) (before after : Outside) → OnlyReads before after →
    Passes (head_in r) (cert_of r) before after
read_passes r before after reads = record {
  read = after;
  reads = reads;
  may = nothing_begun (head_in r) (cert_of r) after;
}

stops_passes : (r : Request) (before after : Outside) (t u : Told) → Stops r before after t u →
    Passes (head_in r) (cert_of r) before after
stops_passes r before after t u (in_reading reads hands) = read_passes r before after reads
stops_passes r before after t u (in_sample additions is s) =
    subst (λ r. Passes (head_in r) (cert_of r) before after) (sym is) (record {
      read = before;
      reads = only_reads_none before;
      may = stops_begin (sample_job additions) (sample_texts additions) before after t u s;
    })
stops_passes r before after t u (in_repair j is x files s) =
    read_passes r before after (all_only (files_in r) (repair_jobs.parts_of x) before after files)
stops_passes r before after t u (behind x read files s) =
    behind_passes r x before read after t u (all_only (files_in r) (parts_of x) before read files) s

writes_none : (o : Outside) → OnlyWrites o o
writes_none o = record {
  no_fall = omega arith;
  printed = refl;
  is_reading = refl;
  read_faults = refl;
  print_shortages = refl;
  given = refl;
}

pub only_writes : (h : CertHead) (name : Option Word) (old new : Outside) → MayBegin h name old new →
    OnlyWrites old new
only_writes h None old new same = subst (OnlyWrites old) (sym same) (writes_none old)
only_writes h (Some name) old new (inl same) = subst (OnlyWrites old) (sym same) (writes_none old)
only_writes h (Some name) old new (inr begins) = begins.only.stays

-- the faults of reading stay
pub reads_stay : (r : Request) (before after : Outside) (t u : Told) (a : Answer) (c : Comes r before after
    t u a) →
    after.read_faults ≡ c.read.read_faults
reads_stay r before after t u a c = (only_writes (head_in r) (cert_of r) c.read after
    (comes_begin r before c.read after c.handed a c.comes c.certifies)).read_faults

-- nothing was printed, no fault of reading rose, and no print found no memory
pub record IsUnprinted (before after : Outside) : Type 0 where
  pub printed : after.printed ≡ before.printed
  pub write_no_fall : before.write_faults ≤ after.write_faults
  pub shortages : after.print_shortages ≡ before.print_shortages

unprinted : (h : CertHead) (name : Option Word) (before after : Outside) → Passes h name before after →
    IsUnprinted before after
unprinted h name before after s =
    let w = only_writes h name s.read after s.may in record {
      printed = w.printed ∙ s.reads.printed;
      write_no_fall = let e = s.reads.write_faults in let h = w.no_fall in omega (arith, e, h);
      shortages = w.print_shortages ∙ s.reads.print_shortages;
    }

prints_since : (before mid after : Outside) (text : List ℕ) → IsUnprinted before mid → Prints mid after text
    → Prints before after text
prints_since before mid after text u prints = prints ∙ ap (option_map (λ bytes. bytes ++ text)) u.printed

part_since : (before mid after : Outside) (text : List ℕ) → IsUnprinted before mid →
    PrintsPrefix mid after text → PrintsPrefix before after text
part_since before mid after text u (count, prints) =
    (count, prints_since before mid after (take count text) u prints)

shortage_since : (before mid after : Outside) → IsUnprinted before mid → HasPrintShortage mid after
    → HasPrintShortage before after
shortage_since before mid after u rose =
    let same : before.print_shortages ≤ mid.print_shortages = let e = u.shortages in omega (arith, e) in
    rose_since before.print_shortages mid.print_shortages after.print_shortages same rose

-- A CALL THAT COMES TO AN ANSWER, and shows it
pub record Ends (c : Call) (a : Answer) (result : Status) : Type 0 where
  pub written : Outside
  pub comes : Comes (request_of c.words) c.before written c.told_before c.told_after a
  pub prints : OnlyPrints written c.after
  pub shown : IsShown a written c.after result
  pub prefix : PrintsPrefix written c.after (text_of a)
  pub stops : Stops (request_of c.words) c.before written c.told_before c.told_after

module _ (c : Call) (a : Answer) (result : Status) (s : Ends c a result) where
  came : ComesTo c a
  came = record { written = s.written; comes = s.comes; prints = s.prints }

  still : IsUnprinted c.before s.written
  still = unprinted _ _ c.before s.written
      (comes_passes (request_of c.words) c.before s.written c.told_before c.told_after a s.comes)

  in_part : AnsweredInPart c
  in_part = (a, came, part_since c.before s.written c.after (text_of a) still s.prefix)

  pub fault_since : HasWriteFault s.written c.after → HasWriteFault c.before c.after
  fault_since rose = rose_since c.before.write_faults s.written.write_faults c.after.write_faults
      still.write_no_fall rose

  pub ends_says : Says c result
  ends_says = by s.shown where
    by : IsShown a s.written c.after result → Says c result
    by (inl whole) = subst (Says c) (sym whole.0)
        (said c a (came, prints_since c.before s.written c.after (text_of a) still whole.1))
    by (inr (inl fault)) = subst (Says c) (sym fault.0) (inl (fault_since fault.1, in_part))
    by (inr (inr (is, inl same))) = subst (Says c) (sym is)
        (inl (subst (λ o. Stops (request_of c.words) c.before o c.told_before c.told_after) (sym same)
        s.stops))
    by (inr (inr (is, inr short))) = subst (Says c) (sym is)
        (inr (shortage_since c.before s.written c.after still short, in_part))

-- NO FILE IS WRITTEN but the certificate

may_write : (h : CertHead) (name : Option Word) (before read mid after : Outside) → OnlyReads before read →
    MayBegin h name read mid
    → OnlyPrints mid after → WritesOnly name before after
may_write h None before read mid after reads same prints =
    let print : OnlyPrints read after = subst (λ o. OnlyPrints o after) same prints in record {
      held = print.held ∙ reads.held;
      kept = print.kept ∙ reads.kept;
      writing = print.writing ∙ reads.writing;
      is_writing = print.is_writing ∙ reads.is_writing;
      read_no_fall = let e = print.read_faults in let h = reads.no_fall in omega (arith, e, h);
      write_no_fall = let e = reads.write_faults in let h = print.no_fall in omega (arith, e, h);
    }
may_write h (Some name) before read mid after reads (inl same) prints =
    let print : OnlyPrints read after = subst (λ o. OnlyPrints o after) same prints in record {
      held = λ other apart. ap (λ (held : Word → Option (Option (List ℕ))). held other)
          (print.held ∙ reads.held);
      kept = λ other apart. ap (λ (kept : Word → Option (List ℕ)). kept other) (print.kept ∙ reads.kept);
      read_no_fall = let e = print.read_faults in let h = reads.no_fall in omega (arith, e, h);
      write_no_fall = let e = reads.write_faults in let h = print.no_fall in omega (arith, e, h);
    }
may_write h (Some name) before read mid after reads (inr begins) prints =
    let w = begins.only.stays in record {
      held = λ other apart. ap (λ (held : Word → Option (Option (List ℕ))). held other) prints.held
          ∙ begins.only.held other apart
          ∙ ap (λ (held : Word → Option (Option (List ℕ))). held other) reads.held;
      kept = λ other apart. ap (λ (kept : Word → Option (List ℕ)). kept other) prints.kept
          ∙ begins.only.kept other apart ∙ ap (λ (kept : Word → Option (List ℕ)). kept other) reads.kept;
      read_no_fall = let e = prints.read_faults in let f = w.read_faults in let h = reads.no_fall in
          omega (arith, e, f, h);
      write_no_fall = let e = reads.write_faults in let f = w.no_fall in let h = prints.no_fall in
          omega (arith, e, f, h);
    }

passes_write : (h : CertHead) (name : Option Word) (before mid after : Outside) → Passes h name before mid →
    OnlyPrints mid after → WritesOnly name before after
passes_write h name before mid after s prints =
    may_write h name before s.read mid after s.reads s.may prints

prints_none : (o : Outside) → OnlyPrints o o
prints_none o = record {
  no_fall = omega arith;
  no_fewer = omega arith;
  held = refl;
  left = refl;
  kept = refl;
  writing = refl;
  is_reading = refl;
  is_writing = refl;
  read_faults = refl;
  given = refl;
}

pub stops_unprinted : (r : Request) (before after : Outside) (t u : Told) → Stops r before after t u
    → WritesOnly (cert_of r) before after
stops_unprinted r before after t u s = passes_write (head_in r) (cert_of r) before after after
    (stops_passes r before after t u s) (prints_none after)

pub comes_write : (r : Request) (before mid after : Outside) (t u : Told) (a : Answer) →
    Comes r before mid t u a
    → OnlyPrints mid after → WritesOnly (cert_of r) before after
comes_write r before mid after t u a c prints =
    passes_write (head_in r) (cert_of r) before mid after (comes_passes r before mid t u a c) prints
