-- The answer that is due to words and told files is the one that the call comes to, unless a fault rose.

use Rattle.std.proofs.Common.{◌≡◌, ◌⊎◌, inl, inr, ℕ, Bool, List, [], get_or, Option, Some, refl, sym, ap, subst, ◌∙◌}
use Rattle.ba_answers.specs.Printed.{status_of}
use Rattle.ba_answers.specs.declared.answers.Answer.{Answer}
use Rattle.ba_answers.specs.declared.answers.Answer.TheVariants as answer
use Rattle.ba_answers.specs.declared.file.File.{File}
use Rattle.ba_answers.specs.declared.status.Status.{Status}
use Rattle.ba_answers.specs.declared.status.Status.TheVariants as status
use Rattle.ba_cases.proofs.OneAnswer.{IsOfMeaning, all_of_meaning, case_of_meaning, none_or_one, one_at_once}
use Rattle.ba_cases.specs.AllCases.{all_answer as all_answer_at_once}
use Rattle.ba_cases.specs.AtOnce.{IsAtOnce, case_answer}
use Rattle.ba_cases.specs.Reading.{FilesAreDue, FilesComeTo, Unaided, by_texts, of_texts, parts_of, stopped, unread}
use Rattle.ba_cases.specs.Searching.{Agree, IsOfSearch, are_one, first_spent, runs_differ, second_spent}
use Rattle.ba_cases.specs.declared.texts.Texts.{Texts}
use Rattle.ba_commands.specs.Modes.{Word}
use Rattle.ba_derivations.specs.Handing.{Derivation}
use Rattle.ba_files.proofs.Told.{all_answer, all_only, all_read, stop_answer, stop_read}
use Rattle.ba_files.specs.Files.{TellsAll, TellsStop, answer_for}
use Rattle.ba_files.specs.declared.files.Named.{Named}
use Rattle.ba_tree.specs.declared.tree.Program.{Program}
use Rattle.ba_world.proofs.WholeReads.{only_reads_none, rose_since}
use Rattle.ba_world.specs.World.{HasReadFault, OnlyReads, Outside, Rose}
use Rattle.ba_world.specs.declared.read.ReadFileError.{ReadFileError}
use Rattle.mode_all.proofs.Rows.{one_answer_of_all, answer_of_search as all_answer_of_search}
use Rattle.mode_all.specs.Answers as several
use Rattle.mode_check.proofs.Checking.{EndsCheck, check_told}
use Rattle.mode_check.specs.Checks.{IsEndOfCheck, Subject, all_runs, one_run}
use Rattle.mode_check.specs.Checks as check
use Rattle.mode_check.specs.declared.jobs.CheckJob.{CheckJob}
use Rattle.mode_localise.proofs.Rows.{answer_of_search, one_answer}
use Rattle.mode_localise.proofs.SampleAnswers.{sample_answered}
use Rattle.mode_localise.specs.Answers as localise
use Rattle.mode_localise.specs.Jobs.{sample_job, sample_texts}
use Rattle.mode_places.proofs.Rows.{one_place_answer, answer_of_search as place_answer_of_search}
use Rattle.mode_places.specs.Answers as places
use Rattle.mode_rank.proofs.OneRanking.{IsOfRanking, ranking_of_search, one_answer as one_ranking}
use Rattle.mode_rank.specs.Answers as rank
use Rattle.mode_repair.proofs.Rows.{one_repair_answer, answer_of_search as repair_answer_of_search}
use Rattle.mode_repair.specs.Answers as repair
use Rattle.mode_repair.specs.Jobs as repair_jobs
use Rattle.mode_repair.specs.declared.texts.RepairTexts.{RepairTexts}
use Rattle.mode_run.proofs.Ending.{run_of_meaning}
use Rattle.mode_run.specs.Runs.{run_answer}
use Rattle.ba_tool.specs.Calls.{Call, EndsWhere, EndsWith, IsDue, IsEndFor, IsEndOf, IsEndOfRanking, IsEndOfSample, IsEndOfSearch, IsShown, RequestComesTo, RunsTo, TellsCheck, TellsFailing, as_wanted, located, memory, no_repair, ranked, read_fault, sample_spent, sampled, spent, spent_at, too_many, too_many_at, write_fault}
use Rattle.ba_tool.specs.Requests.{MayBeDone, files_in, request_of}
use Rattle.ba_tool.specs.declared.requests.Request.{Request}
use Rattle.ba_tool.specs.declared.requests.Request.TheVariants as request
use Rattle.ba_tool.proofs.Bounded.{may_be_done}
use Rattle.ba_tool.proofs.Ending.{Ends, fault_since, reads_stay}

-- THE END of a call

-- an answer ends a call to which it is due
own_end : (a : Answer) → IsEndFor a (status_of a)
own_end (answer.Located report) = inl refl
own_end (answer.Sampled additions weight sets) = inl refl
own_end (answer.Ranked report) = inl refl
own_end (answer.Edits report) = inl refl
own_end (answer.Accepted claimed) = refl
own_end (answer.AssertFails at) = refl
own_end (answer.Trap at) = refl
own_end (answer.NotFailing line) = refl
own_end answer.BadWords = refl
own_end (answer.BadProgram fault) = refl
own_end (answer.BadInput which fault line) = refl
own_end answer.TooLarge = refl
own_end (answer.BeyondBound at line) = refl
own_end (answer.PassingFails line) = refl
own_end answer.NoRepair = inl refl
own_end (answer.TooManySets weight most line) = inl refl
own_end (answer.BudgetSpent conflicts line) = spent
own_end (answer.Unreadable which) = refl
own_end (answer.TooLong which) = refl
own_end (answer.BadWeights line) = refl
own_end (answer.BadCertificate code line) = refl

-- to a search it may be that its conflicts are spent
may_spend : (due : Answer) → IsOfSearch due → IsEndFor due status.BudgetSpent
may_spend (answer.Located report) of = inr refl
may_spend (answer.Sampled additions weight sets) of = inr refl
may_spend (answer.Ranked report) of = inr refl
may_spend (answer.Edits report) of = inr refl
may_spend (answer.Accepted claimed) of = absurd of
may_spend (answer.AssertFails at) of = absurd of
may_spend (answer.Trap at) of = absurd of
may_spend (answer.NotFailing line) of = absurd of
may_spend answer.BadWords of = absurd of
may_spend (answer.BadProgram fault) of = absurd of
may_spend (answer.BadInput which fault line) of = absurd of
may_spend answer.TooLarge of = absurd of
may_spend (answer.BeyondBound at line) of = absurd of
may_spend (answer.PassingFails line) of = absurd of
may_spend answer.NoRepair of = inr refl
may_spend (answer.TooManySets weight most line) of = inr refl
may_spend (answer.BudgetSpent conflicts line) of = spent
may_spend (answer.Unreadable which) of = absurd of
may_spend (answer.TooLong which) of = absurd of
may_spend (answer.BadWeights line) of = absurd of
may_spend (answer.BadCertificate code line) of = absurd of

ends_search : (a : Answer) → IsOfSearch a → IsEndOfSearch (status_of a)
ends_search (answer.Located report) of = located
ends_search (answer.Sampled additions weight sets) of = located
ends_search (answer.Ranked report) of = located
ends_search (answer.Edits report) of = located
ends_search (answer.Accepted claimed) of = absurd of
ends_search (answer.AssertFails at) of = absurd of
ends_search (answer.Trap at) of = absurd of
ends_search (answer.NotFailing line) of = absurd of
ends_search answer.BadWords of = absurd of
ends_search (answer.BadProgram fault) of = absurd of
ends_search (answer.BadInput which fault line) of = absurd of
ends_search answer.TooLarge of = absurd of
ends_search (answer.BeyondBound at line) of = absurd of
ends_search (answer.PassingFails line) of = absurd of
ends_search answer.NoRepair of = no_repair
ends_search (answer.TooManySets weight most line) of = too_many
ends_search (answer.BudgetSpent conflicts line) of = spent
ends_search (answer.Unreadable which) of = absurd of
ends_search (answer.TooLong which) of = absurd of
ends_search (answer.BadWeights line) of = absurd of
ends_search (answer.BadCertificate code line) of = absurd of

-- an answer of a ranking's searches
ends_ranking : (a : Answer) → IsOfRanking a → IsEndOfRanking (status_of a)
ends_ranking (answer.Located report) of = absurd of
ends_ranking (answer.Sampled additions weight sets) of = absurd of
ends_ranking (answer.Ranked report) of = ranked
ends_ranking (answer.Edits report) of = absurd of
ends_ranking (answer.Accepted claimed) of = absurd of
ends_ranking (answer.AssertFails at) of = absurd of
ends_ranking (answer.Trap at) of = absurd of
ends_ranking (answer.NotFailing line) of = absurd of
ends_ranking answer.BadWords of = absurd of
ends_ranking (answer.BadProgram fault) of = absurd of
ends_ranking (answer.BadInput which fault line) of = absurd of
ends_ranking answer.TooLarge of = absurd of
ends_ranking (answer.BeyondBound at line) of = absurd of
ends_ranking (answer.PassingFails line) of = absurd of
ends_ranking answer.NoRepair of = absurd of
ends_ranking (answer.TooManySets weight most line) of = too_many_at
ends_ranking (answer.BudgetSpent conflicts line) of = spent_at
ends_ranking (answer.Unreadable which) of = absurd of
ends_ranking (answer.TooLong which) of = absurd of
ends_ranking (answer.BadWeights line) of = absurd of
ends_ranking (answer.BadCertificate code line) of = absurd of

-- an answer that agrees with the one that is due ends the call
agree_ends : (runs : Bool) (a due : Answer) → Agree runs a due → IsEndFor due (status_of a)
agree_ends runs a due (are_one e) = subst (λ due. IsEndFor due (status_of a)) e (own_end a)
agree_ends runs a due (first_spent conflicts line e of) =
    subst (λ a. IsEndFor due (status_of a)) (sym e) (may_spend due of)
agree_ends runs a due (second_spent conflicts line e of) =
    subst (λ due. IsEndFor due (status_of a)) (sym e) (ends_search a of)
agree_ends runs a due (runs_differ bytes others is are shown) =
    subst (λ a. IsEndFor due (status_of a)) (sym is)
    (subst (λ due. IsEndFor due status.Ok) (sym are) (inl refl))

-- with one of the statuses that are wanted, or a fault or out of memory in its place
module _ (c : Call) (wanted : Status → Type 0) (result : Status) where
  shown_ends : (a : Answer) (s : Ends c a result) → (result ≡ status_of a → EndsWith c wanted result) →
      EndsWith c wanted result
  shown_ends a s ends = by s.shown where
    by : IsShown a s.written c.after result → EndsWith c wanted result
    by (inl whole) = ends whole.0
    by (inr (inl fault)) = write_fault fault.0 (inl (fault_since c a result s fault.1))
    by (inr (inr short)) = memory short.0

  ends_as : (other : Status) → wanted other → result ≡ other → EndsWith c wanted result
  ends_as other holds is = as_wanted (subst wanted (sym is) holds)

-- FILES THAT ARE TOLD

texts_same : (y x : Texts) → parts_of y ≡ parts_of x → y ≡ x
texts_same y x same =
    let one : y.program ≡ x.program = ap (λ (ts : List (List ℕ)). get_or ts 0 []) same in
    let two : y.input ≡ x.input = ap (λ (ts : List (List ℕ)). get_or ts 1 []) same in
    let three : y.weights ≡ x.weights = ap (λ (ts : List (List ℕ)). get_or ts 2 []) same in
    let first : y ≡ record y { program = x.program } = ap (λ p. record y { program = p }) one in
    let second : record y { program = x.program } ≡ record {
      program = x.program;
      input = x.input;
      weights = y.weights;
    } =
    ap (λ (i : List ℕ). record { program = x.program; input = i; weights = y.weights }) two in
    let third : record { program = x.program; input = x.input; weights = y.weights } ≡ x =
    ap (λ (w : List ℕ). record { program = x.program; input = x.input; weights = w }) three in
    first ∙ second ∙ third

repair_texts_same : (y x : RepairTexts) → repair_jobs.parts_of y ≡ repair_jobs.parts_of x → y ≡ x
repair_texts_same y x same =
    let one : y.program ≡ x.program = ap (λ (ts : List (List ℕ)). get_or ts 0 []) same in
    let two : y.failing ≡ x.failing = ap (λ (ts : List (List ℕ)). get_or ts 1 []) same in
    let three : y.passing ≡ x.passing = ap (λ (ts : List (List ℕ)). get_or ts 2 []) same in
    let four : y.weights ≡ x.weights = ap (λ (ts : List (List ℕ)). get_or ts 3 []) same in
    λ i. record { program = one i; failing = two i; passing = three i; weights = four i }

-- the type of a mode's texts: two with the same parts are one
module _ {X : Type 0} (parts : X → List (List ℕ)) (alike : (y x : X) → parts y ≡ parts x → y ≡ x)
    (c : Call) (result : Status) (files : List Named) (mid : Outside)
    (same : c.after.read_faults ≡ mid.read_faults) where
  read_rose : HasReadFault c.before mid → HasReadFault c.before c.after
  read_rose rose = subst (λ n. Rose c.before.read_faults n) (sym same) rose

  -- they are read, and their texts come to the answer; or a fault rose
  told_end : (wanted : Status → Type 0) (row : X → Outside → Outside → List Derivation → Answer → Type 0)
      (x : X) (handed : List Derivation) (a : Answer) → TellsAll c.before files (parts x) →
      ((read : Outside) → OnlyReads c.before read → row x read mid handed a → EndsWith c wanted result) →
      FilesComeTo parts files row c.before mid handed a → result ≡ status_of a → EndsWith c wanted result
  told_end wanted row x handed a tells ends (unread is none) e =
      let fault = all_answer files (parts x) is.which is.error c.before mid a tells is.stops is.answers in
      read_fault (e ∙ ap status_of fault.0) (read_rose fault.1)
  told_end wanted row x handed a tells ends (by_texts y read are holds) e =
      ends read (all_only files (parts y) c.before read are)
      (subst (λ x. row x read mid handed a) (alike y x
      (all_read files (parts x) (parts y) c.before c.before read (only_reads_none c.before) tells are))
      holds)

  -- one of them can't be read, or is too long
  stop_end : (row : X → Outside → Outside → List Derivation → Answer → Type 0) (which : File)
      (error : ReadFileError) (due a : Answer) (handed : List Derivation) → TellsStop which error c.before
      files →
      answer_for which error ≡ Some due → FilesComeTo parts files row c.before mid handed a →
      result ≡ status_of a → EndsWith c (IsEndFor due) result
  stop_end row which error due a handed told is (by_texts y read are holds) e =
      absurd (stop_read files which error (parts y) c.before c.before read (only_reads_none c.before) told
      are)
  stop_end row which error due a handed told is (unread u none) e =
      by (stop_answer files which u.which error u.error c.before mid due a told is u.stops u.answers)
    where
      by : (a ≡ due) ⊎ ((a ≡ answer.Unreadable u.which) × HasReadFault c.before mid) →
          EndsWith c (IsEndFor due) result
      by (inl same_answer) = ends_as c (IsEndFor due) result (status_of a)
          (subst (λ due. IsEndFor due (status_of a)) same_answer (own_end a)) e
      by (inr (failed, rose)) = read_fault (e ∙ ap status_of failed) (read_rose rose)

  -- THE ANSWER THAT IS DUE, where the row of a mode agrees with what is due to texts
  due_end : (row : X → Outside → Outside → List Derivation → Answer → Type 0)
      (due_row : X → Answer → Type 0) (due a : Answer) (handed : List Derivation) →
      ((x : X) (read : Outside) → row x read mid handed a → due_row x due → IsEndFor due (status_of a)) →
      FilesAreDue parts files due_row c.before due → FilesComeTo parts files row c.before mid handed a →
      result ≡ status_of a → EndsWith c (IsEndFor due) result
  due_end row due_row due a handed agree (of_texts x tells is) comes e =
      told_end (IsEndFor due) row x handed a tells
      (λ read only holds. ends_as c (IsEndFor due) result (status_of a) (agree x read holds is) e) comes e
  due_end row due_row due a handed agree (stopped which error told is) comes e =
      stop_end row which error due a handed told is comes e

-- BY REQUESTS

once_end : (source : List ℕ) (first : Program → Option Answer) (a due : Answer) → a ≡ due →
    IsEndFor due (status_of a)
once_end source first a due same = subst (λ due. IsEndFor due (status_of a)) same (own_end a)

check_due : (of : Subject) (j : CheckJob) (x : Texts) (before after : Outside) (handed : List Derivation)
    (a due : Answer) → IsOfMeaning (of.answer_at_once x) → check.IsAnswer of j x before after handed a →
    IsAtOnce x.program (of.answer_at_once x) due → IsEndFor due (status_of a)
check_due of j x before after handed a due one (check.IsAnswer.at_once is none same) once =
    once_end x.program (of.answer_at_once x) a due
    (one_at_once x.program (of.answer_at_once x) one a due is once)
check_due of j x before after handed a due one (check.IsAnswer.by_certificate p spells none judged) once =
    absurd (none_or_one x.program (of.answer_at_once x) one p due spells none once)

request_due : (c : Call) (r : Request) (due a : Answer) (result : Status) (mid : Outside)
    (handed : List Derivation) → IsDue r c.before due → c.after.read_faults ≡ mid.read_faults →
    RequestComesTo r c.before mid handed a → result ≡ status_of a → EndsWith c (IsEndFor due) result
request_due c request.Refused due a result mid handed is same comes e =
    ends_as c (IsEndFor due) result (status_of a)
    (subst (λ due. IsEndFor due (status_of a)) (comes.0 ∙ sym is) (own_end a)) e
request_due c (request.Sample n) due a result mid handed (other, is) same (unchanged, holds) e =
    ends_as c (IsEndFor due) result (status_of a)
    (agree_ends _ a due (one_answer (sample_job n) (sample_texts n) handed other a due holds is)) e
request_due c (request.Localise j) due a result mid handed is same comes e =
    due_end parts_of texts_same c result (files_in (request.Localise j)) mid same
    (Unaided (localise.IsAnswer j))
    (λ x a. (others : List Derivation) × localise.IsAnswer j x others a) due a handed
    (λ x read holds other. agree_ends _ a due (one_answer j x handed other.0 a due holds.1 other.1)) is comes
    e
request_due c (request.Check j) due a result mid handed is same comes e =
    due_end parts_of texts_same c result (files_in (request.Check j)) mid same (check.IsAnswer (one_run j) j)
    (λ x a. IsAtOnce x.program (case_answer j.bounds x) a) due a handed
    (λ x read holds once. check_due (one_run j) j x read mid handed a due (case_of_meaning j.bounds x) holds
    once) is comes e
request_due c (request.CheckAll j) due a result mid handed is same comes e =
    due_end parts_of texts_same c result (files_in (request.CheckAll j)) mid same
    (check.IsAnswer (all_runs j) j)
    (λ x a. IsAtOnce x.program (all_answer_at_once j.bounds x) a) due a handed
    (λ x read holds once. check_due (all_runs j) j x read mid handed a due (all_of_meaning j.bounds x) holds
    once) is comes e
request_due c (request.LocaliseAll j) due a result mid handed is same comes e =
    due_end parts_of texts_same c result (files_in (request.LocaliseAll j)) mid same
    (Unaided (several.IsAnswer j))
    (λ x a. (others : List Derivation) × several.IsAnswer j x others a) due a handed
    (λ x read holds other. agree_ends _ a due (one_answer_of_all j x handed other.0 a due holds.1 other.1)) is
    comes e
request_due c (request.Run j) due a result mid handed is same comes e =
    due_end parts_of texts_same c result (files_in (request.Run j)) mid same (Unaided (RunsTo j))
    (λ x a. IsAtOnce x.program (run_answer j.bounds x) a) due a handed
    (λ x read holds once. once_end x.program (run_answer j.bounds x) a due
    (one_at_once x.program (run_answer j.bounds x) (run_of_meaning j.bounds x) a due holds.1.0 once)) is comes
    e
request_due c (request.Places j) due a result mid handed is same comes e =
    due_end parts_of texts_same c result (files_in (request.Places j)) mid same (Unaided (places.IsAnswer j))
    (λ x a. (others : List Derivation) × places.IsAnswer j x others a) due a handed
    (λ x read holds other. agree_ends _ a due (one_place_answer j x handed other.0 a due holds.1 other.1)) is
    comes e
request_due c (request.Rank j) due a result mid handed is same comes e =
    due_end parts_of texts_same c result (files_in (request.Rank j)) mid same (Unaided (rank.IsAnswer j))
    (λ x a. (others : List Derivation) × rank.IsAnswer j x others a) due a handed
    (λ x read holds other. agree_ends _ a due (one_ranking j x handed other.0 a due holds.1 other.1)) is
    comes e
request_due c (request.Repair j) due a result mid handed is same comes e =
    due_end repair_jobs.parts_of repair_texts_same c result (files_in (request.Repair j)) mid same
    (Unaided (repair.IsAnswer j)) (λ x a. (others : List Derivation) × repair.IsAnswer j x others a) due a
    handed
    (λ x read holds other. agree_ends _ a due (one_repair_answer j x handed other.0 a due holds.1 other.1)) is
    comes e

-- SEARCHES of runs that fail

end_of_sample : (n : ℕ) (a : Answer) → localise.IsAnswerOfSample n a → IsEndOfSample (status_of a)
end_of_sample n a (inl is) = subst (λ a. IsEndOfSample (status_of a)) (sym is) sampled
end_of_sample n a (inr is) = subst (λ a. IsEndOfSample (status_of a)) (sym is) sample_spent

request_failing : (c : Call) (r : Request) (a : Answer) (result : Status) (mid : Outside)
    (handed : List Derivation) → MayBeDone r → TellsFailing r c.before →
    c.after.read_faults ≡ mid.read_faults → RequestComesTo r c.before mid handed a → result ≡ status_of a →
    EndsWith c (IsEndOf r) result
request_failing c request.Refused a result mid handed may never same comes e = absurd never
request_failing c (request.Check j) a result mid handed may never same comes e = absurd never
request_failing c (request.CheckAll j) a result mid handed may never same comes e = absurd never
request_failing c (request.Run j) a result mid handed may never same comes e = absurd never
request_failing c (request.Sample n) a result mid handed few told same (unchanged, holds) e =
    ends_as c IsEndOfSample result (status_of a) (end_of_sample n a (sample_answered n few handed a holds)) e
request_failing c (request.Localise j) a result mid handed may t same comes e =
    told_end parts_of texts_same c result (files_in (request.Localise j)) mid same
    IsEndOfSearch (Unaided (localise.IsAnswer j))
    t.texts handed a t.told
    (λ read only holds. ends_as c IsEndOfSearch result (status_of a) (ends_search a
    (answer_of_search j t.texts t.program t.spelled t.undecided handed a holds.1)) e) comes e
request_failing c (request.Places j) a result mid handed may t same comes e =
    told_end parts_of texts_same c result (files_in (request.Places j)) mid same
    IsEndOfSearch (Unaided (places.IsAnswer j))
    t.texts handed a t.told
    (λ read only holds. ends_as c IsEndOfSearch result (status_of a) (ends_search a
    (place_answer_of_search j t.texts t.program t.spelled t.undecided handed a holds.1)) e) comes e
request_failing c (request.LocaliseAll j) a result mid handed may t same comes e =
    told_end parts_of texts_same c result (files_in (request.LocaliseAll j)) mid same
    IsEndOfSearch (Unaided (several.IsAnswer j))
    t.texts handed a t.told
    (λ read only holds. ends_as c IsEndOfSearch result (status_of a) (ends_search a
    (all_answer_of_search j t.texts t.program t.spelled t.undecided handed a holds.1)) e) comes e
request_failing c (request.Rank j) a result mid handed may t same comes e =
    told_end parts_of texts_same c result (files_in (request.Rank j)) mid same
    IsEndOfRanking (Unaided (rank.IsAnswer j))
    t.texts handed a t.told
    (λ read only holds. ends_as c IsEndOfRanking result (status_of a) (ends_ranking a
    (ranking_of_search j t.texts t.program t.spelled t.undecided handed a holds.1)) e) comes e
request_failing c (request.Repair j) a result mid handed may t same comes e =
    told_end repair_jobs.parts_of repair_texts_same c result (files_in (request.Repair j)) mid same
    IsEndOfSearch (Unaided (repair.IsAnswer j)) t.texts handed a t.told
    (λ read only holds. ends_as c IsEndOfSearch result (status_of a) (ends_search a
    (repair_answer_of_search j t.texts t.program t.spelled t.undecided handed a holds.1)) e) comes e

-- A CHECK

request_checking : (c : Call) (r : Request) (a : Answer) (result : Status) (mid : Outside)
    (handed : List Derivation) (name : Word) (told : Option (List ℕ)) → TellsCheck r c.before name →
    c.before.held name ≡ Some told → c.after.read_faults ≡ mid.read_faults →
    RequestComesTo r c.before mid handed a → result ≡ status_of a → EndsWith c (IsEndOfCheck told) result
request_checking c request.Refused a result mid handed name told never held same comes e = absurd never
request_checking c (request.Sample n) a result mid handed name told never held same comes e = absurd never
request_checking c (request.Localise j) a result mid handed name told never held same comes e = absurd never
request_checking c (request.LocaliseAll j) a result mid handed name told never held same comes e =
    absurd never
request_checking c (request.Run j) a result mid handed name told never held same comes e = absurd never
request_checking c (request.Places j) a result mid handed name told never held same comes e = absurd never
request_checking c (request.Rank j) a result mid handed name told never held same comes e = absurd never
request_checking c (request.Repair j) a result mid handed name told never held same comes e = absurd never
request_checking c (request.Check j) a result mid handed name told (is, t) held same comes e =
    told_end parts_of texts_same c result (files_in (request.Check j)) mid same (IsEndOfCheck told)
    (check.IsAnswer (one_run j) j) t.texts
    handed a t.told
    (λ read only holds. by read only (check_told (one_run j) j t.texts (case_of_meaning j.bounds t.texts)
    t.program t.spelled t.undecided told read mid handed a
    (ap (λ (all : Word → Option (Option (List ℕ))). all j.cert) only.held
    ∙ subst (λ n. c.before.held n ≡ Some told) is held) holds)) comes e
  where
    by : (read : Outside) → OnlyReads c.before read → EndsCheck told read mid (status_of a) →
        EndsWith c (IsEndOfCheck told) result
    by read only (inl end) = ends_as c (IsEndOfCheck told) result (status_of a) end e
    by read only (inr (failed, rose)) = read_fault (e ∙ failed)
        (read_rose parts_of texts_same c result (files_in (request.Check j)) mid same
        (rose_since c.before.read_faults read.read_faults mid.read_faults only.no_fall rose))
request_checking c (request.CheckAll j) a result mid handed name told (is, t) held same comes e =
    told_end parts_of texts_same c result (files_in (request.CheckAll j)) mid same (IsEndOfCheck told)
    (check.IsAnswer (all_runs j) j) t.texts
    handed a t.told
    (λ read only holds. by read only (check_told (all_runs j) j t.texts (all_of_meaning j.bounds t.texts)
    t.program t.spelled t.undecided told read mid handed a
    (ap (λ (all : Word → Option (Option (List ℕ))). all j.cert) only.held
    ∙ subst (λ n. c.before.held n ≡ Some told) is held) holds)) comes e
  where
    by : (read : Outside) → OnlyReads c.before read → EndsCheck told read mid (status_of a) →
        EndsWith c (IsEndOfCheck told) result
    by read only (inl end) = ends_as c (IsEndOfCheck told) result (status_of a) end e
    by read only (inr (failed, rose)) = read_fault (e ∙ failed)
        (read_rose parts_of texts_same c result (files_in (request.CheckAll j)) mid same
        (rose_since c.before.read_faults read.read_faults mid.read_faults only.no_fall rose))

-- A CALL

-- the faults of reading are those of the reading
read_faults_stay : (c : Call) (a : Answer) (result : Status) (s : Ends c a result) →
    c.after.read_faults ≡ s.comes.read.read_faults
read_faults_stay c a result s = s.prints.read_faults
    ∙ reads_stay (request_of c.words) c.before s.written c.told_before c.told_after a s.comes

pub ends_where : (c : Call) (a : Answer) (result : Status) → Ends c a result → EndsWhere c result
ends_where c a result s =
    let r = request_of c.words in
    let same = read_faults_stay c a result s in
    let comes = s.comes in
    record {
      due = λ due is. shown_ends c (IsEndFor due) result a s
          (λ e. request_due c r due a result comes.read comes.handed is same comes.comes e);
      failing = λ failing. shown_ends c (IsEndOf r) result a s
          (λ e. request_failing c r a result comes.read comes.handed (may_be_done c.words) failing same
          comes.comes e);
      checking = λ name told checking held. shown_ends c (IsEndOfCheck told) result a s
          (λ e. request_checking c r a result comes.read comes.handed name told checking held same comes.comes
          e);
    }
