-- Where a request ends, by where its reading or its mode ends.

use Rattle.std.proofs.Common.{◌≡◌, ℕ, inl, inr, Option, None, Some, [], Result, Ok, Err, IfOk, IfErr, refl, sym, subst, arith}
use Rattle.std.proofs.lemmas.Result.{IfOk-weaker}
use Rattle.ba_answers.specs.declared.answers.Answer.{Answer}
use Rattle.ba_answers.specs.declared.answers.Answer.TheVariants as answer
use Rattle.ba_cases.proofs.Answered.{stop_no_fault}
use Rattle.ba_cases.specs.AtOnce.{IsAnswered, IsAtOnce}
use Rattle.ba_cases.specs.Reading.{StopsUnread, IsUnreadAs, by_texts, parts_of}
use Rattle.ba_cases.specs.Searching.{HasHandFault}
use Rattle.ba_cases.specs.declared.stop.Stop.{Stop}
use Rattle.ba_cases.specs.declared.stop.Stop.TheVariants as stop
use Rattle.ba_cases.specs.declared.texts.Texts.{Texts}
use Rattle.ba_cert.specs.declared.head.CertHead.{CertHead}
use Rattle.ba_commands.specs.Modes.{Word}
use Rattle.ba_files.specs.Files.{AreRead}
use Rattle.ba_search.specs.declared.search.SearchError.{SearchError}
use Rattle.ba_search.specs.declared.search.SearchError.TheVariants as error
use Rattle.ba_steps.proofs.SinkLaws.{Outlasts-refl}
use Rattle.ba_steps.specs.Sinks.{Told}
use Rattle.ba_world.proofs.WholeReads.{only_reads_none, only_reads_on}
use Rattle.ba_world.specs.World.{OnlyReads, Outside}
use Rattle.mode_all.specs.Jobs as several
use Rattle.mode_all.specs.Searches as all_searches
use Rattle.mode_all.specs.declared.jobs.AllJob.{AllJob}
use Rattle.mode_check.specs.Checks.{all_runs, one_run}
use Rattle.mode_check.specs.Checks as check
use Rattle.mode_check.specs.Jobs as checks
use Rattle.mode_check.specs.declared.jobs.CheckJob.{CheckJob}
use Rattle.ba_certified.specs.Certifying.{Certifies}
use Rattle.mode_localise.specs.Jobs as localise
use Rattle.mode_localise.specs.Jobs.{sample_job, sample_texts}
use Rattle.mode_localise.specs.Leaving as leaving
use Rattle.mode_localise.specs.declared.jobs.LocaliseJob.{LocaliseJob}
use Rattle.mode_places.specs.Jobs as places
use Rattle.mode_places.specs.Searches as place_searches
use Rattle.mode_places.specs.declared.jobs.PlacesJob.{PlacesJob}
use Rattle.mode_rank.specs.Jobs as rank
use Rattle.mode_rank.specs.Searches as searches
use Rattle.mode_rank.specs.declared.jobs.RankJob.{RankJob}
use Rattle.mode_repair.specs.Jobs as repair_jobs
use Rattle.mode_repair.specs.Searches as repair_searches
use Rattle.mode_repair.specs.declared.jobs.RepairJob.{RepairJob}
use Rattle.mode_repair.specs.declared.texts.RepairTexts.{RepairTexts}
use Rattle.mode_run.specs.Runs as run
use Rattle.mode_run.specs.Runs.{run_answer}
use Rattle.mode_run.specs.declared.running.RunJob.{RunJob}
use Rattle.ba_tool.specs.Calls.{Comes, RequestComesTo, RequestEnds, behind, in_reading, in_repair, in_sample}
use Rattle.ba_tool.specs.Requests.{cert_of, files_in, head_in}
use Rattle.ba_tool.specs.declared.requests.Request.{Request}
use Rattle.ba_tool.specs.declared.requests.Request.TheVariants as request

-- WITHOUT A DERIVATION nothing is certified
none_certified : (h : CertHead) (cert : Option Word) (o : Outside) → Certifies h cert [] o o
none_certified h None o = refl
none_certified h (Some name) o = refl

at_once_comes : (r : Request) (before after : Outside) (t : Told) (a : Answer) → OnlyReads before after →
    RequestComesTo r before after [] a → Comes r before after t t a
at_once_comes r before after t a reads comes = record {
  read = after;
  handed = [];
  comes = comes;
  reads = reads;
  hands = (refl, refl);
  certifies = none_certified (head_in r) (cert_of r) after;
}

-- WORDS THAT ARE NO COMMAND
pub refused_ends : (r : Request) (o : Outside) (t : Told) → r ≡ request.Refused →
    RequestEnds r o o t t (Ok answer.BadWords)
refused_ends r o t is = subst (λ r. RequestEnds r o o t t (Ok answer.BadWords)) (sym is) (record {
  answer = at_once_comes request.Refused o o t answer.BadWords (only_reads_none o) (refl, refl, refl);
  left = in_reading (only_reads_none o) (refl, refl);
  cause = λ failed. absurd (let no : ⊥ = cc in no);
  outlasts = Outlasts-refl t;
})

-- A FILE WASN'T READ
pub unread_ends : (r : Request) (before after : Outside) (t : Told) (s : Stop) (result : Result Answer
    SearchError)
    → OnlyReads before after → ((a : Answer) → IsUnreadAs (files_in r) before after a →
    RequestComesTo r before after [] a) → StopsUnread (files_in r) before after s → IsAnswered s result →
    RequestEnds r before after t t result
unread_ends r before after t s result reads comes is answered = record {
  answer = by s is answered;
  left = in_reading reads (refl, refl);
  cause = λ failed. absurd (stop_no_fault s result answered failed);
  outlasts = Outlasts-refl t;
}
  where
    by : (s : Stop) → StopsUnread (files_in r) before after s → IsAnswered s result →
        IfOk result (Comes r before after t t)
    by (stop.Answered a) is answered = subst (λ o. IfOk o (Comes r before after t t)) (sym answered)
        (at_once_comes r before after t a reads (comes a is))
    by stop.Memory is answered = subst (λ o. IfOk o (Comes r before after t t)) (sym answered) tt

-- A SAMPLE

own_sample_ends : (n : ℕ) (before after : Outside) (t u : Told) (result : Result Answer SearchError) →
    leaving.TextsEnd (sample_job n) (sample_texts n) before after t u result →
    RequestEnds (request.Sample n) before after t u result
own_sample_ends n before after t u result ends = record {
  answer = IfOk-weaker result _ (Comes (request.Sample n) before after t u)
      (λ a k. record {
        read = before;
        handed = k.handed;
        comes = (refl, k.is);
        reads = only_reads_none before;
        hands = k.hands;
        certifies = k.certifies;
      }) ends.answer;
  left = in_sample n refl ends.left;
  cause = ends.cause;
  outlasts = ends.outlasts;
}

pub sample_ends : (n : ℕ) (j : LocaliseJob) (x : Texts) (before after : Outside) (t u : Told)
    (result : Result Answer SearchError) → j ≡ sample_job n → x ≡ sample_texts n →
    leaving.TextsEnd j x before after t u result → RequestEnds (request.Sample n) before after t u result
sample_ends n j x before after t u result job texts ends = own_sample_ends n before after t u result
    (subst (λ x. leaving.TextsEnd (sample_job n) x before after t u result) texts
    (subst (λ j. leaving.TextsEnd j x before after t u result) job ends))

-- TEXTS THAT WERE READ come to an end by their mode

faults_later : (cert : Option Word) (before read after : Outside) (t u : Told) → OnlyReads before read →
    HasHandFault cert read after t u → HasHandFault cert before after t u
faults_later None before read after t u reads rose = rose
faults_later (Some name) before read after t u reads (inl rose) =
    let same = reads.write_faults in inl (omega (arith, same, rose))
faults_later (Some name) before read after t u reads (inr top) = inr top

pub localise_ends : (j : LocaliseJob) (x : Texts) (before read after : Outside) (t u : Told)
    (result : Result Answer SearchError) → AreRead (localise.files_of j) (parts_of x) before read →
    OnlyReads before read → leaving.TextsEnd j x read after t u result →
    RequestEnds (request.Localise j) before after t u result
localise_ends j x before read after t u result are reads ends = record {
  answer = IfOk-weaker result _ (Comes (request.Localise j) before after t u)
      (λ a k. record {
        read = read;
        handed = k.handed;
        comes = by_texts x read are (refl, k.is);
        reads = reads;
        hands = k.hands;
        certifies = k.certifies;
      }) ends.answer;
  left = behind x read are ends.left;
  cause = λ failed. faults_later j.cert before read after t u reads (ends.cause failed);
  outlasts = ends.outlasts;
}

pub all_ends : (j : AllJob) (x : Texts) (before read after : Outside) (t u : Told)
    (result : Result Answer SearchError) → AreRead (several.files_of j) (parts_of x) before read →
    OnlyReads before read → all_searches.TextsEnd j x read after t u result →
    RequestEnds (request.LocaliseAll j) before after t u result
all_ends j x before read after t u result are reads ends = record {
  answer = IfOk-weaker result _ (Comes (request.LocaliseAll j) before after t u)
      (λ a k. record {
        read = read;
        handed = k.handed;
        comes = by_texts x read are (refl, k.is);
        reads = reads;
        hands = k.hands;
        certifies = k.certifies;
      }) ends.answer;
  left = behind x read are ends.left;
  cause = λ failed. faults_later j.cert before read after t u reads (ends.cause failed);
  outlasts = ends.outlasts;
}

pub check_ends : (j : CheckJob) (x : Texts) (before read after : Outside) (t u : Told)
    (result : Result Answer SearchError) → AreRead (checks.files_of j) (parts_of x) before read →
    OnlyReads before read → OnlyReads read after → check.TextsEnd (one_run j) j x read after t u result →
    RequestEnds (request.Check j) before after t u result
check_ends j x before read after t u result are reads more ends = record {
  answer = IfOk-weaker result _ (Comes (request.Check j) before after t u)
      (λ a k. record {
        read = after;
        handed = k.handed;
        comes = by_texts x read are k.is;
        reads = only_reads_on before read after reads more;
        hands = k.hands;
        certifies = refl;
      }) ends.answer;
  left = behind x read are ends.left;
  cause = ends.cause;
  outlasts = ends.outlasts;
}

pub check_all_ends : (j : CheckJob) (x : Texts) (before read after : Outside) (t u : Told)
    (result : Result Answer SearchError) → AreRead (checks.files_with_inputs j) (parts_of x) before read →
    OnlyReads before read → OnlyReads read after → check.TextsEnd (all_runs j) j x read after t u result →
    RequestEnds (request.CheckAll j) before after t u result
check_all_ends j x before read after t u result are reads more ends = record {
  answer = IfOk-weaker result _ (Comes (request.CheckAll j) before after t u)
      (λ a k. record {
        read = after;
        handed = k.handed;
        comes = by_texts x read are k.is;
        reads = only_reads_on before read after reads more;
        hands = k.hands;
        certifies = refl;
      }) ends.answer;
  left = behind x read are ends.left;
  cause = ends.cause;
  outlasts = ends.outlasts;
}

pub run_ends : (j : RunJob) (x : Texts) (before after : Outside) (t : Told) (result : Result Answer
    SearchError) →
    AreRead (run.files_of j) (parts_of x) before after → OnlyReads before after →
    IfOk result (IsAtOnce x.program (run_answer j.bounds x)) → IfErr result (λ e. e ≡ error.Memory) →
    RequestEnds (request.Run j) before after t t result
run_ends j x before after t result are reads ok short = record {
  answer = IfOk-weaker result _ (Comes (request.Run j) before after t t)
      (λ a once. at_once_comes (request.Run j) before after t a reads
      (by_texts x after are (refl, (once, refl))))
      ok;
  left = in_reading reads (refl, refl);
  cause = λ failed. absurd (apart failed);
  outlasts = Outlasts-refl t;
}
  where
    apart : result ≡ Err error.SinkFailed → ⊥
    apart failed = let memory : error.SinkFailed ≡ error.Memory =
        subst (λ r. IfErr r (λ e. e ≡ error.Memory)) failed short in cc

pub places_ends : (j : PlacesJob) (x : Texts) (before after : Outside) (t u : Told)
    (result : Result Answer SearchError) → AreRead (places.files_of j) (parts_of x) before after →
    OnlyReads before after → place_searches.TextsEnd j x t u result →
    RequestEnds (request.Places j) before after t u result
places_ends j x before after t u result are reads ends = record {
  answer = IfOk-weaker result _ (Comes (request.Places j) before after t u)
      (λ a k. record {
        read = after;
        handed = k.handed;
        comes = by_texts x after are (refl, k.is);
        reads = reads;
        hands = k.hands;
        certifies = refl;
      }) ends.answer;
  left = behind x after are (refl, ends.left);
  cause = ends.cause;
  outlasts = ends.outlasts;
}

pub rank_ends : (j : RankJob) (x : Texts) (before after : Outside) (t u : Told)
    (result : Result Answer SearchError) → AreRead (rank.files_of j) (parts_of x) before after →
    OnlyReads before after → searches.TextsEnd j x t u result →
    RequestEnds (request.Rank j) before after t u result
rank_ends j x before after t u result are reads ends = record {
  answer = IfOk-weaker result _ (Comes (request.Rank j) before after t u)
      (λ a k. record {
        read = after;
        handed = k.handed;
        comes = by_texts x after are (refl, k.is);
        reads = reads;
        hands = k.hands;
        certifies = refl;
      }) ends.answer;
  left = behind x after are (refl, ends.left);
  cause = ends.cause;
  outlasts = ends.outlasts;
}

pub repair_ends : (j : RepairJob) (x : RepairTexts) (before after : Outside) (t u : Told)
    (result : Result Answer SearchError) →
    AreRead (repair_jobs.files_of j) (repair_jobs.parts_of x) before after → OnlyReads before after →
    repair_searches.TextsEnd j x t u result →
    RequestEnds (request.Repair j) before after t u result
repair_ends j x before after t u result are reads ends = record {
  answer = IfOk-weaker result _ (Comes (request.Repair j) before after t u)
      (λ a k. record {
        read = after;
        handed = k.handed;
        comes = by_texts x after are (refl, k.is);
        reads = reads;
        hands = k.hands;
        certifies = refl;
      }) ends.answer;
  left = in_repair j refl x are ends.left;
  cause = ends.cause;
  outlasts = ends.outlasts;
}
