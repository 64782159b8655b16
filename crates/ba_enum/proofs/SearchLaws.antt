-- The steps that the search for the least cost and each search under assumptions put.

use Rattle.std.proofs.Common.{◌≡◌, ℕ, List, [], refl}
use Rattle.std.proofs.lemmas.List.Elements.{All-nil}
use Rattle.ba_cores.specs.Derivations as cores
use Rattle.ba_cores.specs.Derivations.{derives_none, derives_learn, derives_delete, derives_core}
use Rattle.ba_cores.proofs.DerivesLaws.{searches_derives, derives_formed, derives_after}
use Rattle.ba_derivations.specs.Derivations.{blocked_by}
use Rattle.ba_derivations.specs.Encodings.{HasModelFor}
use Rattle.ba_enum.specs.Leading.{AreNew, Leads, Leaves, Puts}
use Rattle.ba_lits.specs.Formulas.{Cnf}
use Rattle.ba_lits.specs.Satisfaction.{Soft}
use Rattle.ba_cores.specs.Rounds.{Puts as DerivedPuts}
use Rattle.ba_search.specs.Searching.{Leaves as LeavesSearched, Puts as PutsSearched}
use Rattle.ba_search.proofs.StepLaws.{Gives}
use Rattle.ba_checker.specs.Puts.{Checking}
use Rattle.ba_encode.specs.Softs.{softs_of}
use Rattle.ba_encode.specs.declared.encoded.Encoded.{Encoded}
use Rattle.ba_steps.specs.declared.step.CertStep.{CertStep}
use Rattle.ba_choices.specs.Judges.{Judge}
use Rattle.ba_checker.specs.States.{State}
use Rattle.ba_checker.proofs.PutLaws.{leaves_weaker}

-- Learn, Delete and Core steps
derives_news : {good : Judge} {a b : State} {xs : List CertStep} → cores.Derives good a xs b → AreNew a xs
derives_news (derives_none s) = tt
derives_news (derives_learn s t lits hints steps formed allowed new rest) = (new, derives_news rest)
derives_news (derives_delete s t numbers steps formed allowed rest) = (tt, derives_news rest)
derives_news (derives_core s t lits hints steps formed allowed rest) = (tt, derives_news rest)

derives_blocks : {good : Judge} {a b : State} {xs : List CertStep} → cores.Derives good a xs b →
    blocked_by xs ≡ []
derives_blocks (derives_none s) = refl
derives_blocks (derives_learn s t lits hints steps formed allowed new rest) = derives_blocks rest
derives_blocks (derives_delete s t numbers steps formed allowed rest) = derives_blocks rest
derives_blocks (derives_core s t lits hints steps formed allowed rest) = derives_blocks rest

pub derives_leads : {good : Judge} (formula : Cnf) (softs : List Soft) {a b : State} {xs : List CertStep} →
    cores.Derives good a xs b → Leads good formula softs a xs b []
derives_leads formula softs d = record {
  formed = derives_formed d;
  reaches = derives_after d;
  news = derives_news d;
  blocks = derives_blocks d;
  models = All-nil (HasModelFor formula softs);
}

pub puts_derived : (encoded : Encoded) (old new : Checking) → DerivedPuts old new → Puts encoded [] old new
puts_derived encoded old new derived = record {
  steps = derived.steps;
  leads = derives_leads encoded.formula (softs_of encoded.groups) derived.leads;
  logs = derived.logs;
}

pub puts_searched : (encoded : Encoded) {gives : Gives} {learnt all : List ℕ} (old new : Checking) →
    PutsSearched gives learnt all old new → Puts encoded [] old new
puts_searched encoded old new searched = record {
  steps = searched.steps;
  leads = derives_leads encoded.formula (softs_of encoded.groups) (searches_derives searched.leads);
  logs = searched.logs;
}

pub leaves_searches : {gives : Gives} {learnt : List ℕ} (old new : Checking) →
    LeavesSearched gives learnt old new → Leaves old new
leaves_searches old new left = leaves_weaker (λ steps t s. derives_after (searches_derives s.1)) left

pub leaves_derived : (old new : Checking) → cores.Leaves old new → Leaves old new
leaves_derived old new left = leaves_weaker (λ steps t d. derives_after d) left
