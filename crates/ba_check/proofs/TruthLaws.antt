-- What is accepted over a faithful encoding is true.

use Rattle.std.proofs.Common.{◌≡◌, ℕ, nat_eq, Some, List, [], ◌∷◌, ◌++◌, All, refl, subst, sym}
use Rattle.std.specs.Cmp.Lexicographic.{pointwise}
use Rattle.std.specs.List.{IsDistinct}
use Rattle.std.specs.Prelude.{Result, Ok, Err, IfOk}
use Rattle.std.proofs.lemmas.List.Elements.{All-weaker}
use Rattle.ba_cert.specs.Text.{HasLine}
use Rattle.ba_cert.specs.declared.head.CertHead.{CertHead}
use Rattle.ba_derivations.specs.Derivations.{Located, NoRepair, Problem, Spent, TooMany, Verdict, start_of, verdict_of}
use Rattle.ba_derivations.specs.Encodings.{IsFaithful}
use Rattle.ba_derivations.proofs.VerdictLaws.{located, no_repair, spent, starts, too_many}
use Rattle.ba_steps.specs.Steps.{IsFormed}
use Rattle.ba_steps.specs.declared.step.CertStep.{CertStep}
use Rattle.ba_steps.specs.declared.step.CertStep.TheVariants.{Learn, Core, Delete, Block, EndLocated, EndNoRepair, EndTooMany, EndSpent}
use Rattle.ba_checker.proofs.FactLaws.{facts_hold}
use Rattle.ba_checker.specs.Facts.{Holds, splits_of}
use Rattle.ba_checker.specs.States.{State}
use Rattle.ba_tree.specs.Least.{WeightList}
use Rattle.ba_check.specs.Answers.{Answers, IsTrueOf, Tells, confirmed_of}
use Rattle.ba_check.specs.Findings.{Accepted, Finding, IsCertificateOf, Refused, finding_of}
use Rattle.ba_check.specs.declared.confirmed.Confirmed.{Confirmed}
use Rattle.ba_check.specs.declared.error.CheckError.{CheckError}
use Rattle.ba_check.proofs.CertificateLaws.{accepted, front-all}

-- the sets of a verdict are the blocked ones
blocked-sets : (s : State) (last : CertStep) (weight : ℕ) (found : List (List ℕ)) →
    verdict_of s last ≡ Some (Located weight found) → s.sets ≡ found
blocked-sets s (Learn lits hints) weight found says = cc
blocked-sets s (Core lits hints) weight found says = cc
blocked-sets s (Delete clauses) weight found says = cc
blocked-sets s (Block groups run) weight found says = cc
blocked-sets s (EndLocated lits hints) weight found says = cc
blocked-sets s (EndNoRepair hints) weight found says = cc
blocked-sets s EndTooMany weight found says = cc
blocked-sets s EndSpent weight found says = cc

module _ (weights : WeightList) (head : CertHead) (p : Problem)
    (faithful : IsFaithful p.formula p.softs weights p.good)
    (text : List ℕ) where
  -- they differ
  differ : (weight : ℕ) (found : List (List ℕ)) → IsCertificateOf head p text (Located weight found) →
      IsDistinct (pointwise nat_eq) found
  differ weight found c =
      let d = c.derives in
      let all : All HasLine (d.front ++ d.last ∷ []) = subst (All HasLine) d.steps_are c.have_lines in
      let formed : All IsFormed d.front =
      All-weaker HasLine IsFormed (λ s h. h.0) d.front (front-all HasLine d.front (d.last ∷ []) all) in
      let facts : Holds p.good p.formula p.softs (splits_of (start_of p) d.front) d.state =
      facts_hold p.good p.formula p.softs p.conflicts p.most_sets (starts faithful) d.front formed d.state
      d.leads in
      subst (IsDistinct (pointwise nat_eq)) (blocked-sets d.state d.last weight found d.says)
      facts.sets_differ

  certified-true : (v : Verdict) → IsCertificateOf head p text v →
      IsTrueOf weights head p text (confirmed_of v)
  certified-true (Located weight found) c = record {
    found = found;
    sets_are = refl;
    all_least = located weights p c.steps weight found (faithful, c.derives);
    differ = differ weight found c;
  }
  certified-true NoRepair c = no_repair weights p c.steps (faithful, c.derives)
  certified-true (TooMany weight found) c =
      record { found = found; too_many = too_many weights p c.steps weight found (faithful, c.derives) }
  certified-true Spent c =
      record { steps = c.steps; text_is = c.text_is; count = spent p c.steps c.derives }

  told : (result : Result Confirmed CheckError) (finding : Finding) → finding_of head p text ≡ finding →
      Tells result finding → IfOk result (IsTrueOf weights head p text)
  told (Err error) finding is tells = tt
  told (Ok said) (Accepted v) is tells =
      subst (IsTrueOf weights head p text) (sym tells) (certified-true v (accepted head p text v is))
  told (Ok said) (Refused line code) is tells = absurd tells

  true-of : (result : Result Confirmed CheckError) → Tells result (finding_of head p text) →
      IfOk result (IsTrueOf weights head p text)
  true-of result tells = told result (finding_of head p text) refl tells

pub answered : (head : CertHead) (p : Problem) (text : List ℕ) (result : Result Confirmed CheckError) →
    Tells result (finding_of head p text) → Answers head p text result
answered head p text result tells = record {
  exactly = tells;
  truly = λ weights faithful. true-of weights head p faithful text result tells;
}
