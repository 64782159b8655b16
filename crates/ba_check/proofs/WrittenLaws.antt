-- Steps that derive a verdict over a faithful encoding have lines, so their text is a certificate.

use Rattle.std.proofs.Common.{◌≡◌, ℕ, suc, zero, ◌-◌, ◌<◌, ◌^◌, ◌==◌, false, cond, Option, None, Some, List, [], ◌∷◌, ◌++◌, All, length, refl, sym, ap, ◌∙◌, subst, arith, inl}
use Rattle.std.proofs.lemmas.Bool.{or_parts}
use Rattle.std.proofs.lemmas.Bool.Decides.{nat_tests}
use Rattle.std.proofs.lemmas.List.Elements.{All-cons, All-head, All-nil, All-tail}
use Rattle.std.proofs.lemmas.Option.{same_Some, slice_get_within}
use Rattle.std.specs.List.{slice_get}
use Rattle.ba_cert.specs.declared.head.CertHead.{CertHead}
use Rattle.ba_cert.specs.Text.{HasLine, HasSmallGroups, IsHead, text_of}
use Rattle.ba_checker.proofs.FactLaws.{allowed, block_parts}
use Rattle.ba_checker.specs.Blocks as groups
use Rattle.ba_checker.specs.Blocks.{lacks_group}
use Rattle.ba_checker.specs.StepRules.{after, after_all, error_before_end, error_of}
use Rattle.ba_checker.specs.States.{State}
use Rattle.ba_choices.specs.Judges.{Judge}
use Rattle.ba_derivations.proofs.StepLaws.{before_end}
use Rattle.ba_derivations.specs.Derivations.{DerivesOver, Problem, Verdict, start_of}
use Rattle.ba_derivations.specs.Encodings.{weight_if}
use Rattle.ba_lits.specs.Satisfaction.{Soft}
use Rattle.ba_steps.specs.Steps.{IsFormed}
use Rattle.ba_steps.specs.declared.step.CertStep.{CertStep}
use Rattle.ba_steps.specs.declared.step.CertStep.TheVariants.{Learn, Core, Delete, Block, EndLocated, EndNoRepair, EndTooMany, EndSpent}
use Rattle.ba_tree.specs.Least.{WeightList, entry_of, weight_at}
use Rattle.ba_check.specs.Findings.{Accepted, finding_of}
use Rattle.ba_check.proofs.CertificateLaws.{certified}

-- a statement with a weight has an entry
entry_within : (weights : WeightList) (k w : ℕ) → entry_of (slice_get weights k) ≡ Some w → k < length weights
entry_within weights k w e = by (slice_get weights k) refl e
  where
    by : (o : Option (Option ℕ)) → slice_get weights k ≡ o → entry_of o ≡ Some w → k < length weights
    by None is e = cc
    by (Some entry) is e = slice_get_within weights k entry is

small_number : (weights : WeightList) (n w : ℕ) → length weights < 2 ^ 32 → weight_at weights n ≡ Some w →
    n < 2 ^ 32
small_number weights zero w few e = omega arith
small_number weights (suc k) w few e =
    let some : (suc k == 0) ≡ false = grind (arith, nat_tests) in
    let same : k ≡ suc k - 1 = omega arith in
    let entry : entry_of (slice_get weights k) ≡ Some w = ap (λ i. entry_of (slice_get weights i)) same
    ∙ (ap (λ b. cond b None (entry_of (slice_get weights (suc k - 1)))) (sym some) ∙ e) in
    let within = entry_within weights k w entry in
    omega (arith, within, few)

-- the numbers of groups that are relaxable statements have 32 bits
module _ (weights : WeightList) (softs : List Soft)
    (same : (n : ℕ) → weight_at weights n ≡ weight_if (groups.weight_at softs n))
    (few : length weights < 2 ^ 32) where
  some_weight : (w : ℕ) → (w == 0) ≡ false → weight_if w ≡ Some w
  some_weight w e = ap (λ b. cond b None (Some w)) e

  are_small : (set : List ℕ) → lacks_group softs set ≡ false → All (λ n. n < 2 ^ 32) set
  are_small [] e = All-nil (λ n. n < 2 ^ 32)
  are_small (n ∷ ns) e =
      let parts = or_parts (groups.weight_at softs n == 0) (lacks_group softs ns) e in
      All-cons (λ m. m < 2 ^ 32) n ns
      (small_number weights n (groups.weight_at softs n) few
      (same n ∙ some_weight (groups.weight_at softs n) parts.0))
      (are_small ns parts.1)

  small_groups : (good : Judge) (s : State) (step : CertStep) → s.groups ≡ softs →
      error_before_end good s step ≡ None → HasSmallGroups step
  small_groups good s (Learn lits hints) is none = tt
  small_groups good s (Core lits hints) is none = tt
  small_groups good s (Delete clauses) is none = tt
  small_groups good s (Block set run) is none =
      are_small set (ap (λ g. lacks_group g set) (sym is) ∙ (block_parts good s set run none).0)
  small_groups good s (EndLocated lits hints) is none = tt
  small_groups good s (EndNoRepair hints) is none = tt
  small_groups good s EndTooMany is none = tt
  small_groups good s EndSpent is none = tt

  groups_stay : (s : State) (step : CertStep) → (after s step).groups ≡ s.groups
  groups_stay s (Learn lits hints) = refl
  groups_stay s (Core lits hints) = refl
  groups_stay s (Delete clauses) = refl
  groups_stay s (Block set run) = refl
  groups_stay s (EndLocated lits hints) = refl
  groups_stay s (EndNoRepair hints) = refl
  groups_stay s EndTooMany = refl
  groups_stay s EndSpent = refl

  -- allowed steps have lines
  have_lines : (good : Judge) (s : State) (front : List CertStep) (last : CertStep) (t : State) →
      s.groups ≡ softs → All IsFormed (front ++ last ∷ []) → after_all good s front ≡ Some t →
      error_of good t last ≡ None → All HasLine (front ++ last ∷ [])
  have_lines good s [] last t is formed leads ends =
      let here : t.groups ≡ softs = ap (λ (x : State). x.groups) (sym (same_Some s t leads)) ∙ is in
      All-cons HasLine last []
      (All-head IsFormed last [] formed, small_groups good t last here (before_end good t last ends))
      (All-nil HasLine)
  have_lines good s (step ∷ front) last t is formed leads ends =
      let parts = allowed (error_of good s step) (after_all good (after s step) front) t leads in
      let rest : List CertStep = front ++ last ∷ [] in
      All-cons HasLine step rest
      (All-head IsFormed step rest formed, small_groups good s step is (before_end good s step parts.0))
      (have_lines good (after s step) front last t (groups_stay s step ∙ is)
      (All-tail IsFormed step rest formed) parts.1 ends)

pub written : (h : CertHead) (weights : WeightList) (p : Problem) (steps : List CertStep) (v : Verdict) →
    IsHead h → length weights < 2 ^ 32 → DerivesOver weights p steps v →
    finding_of h p (text_of h steps) ≡ Accepted v
written h weights p steps v is few over =
    let d = over.1 in
    let formed : All IsFormed (d.front ++ d.last ∷ []) = subst (All IsFormed) d.steps_are d.formed in
    let lines = have_lines weights p.softs over.0.weighs few p.good (start_of p) d.front d.last d.state refl
    formed d.leads d.ends in
    certified h p (text_of h steps) v (record {
      steps = steps;
      have_lines = subst (All HasLine) (sym d.steps_are) lines;
      text_is = inl (is, refl);
      derives = d;
    })
