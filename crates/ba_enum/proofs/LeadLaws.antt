-- Steps put end to end, and what they leave as it was.

use Rattle.std.proofs.Common.{◌≡◌, ℕ, ◌≤◌, None, Some, List, [], ◌∷◌, ◌++◌, All, refl, sym, ap, ◌∙◌, arith, subst}
use Rattle.std.proofs.lemmas.List.Elements.{All-nil, All-append}
use Rattle.std.proofs.lemmas.Option.{same_Some}
use Rattle.ba_lits.specs.Satisfaction.{Soft}
use Rattle.ba_lits.specs.Formulas.{Cnf}
use Rattle.ba_steps.specs.Sinks.{with_step, MayAddStep}
use Rattle.ba_steps.specs.Steps.{IsFormed}
use Rattle.ba_steps.specs.declared.step.CertStep.{CertStep}
use Rattle.ba_steps.specs.declared.step.CertStep.TheVariants.{Learn, Core, Delete, Block, EndLocated, EndNoRepair, EndTooMany, EndSpent}
use Rattle.ba_checker.specs.States.{State, first_state}
use Rattle.ba_choices.specs.Judges.{Judge}
use Rattle.ba_checker.specs.StepRules.{error_of, after, after_all}
use Rattle.ba_checker.specs.Facts.{IsStart, Holds, splits_of}
use Rattle.ba_checker.specs.Puts.{Checking, IsTakenOrAsleep, leaves_all, leaves_last}
use Rattle.ba_checker.proofs.FactLaws.{after_append, allowed, facts_hold, next_allowed}
use Rattle.ba_checker.proofs.PutLaws.{logs_then, leaves_after}
use Rattle.ba_derivations.specs.Derivations.{blocked_by, sets_of}
use Rattle.ba_derivations.specs.Encodings.{HasModelFor}
use Rattle.ba_derivations.specs.declared.verdict.FoundSet.{FoundSet}
use Rattle.ba_derivations.proofs.StepLaws.{limits_stay, sets_gathered, blocked_append, sets_append}
use Rattle.ba_enum.specs.Leading.{AreNew, IsReached, Leads, Leaves, LeavesBetween, Puts}
use Rattle.ba_encode.specs.Softs.{softs_of}
use Rattle.ba_encode.specs.declared.encoded.Encoded.{Encoded}

pub one_after : (good : Judge) (s t : State) (step : CertStep) → error_of good s step ≡ None →
    t ≡ after s step →
    after_all good s (step ∷ []) ≡ Some t
one_after good s t step allowed taken =
    next_allowed (error_of good s step) (Some (after s step)) t allowed (ap Some (sym taken))

pub news_append : (good : Judge) (xs ys : List CertStep) (a b : State) → after_all good a xs ≡ Some b →
    AreNew a xs → AreNew b ys → AreNew a (xs ++ ys)
news_append good [] ys a b is first second =
    let e : b ≡ a = sym (same_Some a b is) in
    let P : State → Type 0 = λ s. AreNew s ys in
    subst P e second
news_append good (x ∷ xs) ys a b is first second =
    let parts = allowed (error_of good a x) (after_all good (after a x) xs) b is in
    (first.0, news_append good xs ys (after a x) b parts.1 first.1 second)

pub leads_none : (good : Judge) (formula : Cnf) (softs : List Soft) (s : State) →
    Leads good formula softs s [] s []
leads_none good formula softs s = record {
  formed = All-nil IsFormed;
  reaches = refl;
  news = tt;
  blocks = refl;
  models = All-nil (HasModelFor formula softs);
}

pub leads_append : {good : Judge} {formula : Cnf} {softs : List Soft} {a b : State} {xs : List CertStep}
    {found : List FoundSet} → Leads good formula softs a xs b found →
    (c : State) (ys : List CertStep) (more : List FoundSet) → Leads good formula softs b ys c more →
    Leads good formula softs a (xs ++ ys) c (found ++ more)
leads_append {good} {formula} {softs} {a} {b} {xs} {found} first c ys more second = record {
  formed = All-append IsFormed xs ys first.formed second.formed;
  reaches = after_append good xs ys a b c first.reaches second.reaches;
  news = news_append good xs ys a b first.reaches first.news second.news;
  blocks = blocked_append xs ys ∙ (ap (λ zs. zs ++ blocked_by ys) first.blocks
      ∙ ap (λ zs. found ++ zs) second.blocks);
  models = let P : List (List ℕ) → Type 0 = All (HasModelFor formula softs) in
      subst P (sym (sets_append found more))
      (All-append (HasModelFor formula softs) (sets_of found) (sets_of more) first.models second.models);
}

-- WHAT IS REACHED
pub reached_start : (good : Judge) (formula : Cnf) (softs : List Soft) (s : State) (conflicts sets : ℕ) →
    IsStart formula softs → s ≡ first_state formula softs conflicts sets → IsReached good formula softs s []
reached_start good formula softs s conflicts sets start same =
    let P : State → Type 0 = λ t. IsReached good formula softs t [] in
    subst P (sym same) (record {
      start = start;
      conflicts = conflicts;
      most_sets = sets;
      steps = [];
      leads = leads_none good formula softs (first_state formula softs conflicts sets);
    })

pub reached_on : {good : Judge} {formula : Cnf} {softs : List Soft} {a : State} {found : List FoundSet} →
    IsReached good formula softs a found → (b : State) (xs : List CertStep) (more : List FoundSet) →
    Leads good formula softs a xs b more → IsReached good formula softs b (found ++ more)
reached_on r b xs more leads = record {
  start = r.start;
  conflicts = r.conflicts;
  most_sets = r.most_sets;
  steps = r.steps ++ xs;
  leads = leads_append r.leads b xs more leads;
}

pub reached_facts : (good : Judge) (formula : Cnf) (softs : List Soft) (s : State) (found : List FoundSet)
    (r : IsReached good formula softs s found) →
    Holds good formula softs (splits_of (first_state formula softs r.conflicts r.most_sets) r.steps) s
reached_facts good formula softs s found r =
    facts_hold good formula softs r.conflicts r.most_sets r.start r.steps r.leads.formed s r.leads.reaches

-- the blocked sets are those found
pub reached_sets : {good : Judge} {formula : Cnf} {softs : List Soft} {s : State} {found : List FoundSet} →
    IsReached good formula softs s found → s.sets ≡ sets_of found
reached_sets {good} {formula} {softs} {s} r =
    sets_gathered good (first_state formula softs r.conflicts r.most_sets) r.steps s r.leads.reaches
    ∙ ap sets_of r.leads.blocks

-- the groups stay
step_groups : (s : State) (step : CertStep) → (after s step).groups ≡ s.groups
step_groups s (Learn lits hints) = refl
step_groups s (Core lits hints) = refl
step_groups s (Delete clauses) = refl
step_groups s (Block groups run) = refl
step_groups s (EndLocated lits hints) = refl
step_groups s (EndNoRepair hints) = refl
step_groups s EndTooMany = refl
step_groups s EndSpent = refl

groups_stay : (good : Judge) (a : State) (xs : List CertStep) (b : State) → after_all good a xs ≡ Some b →
    b.groups ≡ a.groups
groups_stay good a [] b is = sym (ap (λ (s : State). s.groups) (same_Some a b is))
groups_stay good a (x ∷ xs) b is =
    let parts = allowed (error_of good a x) (after_all good (after a x) xs) b is in
    groups_stay good (after a x) xs b parts.1 ∙ step_groups a x

pub reached_groups : {good : Judge} {formula : Cnf} {softs : List Soft} {s : State} {found : List FoundSet} →
    IsReached good formula softs s found → s.groups ≡ softs
reached_groups {good} {formula} {softs} {s} r =
    groups_stay good (first_state formula softs r.conflicts r.most_sets) r.steps s r.leads.reaches

-- no variable goes
step_wider : (s : State) (step : CertStep) → s.variables ≤ (after s step).variables
step_wider s (Learn lits hints) = omega arith
step_wider s (Core lits hints) = omega arith
step_wider s (Delete clauses) = omega arith
step_wider s (Block groups run) = omega arith
step_wider s (EndLocated lits hints) = omega arith
step_wider s (EndNoRepair hints) = omega arith
step_wider s EndTooMany = omega arith
step_wider s EndSpent = omega arith

wider : (good : Judge) (a : State) (xs : List CertStep) (b : State) → after_all good a xs ≡ Some b →
    a.variables ≤ b.variables
wider good a [] b is = let same = ap (λ (s : State). s.variables) (same_Some a b is) in omega (arith, same)
wider good a (x ∷ xs) b is =
    let parts = allowed (error_of good a x) (after_all good (after a x) xs) b is in
    let one = step_wider a x in
    let rest = wider good (after a x) xs b parts.1 in
    omega (arith, one, rest)

pub reached_wide : {good : Judge} {formula : Cnf} {softs : List Soft} {s : State} {found : List FoundSet} →
    IsReached good formula softs s found → formula.variables ≤ s.variables
reached_wide {good} {formula} {softs} {s} r =
    wider good (first_state formula softs r.conflicts r.most_sets) r.steps s r.leads.reaches

-- STEPS THAT WERE PUT
pub puts_none : (encoded : Encoded) (log : Checking) → Puts encoded [] log log
puts_none encoded log = record {
  steps = [];
  leads = leads_none log.accepts encoded.formula (softs_of encoded.groups) log.checker;
  logs = refl;
}

pub puts_on : (encoded : Encoded) (a b c : Checking) (found more : List FoundSet) → b.accepts ≡ a.accepts →
    Puts encoded found a b → Puts encoded more b c → Puts encoded (found ++ more) a c
puts_on encoded a b c found more judge p q = record {
  steps = p.steps ++ q.steps;
  leads = leads_append p.leads c.checker q.steps more
      (subst (λ (j : Judge). Leads j encoded.formula (softs_of encoded.groups) b.checker q.steps c.checker
      more)
      judge q.leads);
  logs = logs_then p.steps q.steps a.told.logs b.told.logs c.told.logs p.logs q.logs;
}

pub puts_most : (encoded : Encoded) (old new : Checking) (found : List FoundSet) → Puts encoded found old new
    →
    new.checker.most_sets ≡ old.checker.most_sets
puts_most encoded old new found p =
    (limits_stay old.accepts old.checker p.steps new.checker p.leads.reaches).most_sets

-- WHAT IS LEFT
pub leaves_none : (log : Checking) → Leaves log log
leaves_none log = leaves_all [] refl refl

pub leaves_put : (encoded : Encoded) (old new : Checking) (found : List FoundSet) → Puts encoded found old new
    →
    Leaves old new
leaves_put encoded old new found p = leaves_all p.steps p.leads.reaches p.logs

pub leaves_one : (old new : Checking) (step : CertStep) → error_of old.accepts old.checker step ≡ None →
    new.checker ≡ after old.checker step → new.told.logs ≡ with_step step old.told.logs → Leaves old new
leaves_one old new step allowed taken told =
    leaves_all (step ∷ []) (one_after old.accepts old.checker new.checker step allowed taken) told

pub leaves_tried : (old new : Checking) (step : CertStep) → error_of old.accepts old.checker step ≡ None →
    IsTakenOrAsleep old.checker step new.checker → MayAddStep step old.told.logs new.told.logs → Leaves old
    new
leaves_tried old new step allowed taken told =
    leaves_last [] step old.checker refl
    (one_after old.accepts old.checker (after old.checker step) step allowed refl) taken told

pub leaves_on : (encoded : Encoded) (a b c : Checking) (found : List FoundSet) → b.accepts ≡ a.accepts →
    Puts encoded found a b → Leaves b c → Leaves a c
leaves_on encoded a b c found judge p left =
    leaves_after p.steps c.checker a.told.logs b.told.logs c.told.logs p.logs
    (λ steps t d. after_append a.accepts p.steps steps a.checker b.checker t p.leads.reaches d)
    (subst (λ (j : Judge). LeavesBetween j b.checker b.told.logs c.checker c.told.logs) judge left)
