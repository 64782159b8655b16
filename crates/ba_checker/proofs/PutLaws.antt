-- Steps that were put, one after the other.

use Rattle.std.proofs.Common.{◌≡◌, List, [], ◌∷◌, ◌++◌, refl, sym, ap, subst, ◌∙◌, arith}
use Rattle.std.proofs.lemmas.List.{append_assoc}
use Rattle.ba_steps.specs.Sinks.{Logs, with_step, MayAddStep}
use Rattle.ba_steps.specs.declared.step.CertStep.{CertStep}
use Rattle.ba_checker.specs.States.{State}
use Rattle.ba_checker.specs.StepRules.{after}
use Rattle.ba_checker.specs.Puts.{Checking, Lasts, with_steps, LeavesSteps, leaves_all, leaves_last}

with_steps-append : (xs ys : List CertStep) (logs : Logs) →
    with_steps (xs ++ ys) logs ≡ with_steps ys (with_steps xs logs)
with_steps-append [] ys logs = refl
with_steps-append (x ∷ xs) ys logs = with_steps-append xs ys (with_step x logs)

-- the logs after steps, and after more
pub logs_then : (xs ys : List CertStep) (k l m : Logs) → l ≡ with_steps xs k → m ≡ with_steps ys l →
    m ≡ with_steps (xs ++ ys) k
logs_then xs ys k l m first second = second ∙ (ap (with_steps ys) first ∙ sym (with_steps-append xs ys k))

-- if steps lead there, they lead to what is said less exactly
pub leaves_weaker : {lead more : List CertStep → State → Type 0} {new : State} {k l : Logs} →
    ((steps : List CertStep) (t : State) → lead steps t → more steps t) → LeavesSteps lead k new l →
    LeavesSteps more k new l
leaves_weaker weaker (leaves_all steps leads logs) = leaves_all steps (weaker _ _ leads) logs
leaves_weaker weaker (leaves_last steps last before leads tried taken may) =
    leaves_last steps last before (weaker _ _ leads) (weaker _ _ tried) taken may

-- what is left after steps that were put before
pub leaves_after : {lead more : List CertStep → State → Type 0} (xs : List CertStep) (new : State)
    (k l m : Logs) →
    l ≡ with_steps xs k → ((steps : List CertStep) (t : State) → lead steps t → more (xs ++ steps) t) →
    LeavesSteps lead l new m → LeavesSteps more k new m
leaves_after xs new k l m first then_ (leaves_all steps leads logs) =
    leaves_all (xs ++ steps) (then_ steps new leads) (logs_then xs steps k l m first logs)
leaves_after {lead} {more} xs new k l m first then_ (leaves_last steps last before leads tried taken may) =
    let P : List CertStep → Type 0 = λ ys. more ys (after before last) in
    let Q : Logs → Type 0 = λ logs. MayAddStep last logs m in
    leaves_last (xs ++ steps) last before (then_ steps before leads)
    (subst P (sym (append_assoc xs steps (last ∷ []))) (then_ (steps ++ last ∷ []) (after before last) tried))
    taken (subst Q (logs_then xs steps k l (with_steps steps l) first refl) may)

-- what lasts if nothing is done, and over two calls
pub lasts_same : (p : Checking) → Lasts p p
lasts_same p = record { judge_stays = refl; over_stays = refl; no_fall = omega arith; same_references = refl }

pub lasts_then : (p q r : Checking) → Lasts p q → Lasts q r → Lasts p r
lasts_then p q r first second = record {
  judge_stays = second.judge_stays ∙ first.judge_stays;
  over_stays = second.over_stays ∙ first.over_stays;
  no_fall = omega (arith, first.no_fall, second.no_fall);
  same_references = second.same_references ∙ first.same_references;
}
