-- What a search writes and hands on, by the log of its certificate.

use Rattle.std.proofs.Common.{◌≡◌, Option, None, Some, option_map, List, [], ◌∷◌, ◌++◌, IfSome, refl, sym, ap, subst, ◌∙◌, append_assoc, append-nil, ℕ}
use Rattle.ba_cert.specs.Text.{text_of as certificate_of}
use Rattle.ba_cert.specs.Writing.{OnlyWritesTo}
use Rattle.ba_cert.specs.declared.head.CertHead.{CertHead}
use Rattle.ba_certified.specs.Certifying.{FindsCertified}
use Rattle.ba_checker.specs.Puts.{with_steps}
use Rattle.ba_choices.specs.Judges.{Judge}
use Rattle.ba_commands.specs.Modes.{Word}
use Rattle.ba_derivations.specs.declared.verdict.Verdict.{Verdict}
use Rattle.ba_localise.specs.Verdicts.{Finds}
use Rattle.ba_steps.specs.Sinks.{Logs, Told, with_step, with_told}
use Rattle.ba_steps.specs.declared.step.CertStep.{CertStep}
use Rattle.ba_tree.specs.Least.{WeightList}
use Rattle.ba_world.specs.World.{Outside}

-- if no certificate is named
pub uncertified : (h : CertHead) (weights : WeightList) (good : Judge) (o : Outside) (t u : Told) (v :
    Verdict) →
    Finds weights good h.conflicts h.sets t u v → FindsCertified h None weights good o o t u v
uncertified h weights good o t u v finds = record {
  derivation = finds.derivation;
  shows = finds.shows;
  hands = finds.hands;
  certifies = refl;
}

-- A CERTIFICATE by the log of its sink

-- a log with these steps more
with_each : List CertStep → Option (List CertStep) → Option (List CertStep)
with_each [] log = log
with_each (step ∷ steps) log = with_each steps (with_told step log)

logs_split : (steps : List CertStep) (log : Option (List CertStep)) (logs : Logs) →
    with_steps steps (log ∷ logs) ≡ with_each steps log ∷ with_steps steps logs
unfolding with_each
logs_split [] log logs = refl
logs_split (step ∷ steps) log logs = logs_split steps (with_told step log) (with_step step logs)

each_told : (steps xs : List CertStep) → with_each steps (Some xs) ≡ Some (xs ++ steps)
unfolding with_each
each_told [] xs = ap (λ (xs : List CertStep). Some xs) (sym (append-nil xs))
each_told (step ∷ steps) xs = each_told steps (xs ++ step ∷ [])
    ∙ ap (λ (xs : List CertStep). Some xs) (append_assoc xs (step ∷ []) steps)

each_untold : (steps : List CertStep) → with_each steps None ≡ None
unfolding with_each
each_untold [] = refl
each_untold (step ∷ steps) = each_untold steps

kept_text : (h : CertHead) (steps : List CertStep) (begun kept : Option (List ℕ)) →
    kept ≡ option_map (certificate_of h) (with_each steps (option_map (λ (bytes : List ℕ). []) begun)) →
    IfSome kept (λ bytes. bytes ≡ certificate_of h steps)
kept_text h steps None kept is =
    subst (λ k. IfSome k (λ bytes. bytes ≡ certificate_of h steps))
    (sym (is ∙ ap (option_map (certificate_of h)) (each_untold steps))) tt
kept_text h steps (Some bytes) kept is =
    subst (λ k. IfSome k (λ bytes. bytes ≡ certificate_of h steps))
    (sym (is ∙ ap (option_map (certificate_of h)) (each_told steps []))) refl

heads : (a b : Option (List CertStep)) (logs others : Logs) → a ∷ logs ≡ b ∷ others → a ≡ b
heads a b logs others e = cc

tails : (a b : Option (List CertStep)) (logs others : Logs) → a ∷ logs ≡ b ∷ others → logs ≡ others
tails a b logs others e = cc

-- a sink of a text and then of another sink was handed the derivation; so was the other, and the file holds
-- its text
pub certified : (h : CertHead) (name : Word) (weights : WeightList) (good : Judge) (old begun new : Outside)
    (from to t u : Told) (v : Verdict) (log later : Option (List CertStep)) →
    Finds weights good h.conflicts h.sets from to v → from.over ≡ t.over → to.over ≡ u.over →
    from.logs ≡ log ∷ t.logs → to.logs ≡ later ∷ u.logs →
    log ≡ option_map (λ (bytes : List ℕ). []) (begun.kept name) →
    new.kept name ≡ option_map (certificate_of h) later → OnlyWritesTo name old new →
    FindsCertified h (Some name) weights good old new t u v
certified h name weights good old begun new from to t u v log later f over over' logs logs' fresh kept only =
    record {
      derivation = f.derivation;
      shows = f.shows;
      hands = record {
        over = sym over' ∙ f.hands.over ∙ ap (with_told f.derivation.begun) over;
        logs = tails later (with_each f.derivation.steps log) u.logs (with_steps f.derivation.steps t.logs)
            split;
      };
      certifies = record {
        only = only;
        holds = kept_text h f.derivation.steps (begun.kept name) (new.kept name) (kept
            ∙ ap (option_map (certificate_of h))
            (heads later (with_each f.derivation.steps log) u.logs (with_steps f.derivation.steps t.logs)
            split
            ∙ ap (with_each f.derivation.steps) fresh));
      };
    }
  where
    split : later ∷ u.logs ≡ with_each f.derivation.steps log ∷ with_steps f.derivation.steps t.logs
    split = sym logs' ∙ f.hands.logs ∙ ap (with_steps f.derivation.steps) logs
        ∙ logs_split f.derivation.steps log t.logs
