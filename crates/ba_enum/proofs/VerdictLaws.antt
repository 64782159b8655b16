-- The steps that lead to the end and the End step say the verdict.

use Rattle.std.proofs.Common.{◌≡◌, ℕ, ◌≤◌, true, false, ltb, None, Some, List, [], ◌∷◌, ◌++◌, All, length, refl, sym, ap, ◌∙◌, subst}
use Rattle.std.proofs.lemmas.List.{append-nil}
use Rattle.std.proofs.lemmas.List.Elements.{All-push}
use Rattle.ba_derivations.specs.Derivations.{Problem, Derives, start_of, verdict_of, blocked_by, sets_of}
use Rattle.ba_derivations.specs.Derivations as derived
use Rattle.ba_derivations.specs.Encodings.{HasModelFor}
use Rattle.ba_derivations.specs.declared.verdict.FoundSet.{FoundSet}
use Rattle.ba_derivations.specs.declared.verdict.Verdict.{Verdict}
use Rattle.ba_derivations.specs.declared.verdict.Verdict.TheVariants.{Located, NoRepair, TooMany, Spent}
use Rattle.ba_derivations.proofs.StepLaws.{before_end, blocked_append, limits_stay}
use Rattle.ba_derivations.proofs.VerdictLaws.{no_sets}
use Rattle.ba_enum.specs.Enumerating.{EndsWith, EnumeratesIn, Fits, HaveSame, Says}
use Rattle.ba_enum.specs.Leading.{IsNewIn, IsReached, Leads, Puts}
use Rattle.ba_enum.specs.Problems.{problem_in}
use Rattle.ba_encode.specs.Softs.{softs_of}
use Rattle.ba_encode.specs.declared.encoded.Encoded.{Encoded}
use Rattle.ba_checker.specs.Puts.{Checking}
use Rattle.ba_enum.proofs.LeadLaws.{one_after, news_append, reached_facts}
use Rattle.ba_lits.specs.Formulas.{Cnf}
use Rattle.ba_lits.specs.Satisfaction.{Assignment, all_true, Soft}
use Rattle.ba_steps.specs.Steps.{IsFormed}
use Rattle.ba_steps.specs.declared.step.CertStep.{CertStep}
use Rattle.ba_steps.specs.declared.step.CertStep.TheVariants.{Learn, Core, Delete, Block, EndLocated, EndNoRepair, EndTooMany, EndSpent}
use Rattle.ba_steps.specs.declared.step.StepError.TheVariants.{WrongCount}
use Rattle.ba_choices.specs.Judges.{Judge}
use Rattle.ba_checker.specs.StepRules.{error_if, is_spent, hint_error, error_of}
use Rattle.ba_checker.specs.Blocks.{block_clauses}
use Rattle.ba_checker.specs.Facts.{IsStart}
use Rattle.ba_checker.specs.States.{State}
use Rattle.ba_checker.proofs.FactLaws.{no_error, follows_true, after_append}
use Rattle.ba_checker.proofs.PutLaws.{logs_then}

-- an End step blocks nothing, and learns nothing
ends_block : (s : State) (last : CertStep) (said : derived.Verdict) → verdict_of s last ≡ Some said →
    blocked_by (last ∷ []) ≡ []
ends_block s (Learn lits hints) said is = absurd (cc is)
ends_block s (Core lits hints) said is = absurd (cc is)
ends_block s (Delete clauses) said is = absurd (cc is)
ends_block s (Block groups run) said is = absurd (cc is)
ends_block s (EndLocated lits hints) said is = refl
ends_block s (EndNoRepair hints) said is = refl
ends_block s EndTooMany said is = refl
ends_block s EndSpent said is = refl

ends_new : (s : State) (last : CertStep) (said : derived.Verdict) → verdict_of s last ≡ Some said →
    IsNewIn s last
ends_new s (Learn lits hints) said is = absurd (cc is)
ends_new s (Core lits hints) said is = tt
ends_new s (Delete clauses) said is = tt
ends_new s (Block groups run) said is = tt
ends_new s (EndLocated lits hints) said is = tt
ends_new s (EndNoRepair hints) said is = tt
ends_new s EndTooMany said is = tt
ends_new s EndSpent said is = tt

-- WHERE THERE IS NO REPAIR there is no model

no_model : (good : Judge) (formula : Cnf) (softs : List Soft) (s : State) (found : List FoundSet) →
    IsReached good formula softs s found → (last : CertStep) → error_of good s last ≡ None →
    verdict_of s last ≡ Some derived.NoRepair → (v : Assignment) → all_true v formula.clauses ≡ true → ⊥
no_model good formula softs s found reached (Learn lits hints) allowed says v holds = cc says
no_model good formula softs s found reached (Core lits hints) allowed says v holds = cc says
no_model good formula softs s found reached (Delete clauses) allowed says v holds = cc says
no_model good formula softs s found reached (Block groups run) allowed says v holds = cc says
no_model good formula softs s found reached (EndLocated lits hints) allowed says v holds = cc says
no_model good formula softs s found reached (EndNoRepair hints) allowed says v holds =
    let rest = error_if (is_spent s) WrongCount (hint_error s [] hints) in
    let first = no_error (ltb 0 (length s.sets)) WrongCount rest
    (before_end good s (EndNoRepair hints) allowed) in
    let second = no_error (is_spent s) WrongCount (hint_error s [] hints) first.1 in
    let none : all_true v (block_clauses softs s.sets) ≡ true =
    ap (λ (sets : List (List ℕ)). all_true v (block_clauses softs sets)) (no_sets s.sets first.0) in
    let (z, same, split, lives, is) = (reached_facts good formula softs s found reached).extends v holds
    none in
    let e : false ≡ true = follows_true s z [] hints second.1 lives in
    cc e
no_model good formula softs s found reached EndTooMany allowed says v holds = cc says
no_model good formula softs s found reached EndSpent allowed says v holds = cc says

says_of : (p : Problem) (s : State) (found : List FoundSet) (steps : List CertStep) (verdict : Verdict)
    (said : derived.Verdict) →
    Derives p steps said → Fits s found verdict said → s.most_sets ≡ p.most_sets → blocked_by steps ≡ found →
    (said ≡ derived.NoRepair → (v : Assignment) → all_true v p.formula.clauses ≡ true → ⊥) →
    Says p steps verdict
says_of p s found steps (Located weight sets) said derives fits most blocked none = (
  let P : derived.Verdict → Type 0 = λ v. Derives p steps v in
      subst P (fits.0 ∙ ap (λ (fs : List FoundSet). derived.Located weight (sets_of fs)) (sym blocked))
      derives,
  let P : List FoundSet → Type 0 = λ fs. HaveSame sets fs in subst P (sym blocked) fits.1,
  fits.2,
  let P : ℕ → Type 0 = λ n. length sets ≤ n in subst P most fits.3,
)
says_of p s found steps NoRepair said derives fits most blocked none =
    (let P : derived.Verdict → Type 0 = λ v. Derives p steps v in subst P fits derives, none fits)
says_of p s found steps (TooMany weight sets) said derives fits most blocked none = (
  let P : derived.Verdict → Type 0 = λ v. Derives p steps v in subst P fits.0 derives,
  fits.1 ∙ sym blocked,
)
says_of p s found steps Spent said derives fits most blocked none =
    let P : derived.Verdict → Type 0 = λ v. Derives p steps v in subst P fits derives

-- from the start: sets are blocked, and an End step is put
pub enumerates : (encoded : Encoded) (start between end : Checking) (found : List FoundSet) (verdict :
    Verdict) →
    IsStart encoded.formula (softs_of encoded.groups) →
    start.checker ≡ start_of (problem_in encoded start.accepts start.checker) →
    between.accepts ≡ start.accepts → Puts encoded found start between → EndsWith found between end verdict →
    EnumeratesIn encoded start end verdict
enumerates encoded start between end found verdict clauses same judge puts ends = record {
  steps = puts.steps ++ ends.last ∷ [];
  logs = logs_then puts.steps (ends.last ∷ []) start.told.logs between.told.logs end.told.logs puts.logs
      ends.told;
  reaches = after_append p.good puts.steps (ends.last ∷ []) (start_of p) s end.checker leads.reaches
      (one_after p.good s end.checker ends.last allowed ends.taken);
  news = news_append p.good puts.steps (ends.last ∷ []) (start_of p) s leads.reaches leads.news
      (ends_new s ends.last ends.said ends.says, tt);
  models = let P : List FoundSet → Type 0 = λ fs. All (HasModelFor p.formula p.softs) (sets_of fs) in
      subst P (sym blocked) leads.models;
  says = says_of p s found (puts.steps ++ ends.last ∷ []) verdict ends.said derives ends.fits
      ((limits_stay p.good (start_of p) puts.steps s leads.reaches).most_sets) blocked
      (λ said v. no_model p.good p.formula p.softs s found reached ends.last allowed (ends.says
      ∙ ap Some said) v);
}
  where
    p : Problem
    p = problem_in encoded start.accepts start.checker

    s : State
    s = between.checker

    leads : Leads p.good p.formula p.softs (start_of p) puts.steps s found
    leads = subst (λ (t : State). Leads p.good p.formula p.softs t puts.steps s found) same puts.leads

    allowed : error_of p.good s ends.last ≡ None
    allowed = subst (λ (j : Judge). error_of j s ends.last ≡ None) judge ends.allowed

    reached : IsReached p.good p.formula p.softs s found
    reached = record {
      start = clauses;
      conflicts = p.conflicts;
      most_sets = p.most_sets;
      steps = puts.steps;
      leads = leads;
    }

    blocked : blocked_by (puts.steps ++ ends.last ∷ []) ≡ found
    blocked =
        blocked_append puts.steps (ends.last ∷ [])
        ∙ (ap (λ fs. blocked_by puts.steps ++ fs) (ends_block s ends.last ends.said ends.says)
        ∙ (append-nil (blocked_by puts.steps) ∙ leads.blocks))

    derives : Derives p (puts.steps ++ ends.last ∷ []) ends.said
    derives = record {
      front = puts.steps;
      last = ends.last;
      steps_are = refl;
      formed = All-push IsFormed puts.steps ends.last leads.formed ends.formed;
      state = s;
      leads = leads.reaches;
      ends = allowed;
      says = ends.says;
    }
