-- What steps over a faithful encoding derive holds of the program.
use Rattle.std.proofs.Common.{◌≡◌, ℕ, suc, zero, ◌<◌, List, [], ◌∷◌, length, All, refl, sym, ◌∙◌, ap, subst, arith}
use Rattle.std.specs.Prelude.{Contains, get_or}
use Rattle.ba_derivations.proofs.VerdictLaws.{good_runs, located, no_repair, ordered, spent, too_many}
use Rattle.ba_derivations.specs.Derivations as derived
use Rattle.ba_derivations.specs.Derivations.{AreAllLeast, HaveSameSets, IsGood, Problem, blocked_by, sets_of}
use Rattle.ba_derivations.specs.Encodings.{IsFaithful}
use Rattle.ba_derivations.specs.declared.verdict.FoundSet.{FoundSet}
use Rattle.ba_derivations.specs.declared.verdict.Verdict.{Verdict}
use Rattle.ba_derivations.specs.declared.verdict.Verdict.TheVariants.{Located, NoRepair, TooMany, Spent}
use Rattle.ba_enum.specs.Enumerating.{Enumerates, HaveSame, Says}
use Rattle.ba_enum.specs.Leading.{LeavesBetween}
use Rattle.ba_derivations.specs.Handing.{problem_of}
use Rattle.ba_localise.specs.Verdicts.{AreLocated, Finds, IsVerdict, LeavesDerivation, leaves_steps}
use Rattle.ba_steps.specs.Sinks.{Logs, Rose, Told, with_told}
use Rattle.ba_steps.specs.declared.sink.Basis.{Basis}
use Rattle.ba_steps.specs.declared.step.CertStep.{CertStep}
use Rattle.ba_checker.specs.Puts.{with_steps}
use Rattle.ba_checker.specs.States.{State, first_state}
use Rattle.ba_choices.specs.Judges.{Judge}
use Rattle.ba_tree.specs.Least.{WeightList}

-- LISTS with the same sets and runs

-- a set that is found stands there with a run
record HasRun (bs : List FoundSet) (set : List ℕ) : Type 0 where
  found : FoundSet
  among : Contains bs found
  is : found.groups ≡ set

next-run : (b : FoundSet) (bs : List FoundSet) (set : List ℕ) → HasRun bs set → HasRun (b ∷ bs) set
next-run b bs set has = record {
  found = has.found;
  among = (suc has.among.0, omega (arith, has.among.1), has.among.2);
  is = has.is;
}

has-run : (bs : List FoundSet) (set : List ℕ) → Contains (sets_of bs) set → HasRun bs set
has-run [] set (k, few, is) = absurd (omega (arith, few))
has-run (b ∷ bs) set (zero, few, is) = record { found = b; among = (0, omega arith, refl); is = is }
has-run (b ∷ bs) set (suc k, few, is) = next-run b bs set (has-run bs set (k, omega (arith, few), is))

run-has : (bs : List FoundSet) (b : FoundSet) → Contains bs b → Contains (sets_of bs) b.groups
run-has [] b (k, few, is) = absurd (omega (arith, few))
run-has (c ∷ bs) b (zero, few, is) = (0, omega arith, ap (λ (x : FoundSet). x.groups) is)
run-has (c ∷ bs) b (suc k, few, is) =
    let rest = run-has bs b (k, omega (arith, few), is) in (suc rest.0, omega (arith, rest.1), rest.2)

same-sets : (xs ys : List FoundSet) → HaveSame xs ys → HaveSameSets (sets_of xs) (sets_of ys)
same-sets xs ys same set = (forth, back) where
  forth : Contains (sets_of xs) set → Contains (sets_of ys) set
  forth at = let has = has-run xs set at in
      subst (Contains (sets_of ys)) has.is (run-has ys has.found ((same has.found).0 has.among))

  back : Contains (sets_of ys) set → Contains (sets_of xs) set
  back at = let has = has-run ys set at in
      subst (Contains (sets_of xs)) has.is (run-has xs has.found ((same has.found).1 has.among))

same-runs : (good : Judge) (xs ys : List FoundSet) → HaveSame xs ys → All (IsGood good) ys →
    All (IsGood good) xs
same-runs good xs ys same runs k d few =
    let x : FoundSet = get_or xs k d in
    let at = (same x).0 (k, few, get-same xs k d few) in
    subst (IsGood good) at.2 (runs at.0 x at.1)
  where
    get-same : (zs : List FoundSet) (i : ℕ) (e : FoundSet) → i < length zs →
        get_or zs i (get_or zs i e) ≡ get_or zs i e
    get-same [] i e less = absurd (omega (arith, less))
    get-same (z ∷ zs) zero e less = refl
    get-same (z ∷ zs) (suc i) e less = get-same zs i e (omega (arith, less))

-- the problem that a formula with its soft literals poses
abbrev problem : Basis → Judge → ℕ → ℕ → Problem
problem begun = problem_of (record { begun = begun; steps = [] })

-- WHAT IS DERIVED holds
module _ (weights : WeightList) (p : Problem) (faithful : IsFaithful p.formula p.softs weights p.good)
    (steps : List CertStep) where
  all-located : (weight : ℕ) (sets : List FoundSet) → Says p steps (Located weight sets)
      → AreLocated weights p.good p.most_sets weight sets
  all-located weight sets says =
      let all : AreAllLeast weights p.good weight (sets_of (blocked_by steps)) =
      located weights p steps weight (sets_of (blocked_by steps)) (faithful, says.0) in
      let same : HaveSameSets (sets_of sets) (sets_of (blocked_by steps)) =
      same-sets sets (blocked_by steps) says.1 in
      record {
        least = ordered weights p.good weight (sets_of (blocked_by steps)) (sets_of sets) all same says.2;
        some = λ none. all.some (no-sets (sets_of (blocked_by steps)) (λ set at.
            absurd (nothing set (subst (λ bs. Contains (sets_of bs) set) none ((same set).1 at)))));
        each_weighs = λ set at. all.each_weighs set ((same set).0 at);
        runs = same-runs p.good sets (blocked_by steps) says.1
            (good_runs p steps (derived.Located weight (sets_of (blocked_by steps))) says.0);
        few = says.3;
      }
    where
      nothing : (set : List ℕ) → Contains [] set → ⊥
      nothing set (k, few, is) = omega (arith, few)

      no-sets : (sets : List (List ℕ)) → ((set : List ℕ) → Contains sets set → ⊥) → sets ≡ []
      no-sets [] none = refl
      no-sets (set ∷ rest) none = absurd (none set (0, omega arith, refl))

  pub concluded : (verdict : Verdict) → Says p steps verdict
      → IsVerdict weights p.good p.conflicts p.most_sets steps verdict
  concluded (Located weight sets) says = all-located weight sets says
  concluded NoRepair says = no_repair weights p steps (faithful, says.0)
  concluded (TooMany weight sets) says = (
    too_many weights p steps weight (sets_of sets) (faithful, says.0),
    let runs : All (IsGood p.good) (blocked_by steps) =
        good_runs p steps (derived.TooMany weight (sets_of sets)) says.0 in
        subst (λ (bs : List FoundSet). All (IsGood p.good) bs) (sym says.1) runs,
  )
  concluded Spent says = spent p steps says

-- WHAT WAS HANDED ON shows the verdict
pub finds : (weights : WeightList) (good : Judge) (begun : Basis) (s last : State) (conflicts most : ℕ)
    (old mid new : Told) (verdict : Verdict) → IsFaithful begun.formula begun.softs weights good
    → s ≡ first_state begun.formula begun.softs conflicts most → mid.over ≡ with_told begun old.over
    → mid.logs ≡ old.logs → new.over ≡ mid.over
    → Enumerates (problem begun good s.budget s.most_sets) mid.logs verdict last new.logs
    → Finds weights good conflicts most old new verdict
finds weights good begun s last conflicts most old mid new verdict faithful starts begins stay over has =
    let p : Problem = problem begun good conflicts most in
    let is : problem begun good s.budget s.most_sets ≡ p =
    ap (λ (n : ℕ). problem begun good n s.most_sets) (ap (λ (t : State). t.budget) starts)
    ∙ ap (problem begun good conflicts) (ap (λ (t : State). t.most_sets) starts) in
    let put : Enumerates p mid.logs verdict last new.logs =
    subst (λ (q : Problem). Enumerates q mid.logs verdict last new.logs) is has in
    record {
      derivation = record { begun = begun; steps = put.steps };
      hands = record { over = over ∙ begins; logs = put.logs ∙ ap (with_steps put.steps) stay };
      shows = record {
        faithful = faithful;
        news = put.news;
        says = put.says;
        is_verdict = concluded weights p faithful put.steps verdict put.says;
      };
    }

-- and what is left of it, whatever was answered
pub left : (weights : WeightList) (good : Judge) (begun : Basis) (s last : State) (conflicts most : ℕ)
    (old mid new : Told) → IsFaithful begun.formula begun.softs weights good
    → s ≡ first_state begun.formula begun.softs conflicts most → mid.over ≡ with_told begun old.over
    → mid.logs ≡ old.logs → new.over ≡ mid.over → LeavesBetween good s mid.logs last new.logs
    → LeavesDerivation weights good conflicts most old new
left weights good begun s last conflicts most old mid new faithful starts begins stay over has =
    let started : LeavesBetween good (first_state begun.formula begun.softs conflicts most) mid.logs last
    new.logs =
    subst (λ (t : State). LeavesBetween good t mid.logs last new.logs) starts has in
    leaves_steps begun last faithful (over ∙ begins)
    (subst (λ (logs : Logs). LeavesBetween good (first_state begun.formula begun.softs conflicts most) logs
    last
    new.logs)
    stay started)

-- the same of equal judges, states and logs
pub leaves-same : (good better : Judge) (s t last end : State) (old first new final : Logs) → good ≡ better →
    s ≡ t
    → old ≡ first → last ≡ end → new ≡ final → LeavesBetween good s old last new → LeavesBetween better t
    first end final
leaves-same good better s t last end old first new final judges starts begins ends stops has =
    subst (λ (logs : Logs). LeavesBetween better t first end logs) stops
    (subst (λ (e : State). LeavesBetween better t first e new) ends
    (subst (λ (logs : Logs). LeavesBetween better t logs last new) begins
    (subst (λ (u : State). LeavesBetween better u old last new) starts
    (subst (λ (g : Judge). LeavesBetween g s old last new) judges has))))

-- A COUNT that rose, by equal counts
pub rose-same : (a b c d : ℕ) → a ≡ c → b ≡ d → Rose a b → Rose c d
rose-same a b c d first second rose = subst (λ (n : ℕ). Rose n d) first (subst (Rose a) second rose)
